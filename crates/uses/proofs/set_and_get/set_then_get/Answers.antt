use Rattle.std.proofs.Common.{arith, sym, ◌∙◌}
use Rattle.uses.proofs.FewWords.{key_is_short}
use Rattle.uses.proofs.NodeLemmas.{set_is_got, one_entry}
use Rattle.uses.proofs.OutcomeLemmas.{if_ok, on_ok_from_if_ok}
use Rattle.uses.proofs.set_and_get.set_then_get.Goals as goal

pub get_words-requires : goal.get_words-requires
get_words-requires g c = key_is_short c.args.key.now c.args.value.now c.requires

pub returns-clause-answer : goal.returns-clause-answer
returns-clause-answer g c =
    let opened = c.in_ok-opened.ensures.ok in
    let set = c.in_ok-_set.ensures.ok in
    if_ok c.ask_node-3.result c.ask_node-3.ensures.ok (λ entered got serves.
    let a = opened.makes.step in
    let b = rw c.in_ok-set.ensures at set.makes.step in
    let d = rw c.in_ok-get.ensures at got.makes.step in
    set_is_got _ _ _ _ _ _ _ c.in-Opened.conn c.args.key.now c.args.value.now _ _ _ a (sym c.response.ensures ∙ c.in-Opened.is) b d serves)

pub returns-clause-entered : goal.returns-clause-entered
returns-clause-entered g c =
    let opened = one_entry _ _ _ _ c.in_ok-opened.ensures.ok in
    let set = one_entry _ _ _ _ c.in_ok-_set.ensures.ok in
    on_ok_from_if_ok c.ask_node-3.result c.ask_node-3.ensures.ok (λ entered got.
    let third = one_entry _ _ _ _ got in
    omega (arith, opened, set, third))
