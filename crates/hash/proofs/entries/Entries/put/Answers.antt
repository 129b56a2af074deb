use Rattle.std.proofs.Common.{rules, ◌≡◌, [], position, Some, None, sym, ap, ◌∙◌}
use Rattle.hash.specs.Entries.{pairs_of, is_of}
use Rattle.hash.specs.Pairs.{value_of, field_changed}
use Rattle.hash.specs.declared.entries.Entries.{Entries}
use Rattle.hash.proofs.PlaceLemmas.{missing_from, stands_at}
use Rattle.hash.proofs.entries.Entries.put.Goals as goal

pub returns-in-Some-clause-old : goal.returns-in-Some-clause-old
returns-in-Some-clause-old c =
    let there : position (is_of c.args.field) c.in-Few.pairs.items ≡ Some c.in-Some.place = search rules in
    ap Some c.replace_at.ensures.old
    ∙ sym (stands_at c.in-Few.pairs.items c.args.field c.in-Some.place ([], c.replace_at.result) there).value
    ∙ sym (ap (λ (entries : Entries). value_of (pairs_of entries) c.args.field) c.in-Few.is)

pub returns-in-Some-clause-pairs : goal.returns-in-Some-clause-pairs
returns-in-Some-clause-pairs c =
    let there : position (is_of c.args.field) c.in-Few.pairs.items ≡ Some c.in-Some.place = search rules in
    c.replace_at.ensures.pairs
    ∙ sym ((stands_at c.in-Few.pairs.items c.args.field c.in-Some.place ([], c.args.value) there).set_there c.args.value)
    ∙ sym (ap (λ (entries : Entries). field_changed (pairs_of entries) c.args.field (Some c.args.value)) c.in-Few.is)

pub returns-in_ok-push-in-None-clause-old : goal.returns-in_ok-push-in-None-clause-old
returns-in_ok-push-in-None-clause-old c =
    let none : position (is_of c.args.field) c.in-Few.pairs.items ≡ None = search rules in
    sym (missing_from c.in-Few.pairs.items c.args.field none).value
    ∙ sym (ap (λ (entries : Entries). value_of (pairs_of entries) c.args.field) c.in-Few.is)

pub returns-in_ok-push-in-None-clause-pairs : goal.returns-in_ok-push-in-None-clause-pairs
returns-in_ok-push-in-None-clause-pairs c =
    let none : position (is_of c.args.field) c.in-Few.pairs.items ≡ None = search rules in
    c.in_ok-push-in-None.ensures.pairs
    ∙ sym ((missing_from c.in-Few.pairs.items c.args.field none).put_last c.args.value)
    ∙ sym (ap (λ (entries : Entries). field_changed (pairs_of entries) c.args.field (Some c.args.value)) c.in-Few.is)

pub returns-in_ok-map_with-in-None-2-clause-old : goal.returns-in_ok-map_with-in-None-2-clause-old
returns-in_ok-map_with-in-None-2-clause-old c =
    let none : position (is_of c.args.field) c.in-Few.pairs.items ≡ None = search rules in
    sym (missing_from c.in-Few.pairs.items c.args.field none).value
    ∙ sym (ap (λ (entries : Entries). value_of (pairs_of entries) c.args.field) c.in-Few.is)
