use Rattle.std.proofs.Common.{◌≡◌, ℕ, Bool, List, Bor, is_some, map, ap, ap₂, ◌∙◌}
use Rattle.std.specs.FinMap as fin_map
use Rattle.command_table.specs.Keys.{data_keys}
use Rattle.redirect.specs.Asked.{asked}
use Rattle.redirect.specs.Decision.{decision}
use Rattle.node_step.specs.State.{NodeState, standing}
use Rattle.slot_state.specs.declared.order.Standing.{Standing}
use Rattle.key_rows.proofs.DecisionLemmas.{there_of_words}
use Rattle.key_rows.proofs.decisions.decision_in_move.Goals as goal

pub returns-clause-decision : goal.returns-clause-decision
returns-clause-decision g c =
    let node = c.args.node.now in
    let has : List ℕ → Bool = λ key. is_some (fin_map.get node.keyspace key) in
    let keyspace = ap (λ (state : NodeState). state.keyspace) c.node.view_is in
    let looked = c.in_ok-there.ensures ∙ ap₂ (λ keys (words : List (Bor (List ℕ))). map (λ word. is_some (fin_map.get keys word.now)) words) keyspace c.as_slice.ensures.value in
    let there : c.as_slice-2.result.now ≡ map has (data_keys c.args.command.now) = c.as_slice-2.ensures.value ∙ there_of_words has _ _ _ looked c.in_ok-words.ensures in
    let at : c.standing-at.result ≡ standing node c.args.slot = c.standing-at.ensures in
    c.decide_in_slot.ensures.value node.table node.moves (ap (λ (at : Standing). at.owner) at) c.requires.under_way (rw c.requires.keys c.requires.slot)
    ∙ ap (λ (at : Standing). decision node.table node.moves at.node (asked c.args.keys.now c.as_slice-2.result.now c.args.asking at.is_paused)) at
    ∙ ap₂ (λ named found. decision node.table node.moves node.number (record { keys = named; there = found; asking = c.args.asking; paused = is_some node.paused })) c.requires.keys there
