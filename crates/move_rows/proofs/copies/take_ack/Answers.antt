use Rattle.std.proofs.Common.{ℕ, List, map, refl, ap, ◌∙◌}
use Rattle.slot_state.specs.Moves.{move_of}
use Rattle.migrate.specs.Acknowledging.{acknowledged_keys}
use Rattle.node_step.specs.State.{NodeState}
use Rattle.move_rows.specs.LastKeys.{drained_by_ack}
use Rattle.move_rows.proofs.Acknowledging.{acknowledges, nothing_acknowledged}
use Rattle.move_rows.proofs.WriteLemmas.{ack_written}
use Rattle.node_step.specs.Streams.{deletion}
use Rattle.resp2.specs.Stream.{stream_spelling}
use Rattle.move_rows.proofs.copies.take_ack.Goals as goal

pub returns-in_default-clause-draft : goal.returns-in_default-clause-draft
returns-in_default-clause-draft g c =
    let id = c.args.id in
    nothing_acknowledged c.args.node.now c.args.from id c.draft_change.new.draft c.acknowledged_keys.result c.in_default.is
    (c.acknowledged_keys.ensures
    ∙ ap (λ move. acknowledged_keys move c.args.from id.number id.copy) (c.get.ensures ∙ ap (λ (node : NodeState). move_of node.moves id.slot) c.node.view_is))
    (c.draft_change.ensures _ refl)

pub returns-clause-draft : goal.returns-clause-draft
returns-clause-draft g c =
    let id = c.args.id in
    acknowledges c.args.node.now c.args.from id c.draft_releases.new.draft c.acknowledged_keys.result c.in-Some.keys c.done.result _ _ c.in-Some.is
    (c.acknowledged_keys.ensures
    ∙ ap (λ move. acknowledged_keys move c.args.from id.number id.copy) (c.get.ensures ∙ ap (λ (node : NodeState). move_of node.moves id.slot) c.node.view_is))
    (c.in_ok-bodies.ensures ∙ c.drained_by_ack.ensures ∙ ap (drained_by_ack c.args.node.now id.slot) c.as_slice.ensures) c.in_ok-released.ensures c.done.ensures c.draft_releases.ensures

pub returns-in_default-clause-written : goal.returns-in_default-clause-written
returns-in_default-clause-written g c =
    let id = c.args.id in
    ack_written c.args.node.now c.args.from id c.acknowledged_keys.result _ _
    (c.acknowledged_keys.ensures
    ∙ ap (λ move. acknowledged_keys move c.args.from id.number id.copy) (c.get.ensures ∙ ap (λ (node : NodeState). move_of node.moves id.slot) c.node.view_is))
    c.in_default.is c.new.ensures.items

pub returns-clause-written : goal.returns-clause-written
returns-clause-written g c =
    let id = c.args.id in
    ack_written c.args.node.now c.args.from id c.acknowledged_keys.result _ c.in_ok-bytes.bytes.items
    (c.acknowledged_keys.ensures
    ∙ ap (λ move. acknowledged_keys move c.args.from id.number id.copy) (c.get.ensures ∙ ap (λ (node : NodeState). move_of node.moves id.slot) c.node.view_is))
    c.in-Some.is (c.in_ok-bytes.ensures ∙ ap (λ (keys : List (List ℕ)). stream_spelling (map deletion keys)) c.as_slice-2.ensures)
