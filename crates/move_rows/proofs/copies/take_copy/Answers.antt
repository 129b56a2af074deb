use Rattle.std.proofs.Common.{ap, refl, ◌∙◌}
use Rattle.slot_state.specs.Moves.{move_of}
use Rattle.migrate.specs.Arriving.{arrival_verdict}
use Rattle.node_step.specs.State.{NodeState}
use Rattle.node_step.specs.Streams.{written_by_pairs}
use Rattle.resp2.specs.Stream.{stream_spelling}
use Rattle.move_rows.proofs.ArrivalLemmas.{ignores_copy, installs_copy, repeats_copy}
use Rattle.move_rows.proofs.WriteLemmas.{copy_written}
use Rattle.move_rows.proofs.copies.take_copy.Goals as goal

pub returns-in_ok-bytes-in-Installs-clause-draft : goal.returns-in_ok-bytes-in-Installs-clause-draft
returns-in_ok-bytes-in-Installs-clause-draft g c =
    let id = c.args.id in
    installs_copy c.args.node.now c.args.from id c.args.pairs.now c.pairs_fit-fits.result c.arrival_verdict-verdict.result _ _ c.in_ok-plan-in-Installs.plan c.draft_releases.new.draft
    (c.arrival_verdict-verdict.ensures ∙ ap (λ move. arrival_verdict move c.args.from id.number id.copy c.pairs_fit-fits.result) (c.get.ensures ∙ ap (λ (node : NodeState). move_of node.moves id.slot) c.node.view_is))
    c.pairs_fit-fits.ensures c.new.ensures (c.in_ok-bodies.ensures ∙ c.acknowledgement-word.ensures) c.in-Installs.is c.in_ok-plan-in-Installs.ensures c.draft_releases.ensures

pub returns-in-Repeats-clause-draft : goal.returns-in-Repeats-clause-draft
returns-in-Repeats-clause-draft g c =
    let id = c.args.id in
    repeats_copy c.args.node.now c.args.from id c.args.pairs.now c.pairs_fit-fits.result c.arrival_verdict-verdict.result _ _ c.args.draft.now.plan c.draft_releases-in-Repeats.new.draft
    (c.arrival_verdict-verdict.ensures ∙ ap (λ move. arrival_verdict move c.args.from id.number id.copy c.pairs_fit-fits.result) (c.get.ensures ∙ ap (λ (node : NodeState). move_of node.moves id.slot) c.node.view_is))
    c.pairs_fit-fits.ensures c.new-in-Repeats.ensures (c.in_ok-bodies.ensures ∙ c.acknowledgement-word.ensures) c.in-Repeats.is c.draft_releases-in-Repeats.ensures

pub returns-in-Ignored-clause-draft : goal.returns-in-Ignored-clause-draft
returns-in-Ignored-clause-draft g c =
    let id = c.args.id in
    ignores_copy c.args.node.now c.args.from id c.args.pairs.now c.pairs_fit-fits.result c.arrival_verdict-verdict.result _ _ c.args.draft.now.plan c.draft_releases-in-Ignored.new.draft
    (c.arrival_verdict-verdict.ensures ∙ ap (λ move. arrival_verdict move c.args.from id.number id.copy c.pairs_fit-fits.result) (c.get.ensures ∙ ap (λ (node : NodeState). move_of node.moves id.slot) c.node.view_is))
    c.pairs_fit-fits.ensures c.new-in-Ignored.ensures (c.in_ok-bodies.ensures ∙ c.acknowledgement-word.ensures) c.in-Ignored.is c.draft_releases-in-Ignored.ensures

pub returns-in_ok-bytes-in-Installs-clause-written : goal.returns-in_ok-bytes-in-Installs-clause-written
returns-in_ok-bytes-in-Installs-clause-written g c =
    let id = c.args.id in
    copy_written c.args.node.now c.args.from id c.args.pairs.now c.pairs_fit-fits.result c.arrival_verdict-verdict.result _ c.in_ok-bytes-in-Installs.bytes.items
    (c.arrival_verdict-verdict.ensures ∙ ap (λ move. arrival_verdict move c.args.from id.number id.copy c.pairs_fit-fits.result) (c.get.ensures ∙ ap (λ (node : NodeState). move_of node.moves id.slot) c.node.view_is))
    c.pairs_fit-fits.ensures c.in-Installs.is
    (c.in_ok-bytes-in-Installs.ensures ∙ ap (λ (node : NodeState). stream_spelling (written_by_pairs node.keyspace c.args.pairs.now)) c.node.view_is)

pub returns-in-Repeats-clause-written : goal.returns-in-Repeats-clause-written
returns-in-Repeats-clause-written g c =
    let id = c.args.id in
    copy_written c.args.node.now c.args.from id c.args.pairs.now c.pairs_fit-fits.result c.arrival_verdict-verdict.result _ _
    (c.arrival_verdict-verdict.ensures ∙ ap (λ move. arrival_verdict move c.args.from id.number id.copy c.pairs_fit-fits.result) (c.get.ensures ∙ ap (λ (node : NodeState). move_of node.moves id.slot) c.node.view_is))
    c.pairs_fit-fits.ensures c.in-Repeats.is c.new-in-Repeats-2.ensures.items

pub returns-in-Ignored-clause-written : goal.returns-in-Ignored-clause-written
returns-in-Ignored-clause-written g c =
    let id = c.args.id in
    copy_written c.args.node.now c.args.from id c.args.pairs.now c.pairs_fit-fits.result c.arrival_verdict-verdict.result _ _
    (c.arrival_verdict-verdict.ensures ∙ ap (λ move. arrival_verdict move c.args.from id.number id.copy c.pairs_fit-fits.result) (c.get.ensures ∙ ap (λ (node : NodeState). move_of node.moves id.slot) c.node.view_is))
    c.pairs_fit-fits.ensures c.in-Ignored.is c.new-in-Ignored-2.ensures.items
