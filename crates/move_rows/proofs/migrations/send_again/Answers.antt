use Rattle.std.proofs.Common.{refl, ap, ◌∙◌}
use Rattle.node_step.specs.Copies.{outstanding}
use Rattle.node_step.specs.Requests.{using_up}
use Rattle.node_step.specs.State.{NodeState}
use Rattle.slot_state.specs.Moves.{move_of}
use Rattle.move_rows.proofs.SendingLemmas.{sends_again}
use Rattle.move_rows.proofs.migrations.send_again.Goals as goal

pub returns : goal.returns
returns g c =
    let old = c.args.node.now in
    let wait = c.args.wait in
    sends_again old (using_up old c.args.conn) c.args.conn wait _ c.draft_parked.new.draft
    (c.in_ok-bodies.ensures ∙ c.in_ok-body.ensures
    ∙ ap (outstanding old.keyspace wait.id.slot) (c.get.ensures ∙ ap (λ (node : NodeState). move_of node.moves wait.id.slot) c.node.view_is))
    (c.draft_parked.ensures _ refl)
