use Rattle.std.proofs.Common.{ℕ, List, [], ◌∷◌, refl, ap, ◌∙◌}
use Rattle.bus.specs.declared.message.Body.{Body}
use Rattle.bus.specs.declared.bodies.SlotsBody.TheVariants.{Copy}
use Rattle.bus.specs.declared.message.Body.TheVariants.{Slots}
use Rattle.migrate.specs.Sending.{frozen}
use Rattle.move_rows.proofs.SendingLemmas.{sends_copy}
use Rattle.node_step.specs.Copies.{pairs_at}
use Rattle.node_step.specs.Orders.{with_moves}
use Rattle.node_step.specs.Requests.{using_up}
use Rattle.move_rows.proofs.migrations.send_copy.Goals as goal

pub returns : goal.returns
returns g c =
    let old = c.args.node.now in
    let wait = c.args.wait in
    sends_copy old (with_moves (using_up old c.args.conn) (frozen old.moves wait.id.slot wait.id.copy c.args.keys)) c.args.conn c.args.keys c.args.to wait _ c.draft_parked.new.draft c.requires.leaves
    (c.in_ok-bodies.ensures ∙ ap (λ (body : ℕ × Body). body ∷ []) c.in_ok-body.ensures
    ∙ ap (λ (keys : List (List ℕ)). (c.args.to, Slots (Copy wait.id (pairs_at old.keyspace keys))) ∷ []) c.as_slice.ensures)
    (c.draft_parked.ensures _ refl)
