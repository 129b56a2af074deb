use Rattle.std.proofs.Common.{◌∙◌, ap, sym}
use Rattle.slot_state.specs.declared.migrating.MigrateVerdict.{MigrateVerdict}
use Rattle.slot_state.specs.Migrating.{after_migrate}
use Rattle.node_step.specs.Orders.{drained_at_start, with_moves}
use Rattle.order_rows.proofs.OrderLemmas.{begins_drained}
use Rattle.order_rows.proofs.orders.drained_at_start.Goals as goal

pub returns-in-Begins : goal.returns-in-Begins
returns-in-Begins g c =
    let node = c.args.node.now in
    let slot = c.args.slot in
    c.drained_for.ensures ∙ sym (begins_drained node slot c.in-Begins.to c.in-Begins.number)
    ∙ ap (λ (verdict : MigrateVerdict). drained_at_start (with_moves node (after_migrate node.moves slot verdict)) slot verdict) (sym c.in-Begins.is)
