use Rattle.std.proofs.Common.{length, ap, ◌∙◌, Option}
use Rattle.slot_table.proofs.MergeLemmas.{length-merged}
use Rattle.slot_table.specs.declared.entry.SlotEntry.{SlotEntry}
use Rattle.step_making.proofs.finishing.lose_slots.Goals as goal

pub invariant_of-node : goal.invariant_of-node
invariant_of-node g c = (ap (length {A = Option SlotEntry}) c.take.ensures ∙ length-merged c.node.inside.table c.args.claim.now c.args.from, c.node.invariant.1)
