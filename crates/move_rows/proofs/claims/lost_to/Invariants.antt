use Rattle.std.proofs.Common.{◌≡◌, filter, take}
use Rattle.slot_table.specs.Table.{owner_at}
use Rattle.node_step.specs.Claiming.{is_owner}
use Rattle.move_rows.proofs.claims.lost_to.Given as goal

-- of the slots so far those of the node are listed
abbrev pub invariant-loop-slot : goal.invariant-loop-slot
invariant-loop-slot g l = l.lost.items ≡ filter (λ slot. is_owner (owner_at l.node.table slot) l.node.number) (take l.slot-index l.slot-items)
