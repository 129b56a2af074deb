-- Plans on the keys of a slot.
use Rattle.std.proofs.Common.{◌≡◌, ℕ, sym, ap, ◌∙◌}
use Rattle.keyspace.proofs.Parts.{part_again, parts_make_the_keyspace}
use Rattle.keyspace.specs.Keyspace.{Keyspace}
use Rattle.keyspace.specs.Plan.{committed}
use Rattle.keyspace.specs.declared.plans.Plan.{Plan}
use Rattle.slot_store.specs.InSlot.{in_slot, is_in_slot, IsCommittedInSlot, LiesInSlot}

-- a plan that leads to a keyspace leaves nothing in other slots
pub committed_lies : (slot : ℕ) (plan : Plan) (old new : Keyspace) → IsCommittedInSlot slot plan old new → LiesInSlot slot (committed (in_slot slot old) plan)
committed_lies slot plan old new is = ap (in_slot slot) (sym is.inside) ∙ part_again (is_in_slot slot) new ∙ is.inside

-- it leads to one keyspace alone
pub committed_one : (slot : ℕ) (plan : Plan) (old m n : Keyspace) → IsCommittedInSlot slot plan old m → IsCommittedInSlot slot plan old n → m ≡ n
committed_one slot plan old m n one other = parts_make_the_keyspace (is_in_slot slot) m n (one.inside ∙ sym other.inside) (one.outside ∙ sym other.outside)
