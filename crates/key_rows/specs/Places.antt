-- The slot of a command's keys.
use Rattle.std.specs.Prelude.{◌≡◌, ℕ, List, [], ◌∷◌, Option, Some, None, All, if◌then◌else◌, ◌≢◌}
use Rattle.std.specs.FinMap as fin_map
use Rattle.keyspace.specs.Plan.{leaves_keys}
use Rattle.keyspace.specs.declared.plans.Plan.{Plan}
use Rattle.slot_store.specs.InSlot.{in_slot}
use Rattle.key_slot.specs.Slot.{hash_slot}
use Rattle.bus.specs.declared.message.Body.{Body}
use Rattle.node_step.specs.Slots.{drained, has_keys}
use Rattle.node_step.specs.State.{NodeState}
use Rattle.command_table.specs.Keys.{data_keys}
use Rattle.command_table.specs.declared.command.DataCommand.{DataCommand}
use Rattle.redirect.specs.declared.decision.Decision.{Decision}
use Rattle.redirect.specs.declared.decision.Decision.TheVariants.{CrossSlot}

-- there is a key, and the first is in the slot
abbrev pub IsFirstIn : ℕ → List (List ℕ) → Type 0
IsFirstIn slot [] = ⊥
IsFirstIn slot (key ∷ others) = hash_slot key ≡ slot

-- all keys are in the slot, or there is no key
abbrev pub IsPlaceOf : Option ℕ → List (List ℕ) → Type 0
IsPlaceOf None keys = keys ≡ []
IsPlaceOf (Some slot) keys = IsFirstIn slot keys × All (λ key. hash_slot key ≡ slot) keys

-- what is said of the slot by a plan that takes its last key
abbrev pub drained_at : NodeState → Option ℕ → Plan → List (ℕ × Body)
drained_at node None plan = []
drained_at node (Some slot) plan = if has_keys node.keyspace slot then (if leaves_keys (in_slot slot node.keyspace) plan then [] else drained node slot) else []

-- that is the slot of the command's keys, unless they lie in several
abbrev pub IsPlaceFor : DataCommand → Decision → Option ℕ → Type 0
IsPlaceFor command decision place = decision ≢ CrossSlot → IsPlaceOf place (data_keys command)

-- unless its keys lie in several slots, they all lie in that one
abbrev pub IsOneSlot : DataCommand → ℕ → Decision → Type 0
IsOneSlot command slot decision = decision ≢ CrossSlot → All (λ key. hash_slot key ≡ slot) (data_keys command)
