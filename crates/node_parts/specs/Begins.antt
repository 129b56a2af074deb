-- The half of a change that takes memory, and comes first.
use Rattle.std.specs.Prelude.{◌≡◌, None}
use Rattle.keyspace.specs.Keyspace.{Keyspace}
use Rattle.keyspace.specs.Plan.{committed}
use Rattle.keyspace.specs.declared.plans.Plan.{Plan}
use Rattle.node_parts.specs.declared.change.Change.{Change}
use Rattle.node_parts.specs.declared.change.Change.TheVariants.{Imports, Installs, Keys, Migrates}
use Rattle.slot_state.specs.Moves.{Moves, begun, move_of}
use Rattle.slot_state.specs.declared.running.Move.TheVariants.{Comes, Leaves}
use Rattle.slot_store.specs.InSlot.{IsCommittedInSlot, LiesInSlot, in_slot}

-- a plan has to be one on the keys of its slot, and a slot has one move at a time
abbrev pub CanBegin : Keyspace → Moves → Plan → Change → Type 0
CanBegin keyspace moves plan (Keys conn slot) = LiesInSlot slot (committed (in_slot slot keyspace) plan)
CanBegin keyspace moves plan (Imports conn slot from number) = move_of moves slot ≡ None
CanBegin keyspace moves plan (Migrates conn slot to number) = move_of moves slot ≡ None
CanBegin keyspace moves plan change = Unit {0}

-- keys change by it, or a move begins, or nothing comes of it
abbrev pub Begins : Keyspace → Moves → Plan → Change → Keyspace → Moves → Type 0
Begins keyspace moves plan (Keys conn slot) keys running = IsCommittedInSlot slot plan keyspace keys × (running ≡ moves)
Begins keyspace moves plan (Imports conn slot from number) keys running = (keys ≡ keyspace) × (running ≡ begun moves slot number (Comes from number 0 None))
Begins keyspace moves plan (Migrates conn slot to number) keys running = (keys ≡ keyspace) × (running ≡ begun moves slot number (Leaves to number 0 None))
Begins keyspace moves plan (Installs slot copy) keys running = (keys ≡ committed keyspace plan) × (running ≡ moves)
Begins keyspace moves plan change keys running = (keys ≡ keyspace) × (running ≡ moves)
