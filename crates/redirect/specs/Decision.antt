-- What a node does with a command (Redis Cluster specification, "MOVED Redirection", "ASK redirection",
-- "Multiple keys operations"; the order of the rows is ours).
use Rattle.std.specs.Prelude.{ℕ, ◌==◌, ◌&&◌, not, Bool, true, false, if◌then◌else◌, List, [], ◌∷◌, Option, Some, None}
use Rattle.std.specs.Borrow.{Bor}
use Rattle.std.specs.List.{list_any}
use Rattle.std.specs.Option.{option_copied}
use Rattle.key_slot.specs.Slot.{hash_slot}
use Rattle.slot_table.specs.declared.entry.SlotEntry.{SlotEntry}
use Rattle.slot_table.specs.Table.{owner_at}
use Rattle.slot_state.specs.Moves.{Moves, move_of}
use Rattle.slot_state.specs.State.{state_of}
use Rattle.slot_state.specs.declared.order.Standing.{Standing}
use Rattle.slot_state.specs.declared.running.Move.{Move}
use Rattle.slot_state.specs.declared.running.Move.TheVariants.{Leaves, Comes}
use Rattle.slot_state.specs.declared.state.SlotState.{SlotState}
use Rattle.slot_state.specs.declared.state.SlotState.TheVariants.{Owned, Foreign, Moving}
use Rattle.redirect.specs.Asked.{Asked, is_right, are_several, is_frozen, all_there, none_there}
use Rattle.redirect.specs.declared.decision.Decision.{Decision}
use Rattle.redirect.specs.declared.decision.Decision.TheVariants.{Serve, ServeImport, CrossSlot, Down, TryAgain, Ask, Moved}
use Rattle.redirect.specs.declared.decision.Reason.TheVariants.{Frozen, HandingOver, SomeAreMissing}

-- a slot without an owner is down
abbrev pub if_owned : Option ℕ → Decision → Decision
if_owned None decision = Down
if_owned (Some owner) decision = decision

-- the owner of the slot is named
abbrev pub at_owner : ℕ → Option ℕ → Decision
at_owner slot None = Down
at_owner slot (Some owner) = Moved slot owner

-- in a slot that leaves: a key is frozen, all are there, none is there, some are there
-- (a frozen key isn't served, or this goes wrong: node 0 sends b = 1 to node 1, then serves SET b 2;
-- the acknowledgement deletes b = 2 at node 0, and node 1 goes on with b = 1)
abbrev pub leaving : Decision → Option (List (List ℕ)) → Asked → Decision
leaving elsewhere frozen asked =
    if is_frozen frozen asked.keys then TryAgain Frozen
    else (if all_there asked then Serve
    else (if none_there asked then elsewhere else TryAgain SomeAreMissing))

-- in a slot that comes, after the right ASKING: several keys have to be there, all of them
-- (else: a came to node 1, b is still at node 0; node 1 answers MGET a b with null for b)
abbrev pub coming : ℕ → Asked → Decision
coming number asked = if are_several asked.keys && not (all_there asked) then TryAgain SomeAreMissing else ServeImport number

-- in a slot of its own: while the node hands its slots over to a replica, nothing is served
-- (else: node 0 tells its replica where its stream ends, and then serves SET b 2; the replica takes its place with b as it was)
abbrev pub owned : Asked → Decision
owned asked = if asked.paused then TryAgain HandingOver else Serve

-- in one slot, by its owner and what this node does with it
abbrev pub in_slot : ℕ → Option ℕ → SlotState Move → Asked → Decision
in_slot slot owner (Moving (Comes from number last drained)) asked = if is_right asked.asking number then coming number asked else at_owner slot owner
in_slot slot owner (Moving (Leaves to number copies frozen)) asked = if_owned owner (leaving (Ask slot to number) frozen asked)
in_slot slot owner Owned asked = if_owned owner (owned asked)
in_slot slot owner Foreign asked = at_owner slot owner

-- in a slot with a move
abbrev pub in_moving_slot : ℕ → Option ℕ → Move → Asked → Decision
in_moving_slot slot owner move asked = in_slot slot owner (Moving move) asked

-- in one slot, by what the node knows of itself and of the slot, and by the move of the slot
abbrev pub by_state : Standing → Option (Bor Move) → ℕ → Asked → Decision
by_state at running slot asked = in_slot slot at.owner (state_of at.owner (option_copied running) at.node) asked

-- what this node does with a slot
abbrev pub state_at : List (Option SlotEntry) → Moves → ℕ → ℕ → SlotState Move
state_at table moves node slot = state_of (owner_at table slot) (move_of moves slot) node

-- where the keys are in one slot
abbrev pub decision_at : List (Option SlotEntry) → Moves → ℕ → ℕ → Asked → Decision
decision_at table moves node slot asked = in_slot slot (owner_at table slot) (state_at table moves node slot) asked

-- a key hashes to another slot
abbrev pub has_other_slot : ℕ → List (List ℕ) → Bool
has_other_slot slot keys = list_any (λ key. not (hash_slot key == slot)) keys

-- by the keys: none, in two slots, in one
abbrev pub by_keys : List (Option SlotEntry) → Moves → ℕ → List (List ℕ) → Asked → Decision
by_keys table moves node [] asked = Serve
by_keys table moves node (key ∷ others) asked = if has_other_slot (hash_slot key) others then CrossSlot else decision_at table moves node (hash_slot key) asked

-- what the node decides
abbrev pub decision : List (Option SlotEntry) → Moves → ℕ → Asked → Decision
decision table moves node asked = by_keys table moves node asked.keys asked

-- the command is executed, here or in a slot that comes
abbrev pub is_served : Decision → Bool
is_served Serve = true
is_served (ServeImport number) = true
is_served CrossSlot = false
is_served Down = false
is_served (TryAgain reason) = false
is_served (Ask slot to number) = false
is_served (Moved slot to) = false
