-- What follows from a decision (Redis Cluster specification, "MOVED Redirection", "ASK redirection").
use Rattle.std.specs.Prelude.{◌≡◌, ◌≢◌, ℕ, Bool, true, false, List, [], ◌∷◌, Option, Some, None, IsSome, IsTrue, All}
use Rattle.std.specs.Borrow.{Bor}
use Rattle.std.specs.List.{Contains}
use Rattle.std.specs.Option.{option_copied}
use Rattle.key_slot.specs.Slot.{hash_slot}
use Rattle.slot_table.specs.declared.entry.SlotEntry.{SlotEntry}
use Rattle.slot_table.specs.Table.{owner_at}
use Rattle.slot_state.specs.Moves.{Moves, move_of}
use Rattle.slot_state.specs.declared.order.Standing.{Standing}
use Rattle.slot_state.specs.declared.running.Move.{Move}
use Rattle.slot_state.specs.declared.running.Move.TheVariants.{Leaves, Comes}
use Rattle.slot_state.specs.declared.state.SlotState.{SlotState}
use Rattle.slot_state.specs.declared.state.SlotState.TheVariants.{Owned, Foreign, Moving}
use Rattle.redirect.specs.Asked.{Asked, asked, bytes_of}
use Rattle.redirect.specs.Decision.{decision, state_at}
use Rattle.redirect.specs.declared.asked.Asking.{Asking}
use Rattle.redirect.specs.declared.decision.Decision.{Decision}
use Rattle.redirect.specs.declared.decision.Decision.TheVariants.{CrossSlot, Moved}

-- two of the keys hash to different slots
pub record AreInTwoSlots (keys : List (List ℕ)) : Type 0 where
  pub one : List ℕ
  pub other : List ℕ
  pub has_one : Contains keys one
  pub has_other : Contains keys other
  pub differ : hash_slot one ≢ hash_slot other

-- the slot is this node's own, or leaves it
abbrev pub is_kept : SlotState Move → Bool
is_kept Owned = true
is_kept Foreign = false
is_kept (Moving (Leaves to number copies frozen)) = true
is_kept (Moving (Comes from number last drained)) = false

-- the slot of the key has an owner, which this node takes itself for
pub record IsOwned (table : List (Option SlotEntry)) (moves : Moves) (node : ℕ) (key : List ℕ) : Type 0 where
  pub assigned : IsSome (owner_at table (hash_slot key))
  pub kept : IsTrue (is_kept (state_at table moves node (hash_slot key)))

-- the slot of each key has an owner, which this node takes itself for
abbrev pub AreOwned : List (Option SlotEntry) → Moves → ℕ → List (List ℕ) → Type 0
AreOwned table moves node keys = All (IsOwned table moves node) keys

-- the first key, if there is one, hashes to the slot
abbrev pub IsSlotOf : ℕ → List (List ℕ) → Type 0
IsSlotOf slot [] = Unit {0}
IsSlotOf slot (key ∷ others) = hash_slot key ≡ slot

-- the keys all hash to the slot
abbrev pub AreInSlot : ℕ → List (List ℕ) → Type 0
AreInSlot slot keys = All (λ key. hash_slot key ≡ slot) keys

-- the keys all hash to the slot, unless the decision is that they are in more than one
abbrev pub AreInSlotUnlessCrossed : ℕ → List (List ℕ) → Decision → Type 0
AreInSlotUnlessCrossed slot keys made = made ≢ CrossSlot → AreInSlot slot keys

-- a decision that names another node has the slot of all keys, which that node owns
abbrev pub NamesOwner : List (Option SlotEntry) → List (List ℕ) → Decision → Type 0
NamesOwner table keys made = (slot to : ℕ) → made ≡ Moved slot to → (owner_at table slot ≡ Some to) × AreInSlot slot keys

-- the decision with a table and moves that have this owner and this move of the slot, where the first key hashes to it
abbrev pub IsDecision : Standing → Option (Bor Move) → ℕ → List (Bor (List ℕ)) → List Bool → Asking → Decision → Type 0
IsDecision at running slot keys there asking made =
    (table : List (Option SlotEntry)) (moves : Moves) → at.owner ≡ owner_at table slot → option_copied running ≡ move_of moves slot
    → IsSlotOf slot (bytes_of keys) → made ≡ decision table moves at.node (asked keys there asking at.is_paused)

-- the decision in a slot without a move, whatever keys are there and whatever the asking is: the first key hashes to it, and these are the others
abbrev pub IsDecisionAtRest : Standing → ℕ → List (List ℕ) → Decision → Type 0
IsDecisionAtRest at slot others made =
    (table : List (Option SlotEntry)) (moves : Moves) (first : List ℕ) (there : List Bool) (asking : Asking) → at.owner ≡ owner_at table slot → None ≡ move_of moves slot
    → hash_slot first ≡ slot → made ≡ decision table moves at.node (record { keys = first ∷ others; there = there; asking = asking; paused = at.is_paused })

-- what the rule decides of these keys and this asking, whether or not the node hands its slots over
abbrev pub IsByAsking : (Asked → Decision) → List (Bor (List ℕ)) → List Bool → Asking → Decision → Type 0
IsByAsking rule keys there asking made = (paused : Bool) → made ≡ rule (asked keys there asking paused)

-- what the rule decides of these keys, whatever the asking is
abbrev pub IsByKeys : (Asked → Decision) → List (Bor (List ℕ)) → List Bool → Decision → Type 0
IsByKeys rule keys there made = (asking : Asking) → IsByAsking rule keys there asking made
