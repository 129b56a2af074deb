-- What nodes sent or told about a slot, and what stays true of it (Redis Cluster specification, "ASK redirection",
-- "Hash slots configuration propagation"; the messages of a move are ours).
use Rattle.std.specs.Prelude.{◌≡◌, ◌≤◌, ℕ, ◌⊎◌, List, Option, Some, None, Contains}
use Rattle.std.specs.Map.{keys_of}
use Rattle.slot_table.specs.declared.entry.SlotEntry.{SlotEntry}
use Rattle.slot_state.specs.declared.running.Move.TheVariants.{Leaves}
use Rattle.one_slot.specs.View.{View, Views}
use Rattle.one_slot.specs.Slot.{IsAtMost, IsOver, IsLeaving, IsDrained, installed}

-- a message of a move, a claim of the slot, or the answer ASK to a command with these keys
pub data Sent (X : Type 0) : Type 0 where
  Drained : (from to number epoch : ℕ) → Sent X
  Copy : (from to number count : ℕ) → List (List ℕ × X) → Sent X
  Ack : (from to number count : ℕ) → Sent X
  Claimed : (from epoch : ℕ) → Sent X
  Told : (by to number : ℕ) → List (List ℕ) → Sent X

-- these keys have these values
abbrev pub HasAll : {X : Type 0} → (List ℕ → Option X) → List (List ℕ × X) → Type 0
HasAll {X} value pairs = (key : List ℕ) (x : X) → Contains pairs (key, x) → value key ≡ Some x

-- a copy comes from the holder, and the last one has the frozen keys with the values that they have there
pub record IsCopied {X : Type 0} (top : SlotEntry) (holder : View X) (from to number count : ℕ) (pairs : List (List ℕ × X)) : Type 0 where
  pub source : from ≡ top.owner
  pub copies : ℕ
  pub frozen : Option (List (List ℕ))
  pub leaves : holder.move ≡ Some (Leaves to number copies frozen)
  pub first : 1 ≤ count
  pub made : count ≤ copies
  pub newest : (outstanding : List (List ℕ)) → count ≡ copies → frozen ≡ Some outstanding → (outstanding ≡ keys_of pairs) × HasAll holder.value pairs

-- what an acknowledgement names is installed, or its move is over
pub record IsAcknowledged {X : Type 0} (top : SlotEntry) (holder view : View X) (reached : ℕ) (from to number count : ℕ) : Type 0 where
  pub last : number ≤ reached
  pub got : to ≡ top.owner → IsLeaving holder from number → count ≤ installed view.move top.owner number

-- the holder told of the other node, and has none of the keys
pub record IsTold {X : Type 0} (top : SlotEntry) (holder : View X) (by to number : ℕ) (keys : List (List ℕ)) : Type 0 where
  pub teller : by ≡ top.owner
  pub leaves : IsLeaving holder to number
  pub none : (key : List ℕ) → Contains keys key → holder.value key ≡ None

-- what was sent is still true, or its move is over
abbrev pub IsSent : {X : Type 0} → SlotEntry → Views X → Sent X → Type 0
IsSent top views (Drained from to number epoch) = IsOver (views to) number ⊎ IsDrained top (views top.owner) from to number epoch
IsSent top views (Copy from to number count pairs) = IsOver (views to) number ⊎ IsCopied top (views top.owner) from to number count pairs
IsSent top views (Ack from to number count) = IsAcknowledged top (views top.owner) (views from) (views to).last from to number count
IsSent top views (Claimed from epoch) = IsAtMost top (record { epoch = epoch; owner = from })
IsSent top views (Told by to number keys) = IsOver (views to) number ⊎ IsTold top (views top.owner) by to number keys

-- of a slot without an owner nothing is ever sent or told
abbrev pub IsNeverSent : {X : Type 0} → Sent X → Type 0
IsNeverSent sent = ⊥
