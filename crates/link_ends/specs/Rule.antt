-- The rule of a link (ours).
use Rattle.std.specs.Prelude.{◌≡◌, ℕ, Bool, true, List, ◌++◌}
use mathlib.Core.Option.{some}
use lib.ListN.{get_elem?}
use Rattle.link_ends.specs.declared.rule.Known.{Known}

-- what is known at an end
abbrev pub known : {T : Type 0} → Bool → Bool → List T → List T → Known T
known sends receives sent received = record { sends = sends; receives = receives; sent = sent; received = received }

-- an end that sends is the sender, and has sent all that was sent; one that receives is the receiver, and has received all that was received
pub record IsEnd {T : Type 0} (sender receiver : ℕ) (sent received : List T) (number : ℕ) (end : Known T) : Type 0 where
  pub sends : end.sends ≡ true → (number ≡ sender) × (end.sent ≡ sent)
  pub receives : end.receives ≡ true → (number ≡ receiver) × (end.received ≡ received)

-- one end sends at most, and one receives: what was sent is what was received, and then what waits
pub record ArrivesInOrder {T : Type 0} (waiting : List T) (ends : List (Known T)) : Type 0 where
  pub sender : ℕ
  pub receiver : ℕ
  pub sent : List T
  pub received : List T
  pub in_order : sent ≡ received ++ waiting
  pub are_ends : (number : ℕ) (end : Known T) → get_elem? ends number ≡ some end → IsEnd sender receiver sent received number end

-- these are the last of all
abbrev pub EndsWith : {T : Type 0} → List T → List T → Type 0
EndsWith all last = (before : List _) × (all ≡ before ++ last)
