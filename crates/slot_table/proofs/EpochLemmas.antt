-- The claim to the same slots in another epoch rises as before.
use Rattle.std.proofs.Common.{◌≡◌, ℕ, zero, suc, List, [], ◌∷◌, length, refl, ap, arith}
use Rattle.std.specs.Prelude.{slice_index_or}
use Rattle.key_slot.specs.declared.slots.SlotRange.{SlotRange}
use Rattle.slot_table.specs.Claims.{IsRising, in_epoch}
use Rattle.slot_table.specs.declared.runs.Run.{Run}

same_length : (epoch : ℕ) (claim : List (Run ℕ)) → length (in_epoch epoch claim) ≡ length claim
same_length epoch [] = refl
same_length epoch (run ∷ runs) = ap suc (same_length epoch runs)

same_slots : (epoch : ℕ) (claim : List (Run ℕ)) (k : ℕ) (other : Run ℕ) → (slice_index_or (in_epoch epoch claim) k other).slots ≡ (slice_index_or claim k other).slots
same_slots epoch [] k other = refl
same_slots epoch (run ∷ runs) zero other = refl
same_slots epoch (run ∷ runs) (suc k) other = same_slots epoch runs k other

pub rising_in_epoch : (epoch : ℕ) (claim : List (Run ℕ)) → IsRising claim → IsRising (in_epoch epoch claim)
rising_in_epoch epoch claim rising = λ i j other before within.
    let ends = ap (λ (slots : SlotRange). slots.last) (same_slots epoch claim i other) in
    let begins = ap (λ (slots : SlotRange). slots.first) (same_slots epoch claim j other) in
    let many = same_length epoch claim in
    let apart = rising i j other before (omega arith) in
    omega arith
