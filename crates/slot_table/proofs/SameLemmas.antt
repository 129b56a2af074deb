-- Runs that are equal one by one are the same.
use Rattle.std.proofs.Common.{◌≡◌, sym, ap, ap₂, refl, Bool, true, true≢false, ◌&&◌, ◌==◌, ℕ, List, [], ◌∷◌, Option, Some, None}
use Rattle.std.proofs.lemmas.Bool.{and_parts, eqb-true}
use Rattle.std.specs.Option.{option_eq}
use Rattle.std.specs.Cmp.Lexicographic.{pointwise}
use Rattle.key_slot.specs.declared.slots.SlotRange.{SlotRange}
use Rattle.slot_table.specs.declared.runs.Run.{Run}

-- a test that only holds of a value and itself
pub same_values : {X : Type 0} (test : X → X → Bool) → ((x y : X) → test x y ≡ true → x ≡ y) → (xs ys : List X) → pointwise test xs ys ≡ true → xs ≡ ys
same_values test exact [] [] same = refl
same_values test exact (x ∷ xs) (y ∷ ys) same =
    let parts = and_parts (test x y) (pointwise test xs ys) same in
    ap₂ (λ z zs. z ∷ zs) (exact x y parts.0) (same_values test exact xs ys parts.1)
same_values test exact [] (y ∷ ys) same = absurd (true≢false (sym same))
same_values test exact (x ∷ xs) [] same = absurd (true≢false (sym same))

pub same_run : (run other : Run ℕ) → (run.slots.first == other.slots.first && run.slots.last == other.slots.last) && run.value == other.value ≡ true → run ≡ other
same_run run other same =
    let parts = and_parts (run.slots.first == other.slots.first && run.slots.last == other.slots.last) (run.value == other.value) same in
    let ends = and_parts (run.slots.first == other.slots.first) (run.slots.last == other.slots.last) parts.0 in
    let slots : run.slots ≡ other.slots = ap₂ (λ (first last : ℕ). record { first = first; last = last }) (eqb-true run.slots.first other.slots.first ends.0) (eqb-true run.slots.last other.slots.last ends.1) in
    ap₂ (λ (range : SlotRange) (value : ℕ). record { slots = range; value = value }) slots (eqb-true run.value other.value parts.1)

-- so it does inside of an option
pub same_options : {X : Type 0} (test : X → X → Bool) → ((x y : X) → test x y ≡ true → x ≡ y) → (own other : Option X) → option_eq test own other ≡ true → own ≡ other
same_options test exact None None same = refl
same_options test exact (Some x) (Some y) same = ap Some (exact x y same)
same_options test exact None (Some y) same = absurd (true≢false (sym same))
same_options test exact (Some x) None same = absurd (true≢false (sym same))
