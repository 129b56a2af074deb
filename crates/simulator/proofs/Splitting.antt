-- The first part of a text that is split at a byte.
use Rattle.std.proofs.Common.{◌≡◌, ℕ, ◌+◌, ◌<◌, ◌==◌, Bool, true, false, cond, not, ltb, List, [], ◌∷◌, Option, Some, None, length, take, drop, get_or, refl, ap, subst, ◌∙◌, arith}
use Rattle.std.specs.Borrow.{Bor}
use Rattle.std.specs.Prelude.{position}
use Rattle.std.specs.List.{slice_split, position_or_len}
use Rattle.std.proofs.lemmas.List.Splits.{slice_split_first, slice_split_none, length-slice_split}
use Rattle.std.proofs.lemmas.Bool.{ltb-true, ltb-false, ne_eqb}
use Rattle.std.proofs.lemmas.List.Sums.{prefix_len_passes}
use Rattle.simulator.specs.Lines.{lines, lines_of_parts}

-- where an element passes, the first part ends there
pub split_there : (p : ℕ → Bool) (xs : List ℕ) (place : ℕ) → position p xs ≡ Some place → slice_split p xs ≡ take place xs ∷ slice_split p (drop (place + 1) xs)
split_there p xs place found =
    elim (ltb (position_or_len p xs) (length xs)) as (λ b. ltb (position_or_len p xs) (length xs) ≡ b → cond b (Some (position_or_len p xs)) None ≡ Some place
    → slice_split p xs ≡ take place xs ∷ slice_split p (drop (place + 1) xs)) [
      | true ↦ λ within is.
          let place_is : position_or_len p xs ≡ place = cc in
          subst (λ (at : ℕ). slice_split p xs ≡ take at xs ∷ slice_split p (drop (at + 1) xs)) place_is (slice_split_first p xs 0 (ltb-true _ _ within))
      | false ↦ λ past is. cc
    ] refl found

not_passed : (passes : Bool) → not passes ≡ true → passes ≡ false
not_passed true is = cc
not_passed false is = refl

-- where none does, the list is one part
pub split_nowhere : (p : ℕ → Bool) (xs : List ℕ) → position p xs ≡ None → slice_split p xs ≡ xs ∷ []
split_nowhere p xs none =
    elim (ltb (position_or_len p xs) (length xs)) as (λ b. ltb (position_or_len p xs) (length xs) ≡ b → cond b (Some (position_or_len p xs)) None ≡ None → slice_split p xs ≡ xs ∷ []) [
      | true ↦ λ within is. cc
      | false ↦ λ past is. slice_split_none p xs (λ k d below.
          not_passed (p (get_or xs k d)) (prefix_len_passes (λ x. not (p x)) xs k d (omega (arith, ltb-false _ _ past))))
    ] refl none

one_more : (line : List ℕ) (parts : List (List ℕ)) → 0 < length parts → lines_of_parts (line ∷ parts) ≡ line ∷ lines_of_parts parts
one_more line [] some = absurd (omega arith)
one_more line (next ∷ parts) some = refl

-- a line that ends, and the lines of the text behind it
pub line_then_lines : (text line behind : List ℕ) → slice_split (λ byte. byte == 10) text ≡ line ∷ slice_split (λ byte. byte == 10) behind → lines text ≡ line ∷ lines behind
line_then_lines text line behind is =
    ap lines_of_parts is ∙ one_more line (slice_split (λ byte. byte == 10) behind) (omega (arith, length-slice_split (λ byte. byte == 10) behind))

-- the last line, which doesn't end
pub last_line : (text : List ℕ) → 0 < length text → slice_split (λ byte. byte == 10) text ≡ text ∷ [] → lines text ≡ text ∷ []
last_line [] some is = absurd (omega arith)
last_line (byte ∷ text) some is =
    ap lines_of_parts is ∙ ap (λ b. cond b [] ((byte ∷ text) ∷ [])) (ne_eqb (length (byte ∷ text)) 0 (λ none. omega arith))

-- what is left, and one more where something is
abbrev pub left_of : Option (Bor (List ℕ)) → ℕ
left_of None = 0
left_of (Some behind) = length behind.now + 1
