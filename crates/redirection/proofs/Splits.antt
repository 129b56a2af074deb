-- A text is split at a byte in one way.
use Rattle.std.proofs.Common.{◌≡◌, ℕ, ◌+◌, ◌<◌, ◌==◌, Bool, true, false, cond, not, ltb, List, [], ◌∷◌, ◌++◌, Some, None, length, suc, take, take_all, drop, get_or, refl, sym, ap, subst, arith}
use Rattle.std.specs.Prelude.{position}
use Rattle.std.specs.List.{position_or_len, list_all}
use Rattle.std.proofs.lemmas.Bool.{ltb-true, ltb-false, eqb-true, and_from, and_parts}
use Rattle.std.proofs.lemmas.List.Sums.{split_at_first, passes_at_first}
use Rattle.redirection.specs.Splitting.{IsSplit, is_without}

-- the byte doesn't stand in front of itself
without_itself : (byte : ℕ) (rest : List ℕ) → is_without byte (byte ∷ rest) ≡ true → ⊥
without_itself byte rest is = grind arith

-- a text with the byte isn't without it
pub with_it : (byte : ℕ) (first rest : List ℕ) → is_without byte (first ++ byte ∷ rest) ≡ true → ⊥
with_it byte [] rest is = without_itself byte rest is
with_it byte (other ∷ first) rest is = with_it byte first rest (and_parts (not (other == byte)) _ is).1

head_is : (one other : ℕ) (xs ys : List ℕ) → one ∷ xs ≡ other ∷ ys → one ≡ other
head_is one other xs ys is = cc

tail_is : (one other : ℕ) (xs ys : List ℕ) → one ∷ xs ≡ other ∷ ys → xs ≡ ys
tail_is one other xs ys is = cc

pub record SameSplit (first other rest more : List ℕ) : Type 0 where
  pub firsts : first ≡ other
  pub rests : rest ≡ more

longer : (byte : ℕ) (front : ℕ) (first other rest more : List ℕ) → SameSplit first other rest more → SameSplit (front ∷ first) (front ∷ other) rest more
longer byte front first other rest more same = record { firsts = ap (λ (xs : List ℕ). front ∷ xs) same.firsts; rests = same.rests }

-- the first such byte is at one place
pub same_split : (byte : ℕ) (first other rest more : List ℕ) → is_without byte first ≡ true → is_without byte other ≡ true → first ++ byte ∷ rest ≡ other ++ byte ∷ more
    → SameSplit first other rest more
same_split byte [] [] rest more one two is = record { firsts = refl; rests = tail_is byte byte rest more is }
same_split byte [] (y ∷ other) rest more one two is =
    absurd (without_itself byte other (subst (λ (z : ℕ). is_without byte (z ∷ other) ≡ true) (sym (head_is byte y rest (other ++ byte ∷ more) is)) two))
same_split byte (x ∷ first) [] rest more one two is =
    absurd (without_itself byte first (subst (λ (z : ℕ). is_without byte (z ∷ first) ≡ true) (head_is x byte (first ++ byte ∷ rest) more is) one))
same_split byte (x ∷ first) (y ∷ other) rest more one two is =
    let tails = same_split byte first other rest more (and_parts (not (x == byte)) _ one).1 (and_parts (not (y == byte)) _ two).1 (tail_is x y (first ++ byte ∷ rest) (other ++ byte ∷ more) is) in
    subst (λ (z : ℕ). SameSplit (x ∷ first) (z ∷ other) rest more) (head_is x y (first ++ byte ∷ rest) (other ++ byte ∷ more) is) (longer byte x first other rest more tails)

passes_in_front : (p : ℕ → Bool) (x n : ℕ) (xs : List ℕ) → p x ≡ true → list_all p (take n xs) ≡ true → list_all p (take (1 + n) (x ∷ xs)) ≡ true
passes_in_front p x n xs first others =
    let one_more : suc n ≡ 1 + n = omega arith in
    subst (λ (m : ℕ). list_all p (take m (x ∷ xs)) ≡ true) one_more (and_from _ _ first others)

-- what is in front of the first that passes
fails_before : (p : ℕ → Bool) (xs : List ℕ) → list_all (λ x. not (p x)) (take (position_or_len p xs) xs) ≡ true
fails_before p [] = refl
fails_before p (x ∷ xs) =
    elim (not (p x)) as (λ b. not (p x) ≡ b → list_all (λ y. not (p y)) (take (cond b (1 + position_or_len p xs) 0) (x ∷ xs)) ≡ true) [
      | true ↦ λ fails. passes_in_front (λ y. not (p y)) x (position_or_len p xs) xs fails (fails_before p xs)
      | false ↦ λ _. refl
    ] refl

pub found_there : (byte : ℕ) (xs : List ℕ) (place : ℕ) → position (λ other. other == byte) xs ≡ Some place → IsSplit byte xs (take place xs) (drop (place + 1) xs)
found_there byte xs place found =
    let p : ℕ → Bool = λ other. other == byte in
    elim (ltb (position_or_len p xs) (length xs)) as (λ b. ltb (position_or_len p xs) (length xs) ≡ b → cond b (Some (position_or_len p xs)) None ≡ Some place
    → IsSplit byte xs (take place xs) (drop (place + 1) xs)) [
      | true ↦ λ within is.
          let place_is : position_or_len p xs ≡ place = cc in
          let at : position_or_len p xs < length xs = ltb-true _ _ within in
          let text : xs ≡ take (position_or_len p xs) xs ++ get_or xs (position_or_len p xs) 0 ∷ drop (position_or_len p xs + 1) xs = split_at_first p xs 0 at in
          let byte_is : get_or xs (position_or_len p xs) 0 ≡ byte = eqb-true _ _ (passes_at_first p xs 0 at) in
          subst (λ (i : ℕ). IsSplit byte xs (take i xs) (drop (i + 1) xs)) place_is
          record {
            text_is = subst (λ (b : ℕ). xs ≡ take (position_or_len p xs) xs ++ b ∷ drop (position_or_len p xs + 1) xs) byte_is text;
            without = fails_before p xs;
          }
      | false ↦ λ past is. cc
    ] refl found

pub found_nowhere : (byte : ℕ) (xs : List ℕ) → position (λ other. other == byte) xs ≡ None → is_without byte xs ≡ true
found_nowhere byte xs none =
    let p : ℕ → Bool = λ other. other == byte in
    elim (ltb (position_or_len p xs) (length xs)) as (λ b. ltb (position_or_len p xs) (length xs) ≡ b → cond b (Some (position_or_len p xs)) None ≡ None → is_without byte xs ≡ true) [
      | true ↦ λ within is. cc
      | false ↦ λ past is.
          subst (λ (ys : List ℕ). list_all (λ y. not (p y)) ys ≡ true) (take_all (position_or_len p xs) xs (ltb-false _ _ past)) (fails_before p xs)
    ] refl none
