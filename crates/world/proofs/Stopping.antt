-- Clients whose node stops, one after another.
use Rattle.std.proofs.Common.{◌≡◌, ◌+◌, ◌<◌, ◌≤◌, ℕ, List, [], ◌∷◌, ◌++◌, length, map, take, drop, get_or, set, refl, ap, subst, arith}
use Rattle.std.specs.Prelude.{zero, suc}

-- those behind are as they were
pub untouched : {A : Type 0} (f : A → A) (old : List A) (at : ℕ) (default : A) → at < length old → get_or (map f (take at old) ++ drop at old) at default ≡ get_or old at default
untouched f [] at default within = absurd (omega arith)
untouched f (x ∷ old) zero default within = refl
untouched f (x ∷ old) (suc at) default within = untouched f old at default (omega arith)

one_more_yet : {A : Type 0} (f : A → A) (old : List A) (at : ℕ) (default : A) → at < length old
    → set (map f (take at old) ++ drop at old) at (f (get_or old at default)) ≡ map f (take (suc at) old) ++ drop (suc at) old
one_more_yet f [] at default within = absurd (omega arith)
one_more_yet f (x ∷ old) zero default within = refl
one_more_yet f (x ∷ old) (suc at) default within = ap (λ (xs : List _). f x ∷ xs) (one_more_yet f old at default (omega arith))

-- one more is changed
pub one_more : {A : Type 0} (f : A → A) (old : List A) (at : ℕ) (default : A) → at < length old
    → set (map f (take at old) ++ drop at old) at (f (get_or old at default)) ≡ map f (take (at + 1) old) ++ drop (at + 1) old
one_more f old at default within =
    let next : suc at ≡ at + 1 = omega arith in
    subst (λ (n : ℕ). set (map f (take at old) ++ drop at old) at (f (get_or old at default)) ≡ map f (take n old) ++ drop n old) next (one_more_yet f old at default within)

-- all are
pub all_done : {A : Type 0} (f : A → A) (old : List A) (at : ℕ) → length old ≤ at → map f (take at old) ++ drop at old ≡ map f old
all_done f [] zero past = refl
all_done f [] (suc at) past = refl
all_done f (x ∷ old) zero past = absurd (omega arith)
all_done f (x ∷ old) (suc at) past = ap (λ (xs : List _). f x ∷ xs) (all_done f old at (omega arith))
