-- A fact of each element, by index and by recursion.
use Rattle.std.proofs.Common.{zero, suc, List, [], ◌∷◌, arith}
use Rattle.std.specs.Prelude.{All}
use Rattle.std.specs.List.{AllByRecursion}

pub each_by_recursion : {X : Type 0} (P : X → Type 0) (xs : List X) → All P xs → AllByRecursion P xs
each_by_recursion P [] h = tt
each_by_recursion P (x ∷ xs) h = (h 0 x (omega arith), each_by_recursion P xs (λ k d lt. h (suc k) d (omega arith)))

pub each_by_index : {X : Type 0} (P : X → Type 0) (xs : List X) → AllByRecursion P xs → All P xs
each_by_index P [] h = λ k d lt. absurd (omega arith)
each_by_index P (x ∷ xs) h = cons h.0 (each_by_index P xs h.1)
  where
    cons : P x → All P xs → All P (x ∷ xs)
    cons p q zero d lt = p
    cons p q (suc k) d lt = q k d (omega arith)
