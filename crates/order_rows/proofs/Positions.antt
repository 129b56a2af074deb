-- Places that were found in a list.
use Rattle.std.proofs.Common.{◌≡◌, ◌<◌, ℕ, List, length, Some, Bool, arith}
use Rattle.std.proofs.lemmas.Bool.Decides.{nat_tests}
use Rattle.std.specs.List.{position}

-- each is one of the list
pub place_below : {X : Type 0} (test : X → Bool) (xs : List X) (place : ℕ) → position test xs ≡ Some place → place < length xs
place_below test xs place found = grind (arith, nat_tests)
