-- Where a key lies in a list of pairs. No public clause needs it: clauses see the entries.
use Rattle.std.specs.Prelude.{ℕ, zero, suc, List, [], ◌∷◌, Result, Ok, Err}
use Rattle.std.specs.Cmp.Lexicographic.{slice_cmp}
use Rattle.std.specs.Ordering.{match_ordering, nat_cmp}

-- the same answer, one index further
abbrev pub one_further : Result ℕ ℕ → Result ℕ ℕ
one_further (Ok i) = Ok (suc i)
one_further (Err i) = Err (suc i)

module _ {X : Type 0} where
  -- the index of the first pair whose key isn't below: Ok where it is the same key, and else Err
  abbrev pub place_of : List ℕ → List (List ℕ × X) → Result ℕ ℕ
  place_of key [] = Err 0
  place_of key (e ∷ es) = match_ordering (slice_cmp nat_cmp key e.0) (Err 0) (Ok 0) (one_further (place_of key es))

  -- the pairs, with another value in the one at the index
  abbrev pub set_value_at : List (List ℕ × X) → ℕ → X → List (List ℕ × X)
  set_value_at [] i value = []
  set_value_at (e ∷ es) zero value = (e.0, value) ∷ es
  set_value_at (e ∷ es) (suc i) value = e ∷ set_value_at es i value
