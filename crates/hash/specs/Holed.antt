-- Pairs of a map of which some are removed and still stand there. No public clause needs it.
use Rattle.std.specs.Prelude.{◌≡◌, ℕ, List, Bool, false, Option, not, nat_eq, filter}
use Rattle.std.specs.Cmp.Lexicographic.{pointwise}
use Rattle.std.specs.List.{list_any}
use Rattle.indexmap.specs.IndexMap.{IndexMap}
use Rattle.indexmap.specs.IndexSet.{IndexSet}
use Rattle.hash.specs.Pairs.{Pairs, field_changed}

-- the field is one of these
abbrev pub is_in : List (List ℕ) → List ℕ → Bool
is_in fields field = list_any (pointwise nat_eq field) fields

-- the pairs whose fields aren't removed, in their order
abbrev pub left_of : Pairs → List (List ℕ) → Pairs
left_of pairs removed = filter (λ pair. not (is_in removed pair.0)) pairs

-- the pairs of the map whose fields aren't in the set
abbrev pub left_in : {S R : Type 0} → IndexMap (List ℕ) (List ℕ) S → IndexSet (List ℕ) R → Pairs
left_in map removed = left_of map.entries removed.keys

-- of the pairs that are left one field is changed
abbrev pub ChangesOne : {S R : Type 0} → IndexMap (List ℕ) (List ℕ) S → IndexSet (List ℕ) R
    → IndexMap (List ℕ) (List ℕ) S → IndexSet (List ℕ) R → List ℕ → Option (List ℕ) → Type 0
ChangesOne map removed new_map new_removed field value =
    left_in new_map new_removed ≡ field_changed (left_in map removed) field value

-- each other field is one of these exactly if it was one of those
abbrev pub SameBeside : List ℕ → List (List ℕ) → List (List ℕ) → Type 0
SameBeside field old new = (other : List ℕ) → pointwise nat_eq field other ≡ false → is_in new other ≡ is_in old other

-- the pairs that are left, and for how many more there is room
pub record Left : Type 0 where
  pub pairs : Pairs
  pub room : ℕ
