-- Where the pairs of a hash lie, and for which changes there is room. No public clause needs it.
use Rattle.std.specs.Prelude.{◌≤◌, ℕ, List, [], ◌∷◌, Bool, ◌&&◌, Option, length, nat_eq, is_some, is_none, slice_set, slice_index_or, vec_capacity}
use Rattle.std.specs.Cmp.Lexicographic.{pointwise}
use Rattle.indexmap.specs.IndexMap.{spare}
use Rattle.hash.specs.Pairs.{Pairs, Changes, value_of, field_changed}
use Rattle.hash.specs.declared.entries.Entries.{Entries}
use Rattle.hash.specs.declared.entries.Entries.TheVariants.{Few, Many, Holed}

-- the pairs, in their order
abbrev pub pairs_of : Entries → Pairs
pairs_of (Few list) = list.items
pairs_of (Many map) = map.value.entries
pairs_of (Holed holed) = holed.value.pairs

-- the pair is that of the field
abbrev pub is_of : List ℕ → List ℕ × List ℕ → Bool
is_of field pair = pointwise nat_eq field pair.0

-- the pairs, with another value in the one at the place
abbrev pub value_replaced : Pairs → ℕ → List ℕ → Pairs
value_replaced pairs place value = slice_set pairs place ((slice_index_or pairs place ([], value)).0, value)

-- the change sets a field that isn't there
abbrev pub is_new : Pairs → List ℕ × Option (List ℕ) → Bool
is_new pairs change = is_some change.1 && is_none (value_of pairs change.0)

-- the pairs are no more than so many after each of the changes
abbrev pub FitsIn : ℕ → Pairs → Changes → Type 0
FitsIn room pairs [] = Unit {0}
FitsIn room pairs (change ∷ changes) =
    (length (field_changed pairs change.0 change.1) ≤ room) × FitsIn room (field_changed pairs change.0 change.1) changes

-- the changes ask for no memory
abbrev pub IsReadyFor : Entries → Changes → Type 0
IsReadyFor (Few list) changes = FitsIn (vec_capacity list) list.items changes
IsReadyFor (Many map) changes = length changes ≤ spare map.value
IsReadyFor (Holed holed) changes = length changes ≤ holed.value.room

-- once the change is made, there is room for those behind it for which there was
abbrev pub StaysReady : Entries → Entries → List ℕ × Option (List ℕ) → Type 0
StaysReady before after change = (changes : Changes) → IsReadyFor before (change ∷ changes) → IsReadyFor after changes
