-- The entries of a map, found by its keys: they are those of its keyspace.
use Rattle.std.proofs.Common.{◌≡◌, ◌++◌, ℕ, false, cond, List, [], ◌∷◌, Option, Some, None, refl, sym, ap, ◌∙◌}
use Rattle.std.proofs.lemmas.Cmp.{eq_by_cmp_equiv, nat_list_cmp_total}
use Rattle.std.proofs.lemmas.Map.Lookups.{exact_bytes}
use Rattle.std.specs.Cmp.Lexicographic.{slice_cmp}
use Rattle.std.specs.FinMap as map
use Rattle.std.specs.FinMap.Entries.{same_entries}
use Rattle.std.specs.List.{AllByRecursion, flat_map}
use Rattle.std.specs.List.Sorted.{IsStrictlySortedBy}
use Rattle.std.specs.Map.{keys_of, lookup}
use Rattle.std.specs.Ordering.{is_eq, nat_cmp}
use Rattle.std.specs.declared.cmp.Ordering.TheVariants.{Less}
use Rattle.key_map.specs.KeyMap.{IsOrdered, KeyMap, is_key, keys}
use Rattle.keyspace.specs.Keyspace.{keyspace_of}
use Rattle.keyspace.specs.declared.value.Value.{Value}
use Rattle.slot_store.proofs.SlotEntries.{rises}

-- ---- a map in order has the entries of its keyspace

pub entries_of_map : (m : KeyMap Value) → IsOrdered m → m.entries ≡ map.entries (keyspace_of m.entries)
entries_of_map m ordered =
    same_entries (slice_cmp nat_cmp) nat_list_cmp_total exact_bytes m.entries (map.entries (keyspace_of m.entries)) (rises m.entries ordered) (map.entries_sorted (keyspace_of m.entries))
    (λ q. sym (map.get-from_entries nat_list_cmp_total m.entries q) ∙ map.get-entries (keyspace_of m.entries) q)

pub keys_of_map : (m : KeyMap Value) → IsOrdered m → keys m ≡ map.keys (keyspace_of m.entries)
keys_of_map m ordered = ap (λ (es : List (List ℕ × Value)). keys_of es) (entries_of_map m ordered)

-- ---- entries from keys: each key is looked up

-- what is found at a key
abbrev pub listed_at : List ℕ → Option Value → List (List ℕ × Value)
listed_at key None = []
listed_at key (Some value) = (key, value) ∷ []

abbrev pub found_in : List (List ℕ × Value) → List ℕ → List (List ℕ × Value)
found_in entries key = listed_at key (lookup (is_key key) entries)

-- a look-up of the entry's key finds its value
abbrev pub IsFoundIn : List (List ℕ × Value) → List ℕ × Value → Type 0
IsFoundIn entries entry = lookup (is_key entry.0) entries ≡ Some entry.1

abbrev pub Finds : List (List ℕ × Value) → List (List ℕ × Value) → Type 0
Finds entries some = AllByRecursion (IsFoundIn entries) some

pub found_again : (entries some : List (List ℕ × Value)) → Finds entries some → flat_map (found_in entries) (keys_of some) ≡ some
found_again entries [] finds = refl
found_again entries (entry ∷ some) finds =
    ap (λ v. listed_at entry.0 v ++ flat_map (found_in entries) (keys_of some)) finds.0 ∙ ap (λ es. entry ∷ es) (found_again entries some finds.1)

-- a key above the first is found behind it
not_first : (first key : List ℕ) → slice_cmp nat_cmp first key ≡ Less → is_key key first ≡ false
not_first first key above = (eq_by_cmp_equiv nat_list_cmp_total).symm key first ∙ ap is_eq above

finds_behind : (first : List ℕ × Value) (entries some : List (List ℕ × Value)) → AllByRecursion (λ key. slice_cmp nat_cmp first.0 key ≡ Less) (keys_of some) → Finds entries some → Finds (first ∷ entries) some
finds_behind first entries [] above finds = tt
finds_behind first entries (entry ∷ some) above finds =
    (ap (λ b. cond b (Some first.1) (lookup (is_key entry.0) entries)) (not_first first.0 entry.0 above.0) ∙ finds.0, finds_behind first entries some above.1 finds.1)

pub finds_all : (entries : List (List ℕ × Value)) → IsStrictlySortedBy (slice_cmp nat_cmp) (keys_of entries) → Finds entries entries
unfolding IsStrictlySortedBy
finds_all [] rise = tt
finds_all (entry ∷ entries) rise =
    (ap (λ b. cond b (Some entry.1) (lookup (is_key entry.0) entries)) ((eq_by_cmp_equiv nat_list_cmp_total).refl entry.0), finds_behind entry entries entries rise.0 (finds_all entries rise.1))

pub entries_from_keys : (found : KeyMap Value) → IsOrdered found → flat_map (found_in found.entries) (keys found) ≡ found.entries
entries_from_keys found ordered = found_again found.entries found.entries (finds_all found.entries ordered)

pub pairs_of_map : (m : KeyMap Value) → IsOrdered m → flat_map (found_in m.entries) (keys m) ≡ map.entries (keyspace_of m.entries)
pairs_of_map m ordered = entries_from_keys m ordered ∙ entries_of_map m ordered
