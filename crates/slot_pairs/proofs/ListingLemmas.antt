-- Lists that were sorted.
use denote.Param.Members.{Mut}
use denote.Ref.{Bor}
use Rattle.std.proofs.Common.{◌≡◌, ◌<◌, ◌+◌, ◌||◌, ℕ, Bool, true, false, cond, List, [], ◌∷◌, length, get_or, filter, refl, sym, ap, ◌∙◌, true≢false, arith}
use Rattle.std.proofs.lemmas.Cmp.{eq_by_cmp_equiv, nat_list_cmp_total}
use Rattle.std.proofs.lemmas.Fn.{always_returns_same}
use Rattle.std.proofs.lemmas.List.{get_or-map}
use Rattle.std.proofs.lemmas.List.Elements.{All-from_recursion, recursion_from_All}
use Rattle.std.proofs.lemmas.List.Kept.{IsStrictlySortedBy-dedup, IsStrictlySortedBy-filter}
use Rattle.std.proofs.lemmas.List.Sorted.{All-permutation, IsPermutation-map, IsPermutation-sym, IsPermutation-trans, list_any-IsPermutation, ranks_by}
use Rattle.std.proofs.lemmas.Map.Entries.{length-keys_of}
use Rattle.std.proofs.lemmas.Map.Keys.{IsDistinct-IsPermutation, IsDistinct-from_sorted, apart_from_distinct, sorted_from_all_adjacent}
use Rattle.std.proofs.lemmas.Map.Lookups.{btree_set_from_contains, exact_bytes}
use Rattle.std.specs.Cmp.Lexicographic.{pointwise, slice_cmp, texts_ties}
use Rattle.std.specs.Fn.{Called}
use Rattle.std.specs.FinMap as map
use Rattle.std.specs.List.{IsDistinct, dedup, dedup_from, flat_map, list_any}
use Rattle.std.specs.List.Sorted.{IsPermutation, IsSorted, IsSortedByClosure, IsSortedByKey, IsStrictlySortedBy}
use Rattle.std.specs.Map.{keys_of}
use Rattle.std.specs.Ordering.{is_eq, is_lt, nat_cmp, ordering_reverse}
use Rattle.std.specs.Prelude.{nat_eq}
use Rattle.std.specs.declared.cmp.Ordering.{Ordering}
use Rattle.std.specs.declared.cmp.Ordering.TheVariants.{Equal, Greater, Less}
use Rattle.key_map.specs.KeyMap.{is_key}
use Rattle.keyspace.proofs.Applied.{is_key-same}
use Rattle.keyspace.specs.Keyspace.{Keyspace}
use Rattle.keyspace.specs.declared.value.Value.{Value}
use Rattle.keyspace.specs.declared.value.Value.TheVariants.{Str}
use Rattle.slot_pairs.proofs.PartLemmas.{keys_rise}
use Rattle.slot_pairs.specs.Several.{HaveSameKeys, is_in_one}
use Rattle.slot_store.proofs.KeyEntries.{IsFoundIn, finds_all, found_again, found_in}

-- lists that strictly rise and have the same keys are equal
same_keys : (some others : List (List ℕ)) → IsStrictlySortedBy (slice_cmp nat_cmp) some → IsStrictlySortedBy (slice_cmp nat_cmp) others → HaveSameKeys some others → some ≡ others
same_keys some others rise rise_too same = btree_set_from_contains nat_list_cmp_total (record { keys = some }) (record { keys = others }) rise rise_too same exact_bytes

-- ---- all pairs

-- what doesn't fall and isn't equal rises
rises : (order : Ordering) → is_lt (ordering_reverse order) ≡ false → is_eq order ≡ false → order ≡ Less
rises Less up apart = refl
rises Equal up apart = absurd (true≢false apart)
rises Greater up apart = absurd (true≢false up)

rise_from_distinct : (pairs : List (List ℕ × Value)) → IsSortedByKey (λ (pair : List ℕ × Value). pair.0) (slice_cmp nat_cmp) pairs → IsDistinct is_key (keys_of pairs) → IsStrictlySortedBy (slice_cmp nat_cmp) (keys_of pairs)
rise_from_distinct pairs sorted distinct = sorted_from_all_adjacent nat_list_cmp_total (keys_of pairs) [] adjacent
  where
    none : List ℕ × Value
    none = ([], Str [])

    key_at : (i : ℕ) → i < length pairs → get_or (keys_of pairs) i [] ≡ (get_or pairs i none).0
    key_at i within = get_or-map (λ (pair : List ℕ × Value). pair.0) pairs i none [] within

    adjacent : (k : ℕ) → k + 1 < length (keys_of pairs) → slice_cmp nat_cmp (get_or (keys_of pairs) k []) (get_or (keys_of pairs) (k + 1) []) ≡ Less
    adjacent k within =
        let a = get_or (keys_of pairs) k [] in
        let b = get_or (keys_of pairs) (k + 1) [] in
        let long : k + 1 < length pairs = omega (arith, within, length-keys_of pairs) in
        let up : is_lt (slice_cmp nat_cmp b a) ≡ false = (λ i. is_lt (slice_cmp nat_cmp (key_at (k + 1) long i) (key_at k (omega (arith, long)) i))) ∙ sorted k none (omega arith) long in
        rises (slice_cmp nat_cmp a b) (ap is_lt (sym (nat_list_cmp_total.antisymm b a)) ∙ up) (apart_from_distinct is_key (keys_of pairs) k (k + 1) [] distinct (omega arith) within)

pub all_listed : (m : Keyspace) (by_slot listed : List (List ℕ × Value)) → IsPermutation by_slot (map.entries m) → IsPermutation by_slot listed → IsSortedByKey (λ (pair : List ℕ × Value). pair.0) (slice_cmp nat_cmp) listed
    → listed ≡ map.entries m
all_listed m by_slot listed all moved sorted =
    let entries = map.entries m in
    let same = IsPermutation-trans entries by_slot listed (IsPermutation-sym by_slot entries all) moved in
    let same_of_keys = IsPermutation-map (λ (pair : List ℕ × Value). pair.0) entries listed same in
    let distinct = IsDistinct-IsPermutation is_key ((eq_by_cmp_equiv nat_list_cmp_total).symm) (keys_of entries) (keys_of listed) same_of_keys (IsDistinct-from_sorted (slice_cmp nat_cmp) (keys_of entries) (keys_rise m)) in
    let keys = same_keys (keys_of listed) (keys_of entries) (rise_from_distinct listed sorted distinct) (keys_rise m) (λ q. sym (list_any-IsPermutation (is_key q) (keys_of entries) (keys_of listed) same_of_keys)) in
    let finds = finds_all entries (keys_rise m) in
    let finds_listed = recursion_from_All (IsFoundIn entries) listed (All-permutation (IsFoundIn entries) entries listed same (All-from_recursion (IsFoundIn entries) entries finds)) in
    sym (found_again entries listed finds_listed) ∙ ap (flat_map (found_in entries)) keys ∙ found_again entries entries finds

-- ---- keys of some slots

-- a key that comes again is left out
again_from : (q first : List ℕ) (keys : List (List ℕ)) → list_any (is_key q) (dedup_from (pointwise nat_eq) first keys) ≡ (is_key q first || list_any (is_key q) keys)
again_from q first [] = refl
again_from q first (key ∷ keys) =
    elim (pointwise nat_eq key first) as (λ b. pointwise nat_eq key first ≡ b → list_any (is_key q) (cond b (dedup_from (pointwise nat_eq) first keys) (first ∷ dedup_from (pointwise nat_eq) key keys)) ≡ (is_key q first || (is_key q key || list_any (is_key q) keys))) [
      | true ↦ λ same. again_from q first keys ∙ twice (is_key q first) (list_any (is_key q) keys) ∙ ap (λ k. is_key q first || (is_key q k || list_any (is_key q) keys)) (sym (is_key-same key first (sym (texts_ties key first) ∙ same)))
      | false ↦ λ other. ap (λ b. is_key q first || b) (again_from q key keys)
    ] refl
  where
    twice : (a b : Bool) → (a || b) ≡ (a || (a || b))
    twice true b = refl
    twice false b = refl

left_once : (keys : List (List ℕ)) → HaveSameKeys (dedup (pointwise nat_eq) keys) keys
left_once [] q = refl
left_once (key ∷ keys) q = again_from q key keys

pub some_listed : (slots : List ℕ) (m : Keyspace) (by_slot sorted listed : List (List ℕ)) → HaveSameKeys by_slot (filter (is_in_one slots) (map.keys m)) → IsPermutation by_slot sorted → IsSorted (slice_cmp nat_cmp) sorted
    → listed ≡ dedup (pointwise nat_eq) sorted → listed ≡ filter (is_in_one slots) (map.keys m)
some_listed slots m by_slot sorted listed all moved up once =
    once
    ∙ same_keys (dedup (pointwise nat_eq) sorted) (filter (is_in_one slots) (map.keys m)) (IsStrictlySortedBy-dedup nat_list_cmp_total texts_ties sorted up)
    (IsStrictlySortedBy-filter (slice_cmp nat_cmp) (is_in_one slots) (map.keys m) (keys_rise m))
    (λ q. left_once sorted q ∙ sym (list_any-IsPermutation (is_key q) by_slot sorted moved) ∙ all q)

-- ---- what a sort by a key says

pub sorted_by_key : {X F : Type 0} {g : Mut F (Bor X × (Bor X × Unit {0})) Ordering} {f : F} (key : X → List ℕ) (xs : List X) → IsSortedByClosure g f xs
    → ((a : Bor X × (Bor X × Unit {0})) (r : Ordering) (after : F) → Called g f a r after → (r ≡ slice_cmp nat_cmp (key a.0.now) (key a.1.0.now)) × (after ≡ f))
    → IsSortedByKey key (slice_cmp nat_cmp) xs
sorted_by_key {g = g} {f = f} key xs sorted compares =
    sorted (λ x y. is_lt (slice_cmp nat_cmp (key x) (key y))) (ranks_by nat_list_cmp_total key)
    (always_returns_same g (λ a r. is_lt r ≡ is_lt (slice_cmp nat_cmp (key a.0.now) (key a.1.0.now))) f (λ a r after call. (ap is_lt (compares a r after call).0, (compares a r after call).1)))
