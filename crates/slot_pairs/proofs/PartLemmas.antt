-- What is in a part of a keyspace, as a list in the order of the keys.
use Rattle.std.proofs.Common.{◌≡◌, ◌&&◌, ℕ, Bool, true, false, cond, List, [], ◌∷◌, filter, None, T, refl, sym, ap, ◌∙◌}
use Rattle.std.proofs.lemmas.Cmp.{nat_list_cmp_total}
use Rattle.std.proofs.lemmas.Map.Lookups.{exact_bytes}
use Rattle.std.specs.Cmp.Lexicographic.{slice_cmp}
use Rattle.std.specs.FinMap as map
use Rattle.std.specs.FinMap.Entries.{below_all, find-where_key, is_sorted, is_sorted-where_key, same_entries, where_key}
use Rattle.std.specs.List.{AllByRecursion}
use Rattle.std.specs.List.Sorted.{IsStrictlySortedBy}
use Rattle.std.specs.Map.{keys_of}
use Rattle.std.specs.Ordering.{is_lt, nat_cmp}
use Rattle.std.specs.declared.cmp.Ordering.{Ordering}
use Rattle.std.specs.declared.cmp.Ordering.TheVariants.{Equal, Greater, Less}
use Rattle.key_map.specs.KeyMap.{keys}
use Rattle.keyspace.proofs.Parts.{get_part}
use Rattle.keyspace.specs.Keyspace.{Keyspace}
use Rattle.keyspace.specs.Parts.{part}
use Rattle.keyspace.specs.declared.value.Value.{Value}
use Rattle.slot_store.specs.InSlot.{in_slot, is_in_slot}

-- ---- the keys of a keyspace strictly rise

both_hold : (a b : Bool) → T (a && b) → T a × T b
both_hold true b holds = (tt, holds)
both_hold false b holds = absurd holds

is_less : (order : Ordering) → T (is_lt order) → order ≡ Less
is_less Less holds = refl
is_less Equal holds = absurd holds
is_less Greater holds = absurd holds

all_above : (first : List ℕ) (entries : List (List ℕ × Value)) → T (below_all (slice_cmp nat_cmp) first entries) → AllByRecursion (λ key. slice_cmp nat_cmp first key ≡ Less) (keys_of entries)
all_above first [] below = tt
all_above first (entry ∷ entries) below =
    let hold = both_hold (is_lt (slice_cmp nat_cmp first entry.0)) (below_all (slice_cmp nat_cmp) first entries) below in
    (is_less (slice_cmp nat_cmp first entry.0) hold.0, all_above first entries hold.1)

rising : (entries : List (List ℕ × Value)) → T (is_sorted (slice_cmp nat_cmp) entries) → IsStrictlySortedBy (slice_cmp nat_cmp) (keys_of entries)
unfolding IsStrictlySortedBy
rising [] sorted = tt
rising (entry ∷ entries) sorted =
    let hold = both_hold (below_all (slice_cmp nat_cmp) entry.0 entries) (is_sorted (slice_cmp nat_cmp) entries) sorted in
    (all_above entry.0 entries hold.0, rising entries hold.1)

pub keys_rise : (m : Keyspace) → IsStrictlySortedBy (slice_cmp nat_cmp) (map.keys m)
keys_rise m = rising (map.entries m) (map.entries_sorted m)

-- ---- what is in a slot

-- those of a part are those whose keys are in it
entries_of_part : (m : Keyspace) (p : List ℕ → Bool) → map.entries (part p m) ≡ where_key (slice_cmp nat_cmp) p (map.entries m)
entries_of_part m p =
    same_entries (slice_cmp nat_cmp) nat_list_cmp_total exact_bytes (map.entries (part p m)) (where_key (slice_cmp nat_cmp) p (map.entries m))
    (map.entries_sorted (part p m)) (is_sorted-where_key (slice_cmp nat_cmp) p (map.entries m) (map.entries_sorted m))
    (λ q. sym (map.get-entries (part p m) q) ∙ get_part p m q ∙ ap (λ v. cond (p q) v None) (map.get-entries m q)
    ∙ sym (find-where_key (slice_cmp nat_cmp) p q (λ x e. ap p (sym (exact_bytes q x e))) (map.entries m)))

keys_of_part : (p : List ℕ → Bool) (entries : List (List ℕ × Value)) → keys_of (where_key (slice_cmp nat_cmp) p entries) ≡ filter p (keys_of entries)
keys_of_part p [] = refl
keys_of_part p (entry ∷ entries) =
    elim (p entry.0) as (λ b. keys_of (cond b (entry ∷ where_key (slice_cmp nat_cmp) p entries) (where_key (slice_cmp nat_cmp) p entries)) ≡ cond b (entry.0 ∷ filter p (keys_of entries)) (filter p (keys_of entries))) [
      | true ↦ ap (λ ks. entry.0 ∷ ks) (keys_of_part p entries)
      | false ↦ keys_of_part p entries
    ]

pub entries_in_slot : (slot : ℕ) (m part : Keyspace) → part ≡ in_slot slot m → map.entries part ≡ where_key (slice_cmp nat_cmp) (is_in_slot slot) (map.entries m)
entries_in_slot slot m part is = ap (λ (k : Keyspace). map.entries k) is ∙ entries_of_part m (is_in_slot slot)

pub keys_in_slot : (slot : ℕ) (m part : Keyspace) → part ≡ in_slot slot m → map.keys part ≡ filter (is_in_slot slot) (map.keys m)
keys_in_slot slot m part is = ap (λ (es : List (List ℕ × Value)). keys_of es) (entries_in_slot slot m part is) ∙ keys_of_part (is_in_slot slot) (map.entries m)
