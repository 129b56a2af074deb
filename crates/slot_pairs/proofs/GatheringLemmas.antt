-- Slot by slot: what is gathered so far is in the slots so far.
use Rattle.std.proofs.Common.{◌≡◌, ◌<◌, ◌+◌, ◌==◌, ◌||◌, ◌&&◌, ◌++◌, ℕ, Bool, true, false, not, cond, List, [], ◌∷◌, length, take, get_or, filter, refl, sym, ap, subst, ◌∙◌, nat_eq, nat_lt, arith}
use Rattle.std.proofs.Math.Nat.{mod-lt}
use Rattle.std.proofs.lemmas.Bool.Decides.{nat_tests}
use Rattle.std.proofs.lemmas.List.Folds.{list_any-append, list_any_more}
use Rattle.std.proofs.lemmas.List.Sorted.{IsPermutation-append_left, IsPermutation-filter_both, IsPermutation-refl, IsPermutation-sym, IsPermutation-trans}
use Rattle.std.proofs.lemmas.Map.Views.{any-filter_same}
use Rattle.std.specs.List.{list_any}
use Rattle.std.specs.List.Sorted.{IsPermutation}
use Rattle.key_map.specs.KeyMap.{is_key}
use Rattle.key_slot.specs.Crc16.{crc}
use Rattle.key_slot.specs.HashTag.{hash_tag}
use Rattle.key_slot.specs.Slot.{hash_slot}
use Rattle.keyspace.proofs.Applied.{is_key-same}
use Rattle.keyspace.specs.declared.value.Value.{Value}
use Rattle.slot_pairs.specs.Several.{HaveSameKeys, is_in_one}
use Rattle.slot_store.specs.InSlot.{is_in_slot}

-- ---- pairs

-- the key's slot is below that one
abbrev pub is_below : ℕ → List ℕ × Value → Bool
is_below slot entry = nat_lt (hash_slot entry.0) slot

filter_all : {X : Type 0} (p : X → Bool) (xs : List X) → ((x : X) → p x ≡ true) → filter p xs ≡ xs
filter_all p [] all = refl
filter_all p (x ∷ xs) all = ap (λ b. cond b (x ∷ filter p xs) (filter p xs)) (all x) ∙ ap (λ ys. x ∷ ys) (filter_all p xs all)

filter_none : {X : Type 0} (p : X → Bool) (xs : List X) → ((x : X) → p x ≡ false) → filter p xs ≡ []
filter_none p [] none = refl
filter_none p (x ∷ xs) none = ap (λ b. cond b (x ∷ filter p xs) (filter p xs)) (none x) ∙ filter_none p xs none

-- of those that pass one test, those that pass another
filter_within : {X : Type 0} (p q r : X → Bool) (xs : List X) → ((x : X) → (q x && p x) ≡ r x) → filter p (filter q xs) ≡ filter r xs
filter_within p q r [] is = refl
filter_within p q r (x ∷ xs) is =
    elim (q x) as (λ b. (b && p x) ≡ r x → filter p (cond b (x ∷ filter q xs) (filter q xs)) ≡ cond (r x) (x ∷ filter r xs) (filter r xs)) [
      | true ↦ λ same. ap (λ b. cond b (x ∷ filter p (filter q xs)) (filter p (filter q xs))) same ∙ ap (λ ys. cond (r x) (x ∷ ys) ys) (filter_within p q r xs is)
      | false ↦ λ same. filter_within p q r xs is ∙ ap (λ b. cond b (x ∷ filter r xs) (filter r xs)) same
    ] (is x)

pub pairs_none : (entries : List (List ℕ × Value)) → IsPermutation [] (filter (is_below 0) entries)
pairs_none entries = subst (IsPermutation []) (sym (filter_none (is_below 0) entries (λ entry. grind (arith, nat_tests)))) (IsPermutation-refl [])

pub pairs_more : (entries so_far added after : List (List ℕ × Value)) (index slot : ℕ) → slot ≡ index → added ≡ filter (λ entry. is_in_slot slot entry.0) entries → after ≡ so_far ++ added
    → IsPermutation so_far (filter (is_below index) entries) → IsPermutation after (filter (is_below (index + 1)) entries)
pairs_more entries so_far added after index slot at is more before =
    let more_below = filter (is_below (index + 1)) entries in
    let below = filter_within (is_below index) (is_below (index + 1)) (is_below index) entries (λ entry. first (hash_slot entry.0)) in
    let here = filter_within (λ entry. not (is_below index entry)) (is_below (index + 1)) (λ entry. is_in_slot slot entry.0) entries (λ entry. second (hash_slot entry.0)) in
    let parted = IsPermutation-filter_both (is_below index) (λ entry. not (is_below index entry)) (λ entry. refl) more_below in
    let joined : IsPermutation more_below (filter (is_below index) entries ++ added) = subst (IsPermutation more_below) (λ i. below i ++ (here ∙ sym is) i) parted in
    subst (λ (xs : List (List ℕ × Value)). IsPermutation xs more_below) (sym more)
    (IsPermutation-trans _ _ _ (IsPermutation-append_left added so_far (filter (is_below index) entries) before) (IsPermutation-sym _ _ joined))
  where
    first : (hash : ℕ) → (nat_lt hash (index + 1) && nat_lt hash index) ≡ nat_lt hash index
    first hash = grind (arith, nat_tests)

    second : (hash : ℕ) → (nat_lt hash (index + 1) && not (nat_lt hash index)) ≡ nat_eq hash slot
    second hash = grind (arith, nat_tests)

hash_slot_small : (key : List ℕ) → hash_slot key < 16384
unfolding hash_slot
hash_slot_small key = mod-lt (crc (hash_tag key)) (omega arith)

pub pairs_all : (entries found : List (List ℕ × Value)) (index : ℕ) → index ≡ 16384 → IsPermutation found (filter (is_below index) entries) → IsPermutation found entries
pairs_all entries found index at so_far = subst (IsPermutation found) (filter_all (is_below index) entries (λ entry. all (hash_slot entry.0) (hash_slot_small entry.0))) so_far
  where
    all : (hash : ℕ) → hash < 16384 → nat_lt hash index ≡ true
    all hash small = grind (arith, nat_tests)

-- ---- keys

pub keys_none : (keys : List (List ℕ)) → HaveSameKeys [] (filter (is_in_one []) keys)
keys_none keys key = sym (any-filter_same (is_key key) (is_in_one []) false (λ k same. refl) keys)

-- a key is among those that pass a test where it passes and is there
any_passes : (p : List ℕ → Bool) (keys : List (List ℕ)) (key : List ℕ) → list_any (is_key key) (filter p keys) ≡ (p key && list_any (is_key key) keys)
any_passes p keys key = any-filter_same (is_key key) p (p key) (λ k same. ap p (sym (is_key-same key k same))) keys

pub keys_more : (keys so_far added after : List (List ℕ)) (slots : List ℕ) (index slot : ℕ) → index < length slots → slot ≡ get_or slots index slot → added ≡ filter (is_in_slot slot) keys → after ≡ so_far ++ added
    → HaveSameKeys so_far (filter (is_in_one (take index slots)) keys) → HaveSameKeys after (filter (is_in_one (take (index + 1) slots)) keys)
keys_more keys so_far added after slots index slot within at is more before key =
    let there = list_any (is_key key) keys in
    ap (list_any (is_key key)) more ∙ list_any-append (is_key key) so_far added
    ∙ ap (λ b. b || list_any (is_key key) added) (before key ∙ any_passes (is_in_one (take index slots)) keys key)
    ∙ ap (λ b. (is_in_one (take index slots) key && there) || b) (ap (list_any (is_key key)) is ∙ any_passes (is_in_slot slot) keys key)
    ∙ either (is_in_one (take index slots) key) (nat_eq (hash_slot key) slot) there
    ∙ ap (λ b. (is_in_one (take index slots) key || b) && there) (swapped (hash_slot key) slot ∙ ap (λ s. s == hash_slot key) at)
    ∙ ap (λ b. b && there) (sym (list_any_more (λ s. s == hash_slot key) slots index slot within))
    ∙ sym (any_passes (is_in_one (take (index + 1) slots)) keys key)
  where
    either : (a b c : Bool) → ((a && c) || (b && c)) ≡ ((a || b) && c)
    either true true true = refl
    either true true false = refl
    either true false true = refl
    either true false false = refl
    either false b c = refl

    swapped : (a b : ℕ) → (a == b) ≡ (b == a)
    swapped a b = grind (arith, nat_tests)
