-- What a store finds at a key: it lies in the map of the key's slot.
use Rattle.std.proofs.Common.{◌≡◌, ◌≢◌, ℕ, zero, suc, List, [], ◌∷◌, ◌++◌, length, ◌<◌, Bool, true, false, cond, refl, sym, ap, ◌∙◌, arith}
use Rattle.std.proofs.lemmas.Cmp.{nat_list_cmp_total}
use Rattle.std.specs.Cmp.Lexicographic.{slice_cmp}
use Rattle.std.specs.FinMap as map
use Rattle.std.specs.List.{slice_index_or}
use Rattle.std.specs.Map.{lookup}
use Rattle.std.specs.Ordering.{nat_cmp}
use Rattle.std.specs.Prelude.{Some, None}
use Rattle.key_map.specs.KeyMap.{KeyMap}
use Rattle.key_slot.specs.Slot.{hash_slot}
use Rattle.keyspace.proofs.Applied.{is_key}
use Rattle.keyspace.proofs.Maps.{get_seen}
use Rattle.slot_store.specs.Maps.{all_entries, entries_at, found_at, ArePlaced}

module _ {X : Type 0} where
  -- the test passes nothing in the first list
  lookup_second : (test : List ℕ → Bool) (es fs : List (List ℕ × X)) → lookup test es ≡ None → lookup test (es ++ fs) ≡ lookup test fs
  lookup_second test [] fs none = refl
  lookup_second test (e ∷ es) fs none =
      elim (test e.0) as (λ b. cond b (Some e.1) (lookup test es) ≡ None → cond b (Some e.1) (lookup test (es ++ fs)) ≡ lookup test fs) [
        | true ↦ λ n. absurd (cc)
        | false ↦ λ n. lookup_second test es fs n
      ] none

  -- the test passes nothing in the second list
  lookup_first : (test : List ℕ → Bool) (es fs : List (List ℕ × X)) → lookup test fs ≡ None → lookup test (es ++ fs) ≡ lookup test es
  lookup_first test [] fs none = none
  lookup_first test (e ∷ es) fs none = ap (cond (test e.0) (Some e.1)) (lookup_first test es fs none)

  -- a key that is in no map is not among all entries
  found_nowhere : (maps : List (KeyMap X)) (q : List ℕ) → ((i : ℕ) → found_at maps i q ≡ None) → lookup (is_key q) (all_entries maps) ≡ None
  found_nowhere [] q none = refl
  found_nowhere (m ∷ maps) q none = lookup_second (is_key q) m.entries (all_entries maps) (none 0) ∙ found_nowhere maps q (λ i. none (suc i))

  -- a key that is in one map at most is found there
  only_there : (maps : List (KeyMap X)) (i : ℕ) (q : List ℕ) → ((j : ℕ) → j ≢ i → found_at maps j q ≡ None) → lookup (is_key q) (all_entries maps) ≡ found_at maps i q
  only_there [] i q none = refl
  only_there (m ∷ maps) zero q none = lookup_first (is_key q) m.entries (all_entries maps) (found_nowhere maps q (λ j. none (suc j) (λ e. omega arith)))
  only_there (m ∷ maps) (suc i) q none = lookup_second (is_key q) m.entries (all_entries maps) (none 0 (λ e. omega arith)) ∙ only_there maps i q (λ j other. none (suc j) (λ e. other (omega arith)))

  -- the finite map of all entries
  abbrev pub contents_of : List (KeyMap X) → map.FinMap (slice_cmp nat_cmp) X
  contents_of maps = map.from_entries (all_entries maps)

  -- it has at a key what the map of the key's slot has
  pub get_placed : (maps : List (KeyMap X)) (q : List ℕ) → ArePlaced maps → map.get (contents_of maps) q ≡ found_at maps (hash_slot q) q
  get_placed maps q placed = get_seen nat_list_cmp_total (all_entries maps) q ∙ only_there maps (hash_slot q) q (λ j. placed j q)

  entries-get : (maps : List (KeyMap X)) (i : ℕ) (m : KeyMap X) → i < length maps → entries_at maps i ≡ (slice_index_or maps i m).entries
  entries-get [] i m below = absurd (omega arith)
  entries-get (n ∷ maps) zero m below = refl
  entries-get (n ∷ maps) (suc i) m below = entries-get maps i m (omega arith)

  -- the map at an index
  pub entries-index : (maps : List (KeyMap X)) (i : ℕ) (m : KeyMap X) → i < length maps → m ≡ slice_index_or maps i m → entries_at maps i ≡ m.entries
  entries-index maps i m below is = entries-get maps i m below ∙ ap (λ (n : KeyMap X). n.entries) (sym is)

  -- a look-up in the map of the key's slot
  pub get_at : (maps : List (KeyMap X)) (i : ℕ) (m : KeyMap X) (q : List ℕ) → length maps ≡ 16384 → ArePlaced maps → i < 16384 → m ≡ slice_index_or maps i m → i ≡ hash_slot q → lookup (is_key q) m.entries ≡ map.get (contents_of maps) q
  get_at maps i m q size placed small at slot =
      ap (lookup (is_key q)) (sym (entries-index maps i m (omega arith) at)) ∙ ap (λ j. found_at maps j q) slot ∙ sym (get_placed maps q placed)
