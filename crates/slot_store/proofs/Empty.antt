-- A store with no keys.
use Rattle.std.proofs.Common.{◌≡◌, ℕ, zero, suc, List, [], ◌∷◌, ◌++◌, refl, ap, ◌∙◌}
use Rattle.std.specs.FinMap as map
use Rattle.std.specs.Map.{lookup}
use Rattle.key_map.specs.KeyMap.{KeyMap}
use Rattle.keyspace.proofs.Applied.{is_key}
use Rattle.slot_store.specs.Maps.{all_entries, entries_at, ArePlaced}
use Rattle.slot_store.proofs.Placed.{contents_of}

module _ {X : Type 0} where
  -- no map has an entry
  pub record AreEmpty (maps : List (KeyMap X)) : Type 0 where
    pub each : (i : ℕ) → entries_at maps i ≡ []

  pub empty_none : AreEmpty []
  empty_none = record { each = λ i. refl }

  entries-push : (maps : List (KeyMap X)) (m : KeyMap X) → m.entries ≡ [] → ((i : ℕ) → entries_at maps i ≡ []) → (i : ℕ) → entries_at (maps ++ m ∷ []) i ≡ []
  entries-push [] m empty each zero = empty
  entries-push [] m empty each (suc i) = refl
  entries-push (n ∷ maps) m empty each zero = each 0
  entries-push (n ∷ maps) m empty each (suc i) = entries-push maps m empty (λ j. each (suc j)) i

  -- an empty map is pushed
  pub empty_push : (maps : List (KeyMap X)) (m : KeyMap X) → AreEmpty maps → m.entries ≡ [] → AreEmpty (maps ++ m ∷ [])
  empty_push maps m before empty = record { each = entries-push maps m empty before.each }

  pub placed_empty : (maps : List (KeyMap X)) → AreEmpty maps → ArePlaced maps
  placed_empty maps empty i key apart = ap (lookup (is_key key)) (empty.each i)

  all_empty : (maps : List (KeyMap X)) → ((i : ℕ) → entries_at maps i ≡ []) → all_entries maps ≡ []
  all_empty [] each = refl
  all_empty (m ∷ maps) each = ap (λ es. es ++ all_entries maps) (each 0) ∙ all_empty maps (λ i. each (suc i))

  pub contents_empty : (maps : List (KeyMap X)) → AreEmpty maps → contents_of maps ≡ map.empty
  contents_empty maps empty = ap map.from_entries (all_empty maps empty.each)
