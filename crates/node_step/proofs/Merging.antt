-- What a table has of a slot once a claim is taken.
use Rattle.std.proofs.Common.{◌≡◌, ◌<◌, ◌≤◌, ◌⊎◌, ℕ, List, [], ◌∷◌, true, Option, Some, None, length, refl, sym, ap, ◌∙◌, inl, inr, arith}
use Rattle.std.proofs.lemmas.Bool.{cases_lt, cases_Bool, cond-true, cond-false}
use Rattle.std.proofs.lemmas.List.{get_or_past}
use Rattle.std.proofs.lemmas.List.FromFn.{get_or-map-range_with_len, length-map-range_with_len}
use Rattle.key_slot.specs.SlotRange.{is_in}
use Rattle.slot_table.specs.Claims.{claimed, greater, is_above, merged}
use Rattle.slot_table.specs.Table.{entry_at}
use Rattle.slot_table.specs.declared.entry.SlotEntry.{SlotEntry}
use Rattle.slot_table.specs.declared.runs.Run.{Run}

no_some : {A : Type 0} {o : Option A} {x : A} → o ≡ None → o ≡ Some x → ⊥
no_some none some = cc

same_some : {A : Type 0} {o : Option A} {x y : A} → o ≡ Some x → o ≡ Some y → x ≡ y
same_some one two = cc

greater_cases : (known claim : Option SlotEntry) → (greater known claim ≡ known) ⊎ ((entry : SlotEntry) × (claim ≡ Some entry) × (is_above entry known ≡ true) × (greater known claim ≡ Some entry))
greater_cases known None = inl refl
greater_cases known (Some entry) =
    elim (cases_Bool (is_above entry known)) [
      | inl above ↦ inr (entry, refl, above, cond-true (is_above entry known) (Some entry) known above)
      | inr below ↦ inl (cond-false (is_above entry known) (Some entry) known below)
    ]

pub merged_at : (table : List (Option SlotEntry)) (runs : List (Run ℕ)) (from slot : ℕ) → slot < 16384 → entry_at (merged table runs from) slot ≡ greater (entry_at table slot) (claimed runs from slot)
unfolding merged
merged_at table runs from slot below = get_or-map-range_with_len (λ (s : ℕ). greater (entry_at table s) (claimed runs from s)) 0 16384 slot slot None below (omega arith)

pub length_merged : (table : List (Option SlotEntry)) (runs : List (Run ℕ)) (from : ℕ) → length (merged table runs from) ≡ 16384
unfolding merged
length_merged table runs from = length-map-range_with_len (λ (s : ℕ). greater (entry_at table s) (claimed runs from s)) 0 16384

-- an entry stays, or is the claim, which is above it
pub merged_cases : (table : List (Option SlotEntry)) (runs : List (Run ℕ)) (from slot : ℕ) → length table ≡ 16384
    → (entry_at (merged table runs from) slot ≡ entry_at table slot)
    ⊎ ((entry : SlotEntry) × (claimed runs from slot ≡ Some entry) × (is_above entry (entry_at table slot) ≡ true) × (entry_at (merged table runs from) slot ≡ Some entry))
merged_cases table runs from slot whole =
    elim (cases_lt slot 16384) [
      | inl below ↦
          elim (greater_cases (entry_at table slot) (claimed runs from slot)) [
            | inl stays ↦ inl (merged_at table runs from slot below ∙ stays)
            | inr taken ↦ inr (taken.0, taken.1, taken.2, merged_at table runs from slot below ∙ taken.3)
          ]
      | inr past ↦
          let far : length (merged table runs from) ≤ slot = omega (arith, length_merged table runs from, past) in
          let out : length table ≤ slot = omega (arith, whole, past) in
          inl (get_or_past (merged table runs from) slot None far ∙ sym (get_or_past table slot None out))
    ]

-- a claim is the sender's
pub claimed_owner : (runs : List (Run ℕ)) (owner slot : ℕ) (entry : SlotEntry) → claimed runs owner slot ≡ Some entry → entry.owner ≡ owner
claimed_owner [] owner slot entry is = absurd (no_some refl is)
claimed_owner (run ∷ runs) owner slot entry is =
    elim (cases_Bool (is_in run.slots slot)) [
      | inl here ↦ ap (λ (e : SlotEntry). e.owner) (sym (same_some refl (sym (cond-true (is_in run.slots slot) (Some (record { epoch = run.value; owner = owner })) (claimed runs owner slot) here) ∙ is)))
      | inr apart ↦ claimed_owner runs owner slot entry (sym (cond-false (is_in run.slots slot) (Some (record { epoch = run.value; owner = owner })) (claimed runs owner slot) apart) ∙ is)
    ]
