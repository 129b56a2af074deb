-- The slots that a master hands over, as its replica claims them.
use Rattle.std.proofs.Common.{◌≡◌, ◌<◌, ◌≤◌, ◌==◌, ◌||◌, ℕ, List, [], ◌∷◌, Bool, true, false, Option, Some, None, length, refl, sym, ap, ◌∙◌, inl, inr, arith}
use Rattle.std.proofs.lemmas.Bool.{both_ways, cases_Bool, cases_lt, cond-true, cond-false, eq-eqb}
use Rattle.std.proofs.lemmas.List.{get_or_past}
use Rattle.std.proofs.lemmas.List.Folds.{list_any-from_Any}
use Rattle.std.specs.List.{list_any}
use Rattle.key_slot.specs.SlotRange.{is_in}
use Rattle.slot_table.proofs.RunsOfLemmas.{are_runs_of, no_claim_behind}
use Rattle.slot_table.specs.Claims.{claimed, in_epoch}
use Rattle.slot_table.specs.Runs.{AreRunsOf, runs_of}
use Rattle.slot_table.specs.Table.{claim_at, entry_at, epoch_in}
use Rattle.slot_table.specs.declared.entry.SlotEntry.{SlotEntry}
use Rattle.slot_table.specs.declared.runs.Run.{Run}
use Rattle.node_step.specs.State.{NodeState}
use Rattle.single_keyspace.proofs.Seen.{no_some, same_some}
use Rattle.single_keyspace.proofs.Sendings.{claim_justified}
use Rattle.single_keyspace.specs.Handing.{newest_in}

-- one of the runs has the slot
abbrev pub have : List (Run ℕ) → ℕ → Bool
have runs slot = list_any (λ (run : Run ℕ). is_in run.slots slot) runs

-- then it is claimed, in any epoch
pub claimed_in_epoch : (runs : List (Run ℕ)) (owner slot epoch : ℕ) → have runs slot ≡ true → claimed (in_epoch epoch runs) owner slot ≡ Some (record { epoch = epoch; owner = owner })
claimed_in_epoch [] owner slot epoch has = absurd (both_ways false refl has)
claimed_in_epoch (run ∷ runs) owner slot epoch has =
    let mine : Option SlotEntry = Some (record { epoch = epoch; owner = owner }) in
    elim (cases_Bool (is_in run.slots slot)) [
      | inl inside ↦ cond-true (is_in run.slots slot) mine (claimed (in_epoch epoch runs) owner slot) inside
      | inr apart ↦
          let more : have runs slot ≡ true = sym (ap (λ (b : Bool). b || have runs slot) apart) ∙ has in
          cond-false (is_in run.slots slot) mine (claimed (in_epoch epoch runs) owner slot) apart ∙ claimed_in_epoch runs owner slot epoch more
    ]

pub claimed_somehow : (runs : List (Run ℕ)) (owner slot : ℕ) → have runs slot ≡ true → (epoch : ℕ) × (claimed runs owner slot ≡ Some (record { epoch = epoch; owner = owner }))
claimed_somehow [] owner slot has = absurd (both_ways false refl has)
claimed_somehow (run ∷ runs) owner slot has =
    let mine : Option SlotEntry = Some (record { epoch = run.value; owner = owner }) in
    elim (cases_Bool (is_in run.slots slot)) [
      | inl inside ↦ (run.value, cond-true (is_in run.slots slot) mine (claimed runs owner slot) inside)
      | inr apart ↦
          let more : have runs slot ≡ true = sym (ap (λ (b : Bool). b || have runs slot) apart) ∙ has in
          let rest = claimed_somehow runs owner slot more in
          (rest.0, cond-false (is_in run.slots slot) mine (claimed runs owner slot) apart ∙ rest.1)
    ]

-- what is claimed in another epoch is claimed in its own
pub claimed_before : (runs : List (Run ℕ)) (owner other slot epoch : ℕ) (entry : SlotEntry) → claimed (in_epoch epoch runs) owner slot ≡ Some entry
    → (first : ℕ) × (claimed runs other slot ≡ Some (record { epoch = first; owner = other }))
claimed_before [] owner other slot epoch entry is = absurd (no_some refl is)
claimed_before (run ∷ runs) owner other slot epoch entry is =
    let now : Option SlotEntry = Some (record { epoch = epoch; owner = owner }) in
    let then_so : Option SlotEntry = Some (record { epoch = run.value; owner = other }) in
    elim (cases_Bool (is_in run.slots slot)) [
      | inl inside ↦ (run.value, cond-true (is_in run.slots slot) then_so (claimed runs other slot) inside)
      | inr apart ↦
          let rest = claimed_before runs owner other slot epoch entry (sym (cond-false (is_in run.slots slot) now (claimed (in_epoch epoch runs) owner slot) apart) ∙ is) in
          (rest.0, cond-false (is_in run.slots slot) then_so (claimed runs other slot) apart ∙ rest.1)
    ]

-- none is newer than the newest
pub claimed_least : (runs : List (Run ℕ)) (owner slot epoch : ℕ) → claimed runs owner slot ≡ Some (record { epoch = epoch; owner = owner }) → epoch ≤ newest_in runs
claimed_least [] owner slot epoch is = absurd (no_some refl is)
claimed_least (run ∷ runs) owner slot epoch is =
    let mine : Option SlotEntry = Some (record { epoch = run.value; owner = owner }) in
    elim (cases_Bool (is_in run.slots slot)) [
      | inl inside ↦
          let same : run.value ≡ epoch = ap (λ (e : SlotEntry). e.epoch) (same_some (cond-true (is_in run.slots slot) mine (claimed runs owner slot) inside) is) in
          omega (arith, same)
      | inr apart ↦
          let rest : epoch ≤ newest_in runs = claimed_least runs owner slot epoch (sym (cond-false (is_in run.slots slot) mine (claimed runs owner slot) apart) ∙ is) in
          omega (arith, rest)
    ]

-- ---- of a node's table

module _ (node : NodeState) (n : ℕ) (whole : length node.table ≡ 16384) where
  abbrev runs : List (Run ℕ)
  runs = runs_of (claim_at node.table n)

  pub below : (slot : ℕ) (entry : SlotEntry) → entry_at node.table slot ≡ Some entry → slot < 16384
  below slot entry is =
      elim (cases_lt slot 16384) [
        | inl inside ↦ inside
        | inr past ↦
            let beyond : length node.table ≤ slot = omega (arith, whole, past) in
            absurd (no_some (get_or_past node.table slot None beyond) is)
      ]

  -- a slot of its own is in the runs
  pub own_is_had : (slot epoch : ℕ) → entry_at node.table slot ≡ Some (record { epoch = epoch; owner = n }) → have runs slot ≡ true
  own_is_had slot epoch is =
      let are : AreRunsOf (claim_at node.table n) runs = are_runs_of (claim_at node.table n) (no_claim_behind node.table n whole) in
      let claims : claim_at node.table n slot ≡ Some epoch = ap (epoch_in n) is ∙ cond-true (n == n) (Some epoch) None (eq-eqb n n refl) in
      list_any-from_Any (λ (run : Run ℕ). is_in run.slots slot) runs (are.complete slot epoch (below slot (record { epoch = epoch; owner = n }) is) claims)

  -- and what the runs claim is its own
  pub claimed_is_own : (slot epoch : ℕ) → claimed runs n slot ≡ Some (record { epoch = epoch; owner = n }) → entry_at node.table slot ≡ Some (record { epoch = epoch; owner = n })
  claimed_is_own slot epoch is = claim_justified [] n node n None whole slot epoch is

  -- in an epoch that isn't above the newest
  pub own_is_least : (slot epoch : ℕ) → entry_at node.table slot ≡ Some (record { epoch = epoch; owner = n }) → epoch ≤ newest_in runs
  own_is_least slot epoch is =
      let found = claimed_somehow runs n slot (own_is_had slot epoch is) in
      let same : epoch ≡ found.0 = ap (λ (e : SlotEntry). e.epoch) (same_some is (claimed_is_own slot found.0 found.1)) in
      let least : found.0 ≤ newest_in runs = claimed_least runs n slot found.0 found.1 in
      omega (arith, same, least)
