-- The claim of a node once one slot has another entry.
use Rattle.std.proofs.Common.{◌≡◌, sym, ◌∙◌, ap, subst, inl, inr, ℕ, ◌<◌, List, length, set, Option, None, arith}
use Rattle.std.proofs.lemmas.Bool.{cases_eq}
use Rattle.std.proofs.lemmas.List.{get_or-set_other, get_or-set_same, length-set}
use Rattle.slot_table.specs.declared.entry.SlotEntry.{SlotEntry}
use Rattle.slot_table.specs.declared.runs.Run.{Run}
use Rattle.slot_table.specs.Table.{entry_at, epoch_in, claim_at}
use Rattle.slot_table.specs.Runs.{runs_of}
use Rattle.slot_table.specs.CutRuns.{AreRunsCutAt, with_value}
use Rattle.slot_table.proofs.RunsOfLemmas.{are_runs_of, is_runs_of, no_claim_behind}
use Rattle.slot_table.proofs.CutRunLemmas.{cut_runs, whole_runs, with_same_values, with_own, with_others}

-- a claim has all runs of the node's slots
pub claim_runs : (table : List (Option SlotEntry)) (node : ℕ) (claim : List (Run ℕ)) → length table ≡ 16384 → claim ≡ runs_of (claim_at table node) → AreRunsCutAt 16384 (claim_at table node) claim
claim_runs table node claim whole is =
    let bounded = no_claim_behind table node whole in
    subst (AreRunsCutAt 16384 (claim_at table node)) (sym is) (cut_runs (claim_at table node) (runs_of (claim_at table node)) bounded (are_runs_of (claim_at table node) bounded))

-- what is claimed of the slots once one of them has the entry
claimed_then : (table : List (Option SlotEntry)) (node slot : ℕ) (entry : Option SlotEntry) → slot < length table → (at : ℕ) → with_value (claim_at table node) slot (epoch_in node entry) at ≡ claim_at (set table slot entry) node at
claimed_then table node slot entry within at =
    elim (cases_eq at slot) [
      | inl same ↦
          ap (with_value (claim_at table node) slot (epoch_in node entry)) same
          ∙ with_own (claim_at table node) slot (epoch_in node entry)
          ∙ sym (ap (epoch_in node) (ap (entry_at (set table slot entry)) same ∙ get_or-set_same table slot entry None within))
      | inr other ↦
          with_others (claim_at table node) slot (epoch_in node entry) at other
          ∙ sym (ap (epoch_in node) (get_or-set_other table slot at entry None other))
    ]

-- all runs with the epoch of the entry at the slot are the claim then
pub changed_runs : (table : List (Option SlotEntry)) (node slot : ℕ) (entry : Option SlotEntry) (runs : List (Run ℕ)) → length table ≡ 16384 → slot < 16384
    → AreRunsCutAt 16384 (with_value (claim_at table node) slot (epoch_in node entry)) runs → runs ≡ runs_of (claim_at (set table slot entry) node)
changed_runs table node slot entry runs whole within are =
    let then : ℕ → Option ℕ = claim_at (set table slot entry) node in
    let bounded = no_claim_behind (set table slot entry) node (length-set table slot entry ∙ whole) in
    let same = claimed_then table node slot entry (omega arith) in
    is_runs_of then runs bounded (whole_runs then runs (bounded 16384 (omega arith)) (with_same_values 16384 _ then runs (λ at below. same at) are))

-- nothing changes where the slot has that epoch before
pub same_runs : (table : List (Option SlotEntry)) (node slot : ℕ) (entry : Option SlotEntry) (runs : List (Run ℕ)) → claim_at table node slot ≡ epoch_in node entry
    → AreRunsCutAt 16384 (claim_at table node) runs → AreRunsCutAt 16384 (with_value (claim_at table node) slot (epoch_in node entry)) runs
same_runs table node slot entry runs has are =
    with_same_values 16384 (claim_at table node) (with_value (claim_at table node) slot (epoch_in node entry)) runs (λ at below.
    elim (cases_eq at slot) [
      | inl same ↦ ap (claim_at table node) same ∙ has ∙ sym (ap (with_value (claim_at table node) slot (epoch_in node entry)) same ∙ with_own (claim_at table node) slot (epoch_in node entry))
      | inr other ↦ sym (with_others (claim_at table node) slot (epoch_in node entry) at other)
    ]) are
