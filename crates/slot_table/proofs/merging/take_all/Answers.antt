use Rattle.std.proofs.Common.{arith, refl, sym, ◌∙◌, ◌≡◌, ◌+◌, ◌<◌, ap, drop, length, true, ℕ, List, Option, Some, if◌then◌else◌}
use Rattle.std.specs.List.{Any}
use Rattle.std.proofs.lemmas.Bool.{or_parts}
use Rattle.key_slot.specs.SlotRange.{is_in}
use Rattle.slot_table.specs.declared.entry.SlotEntry.{SlotEntry}
use Rattle.slot_table.specs.Table.{entry_at}
use Rattle.slot_table.specs.Claims.{greater, claimed}
use Rattle.slot_table.specs.Remembered.{LiesIn}
use Rattle.slot_table.proofs.MergeLemmas.{greater_run, later_runs, next_run}
use Rattle.slot_table.proofs.KnownLemmas.{changes_nothing, still_nothing, says_nothing}
use Rattle.slot_table.proofs.merging.take_all.Goals as goal
use Rattle.slot_table.proofs.merging.take_all.Goals.{then-not-is_in_known, else-not-is_in_known}

pub loop-run-init : goal.loop-run-init
loop-run-init c = record {
  whole = c.requires.whole;
  known = says_nothing c.args.entries.now c.args.known.now c.args.owner c.requires.known;
  each = λ slot lt. refl;
  stays = λ is. refl;
}

-- what a run does to each slot
step : (c : goal.Joined-not-is_in_known) → (slot : ℕ) → slot < 16384
    → entry_at c.if-not-is_in_known.entries slot ≡ (if is_in c.run-item.result.slots slot then greater (entry_at c.loop-run.entries slot) (Some (record { epoch = c.run-item.result.value; owner = c.args.owner })) else entry_at c.loop-run.entries slot)
step c slot lt =
    let old = c.loop-run.entries in
    let run = c.run-item.result in
    elim c.if-not-is_in_known.branch [
      | then-not-is_in_known w ↦ ap (λ (table : List (Option SlotEntry)). entry_at table slot) w.entries-is ∙ w.take-changed.ensures.each slot lt
      | else-not-is_in_known w ↦
          let is : c.is_in_known.result ≡ true = w.if-not-is_in_known.false in
          let lies : Any (LiesIn run) c.args.known.now = c.is_in_known.ensures.lies is in
          ap (λ (table : List (Option SlotEntry)). entry_at table slot) w.entries-is ∙ changes_nothing old c.args.known.now c.args.owner run c.requires.in_order lies c.loop-run.invariant.known slot lt
    ]

pub loop-run-preserved : goal.loop-run-preserved
loop-run-preserved c =
    let claim = c.args.claim.now in
    let run = c.run-item.result in
    let i = c.loop-run.run-index in
    record {
      whole = elim c.if-not-is_in_known.branch [
        | then-not-is_in_known w ↦ ap (length {A = Option SlotEntry}) w.entries-is ∙ w.take-changed.ensures.whole
        | else-not-is_in_known w ↦ ap (length {A = Option SlotEntry}) w.entries-is ∙ c.loop-run.invariant.whole
      ];
      known = λ slot lt.
          still_nothing (Some (record { epoch = run.value; owner = c.args.owner })) (claimed c.args.known.now c.args.owner slot) (entry_at c.loop-run.entries slot) _ (is_in run.slots slot) (step c slot lt)
          (c.loop-run.invariant.known slot lt);
      each = λ slot lt.
          greater_run run (drop (i + 1) claim) c.args.owner slot (entry_at c.loop-run.entries slot) _ (later_runs claim i run c.requires.rising (omega arith) c.run-item.is) (step c slot lt)
          ∙ next_run (λ runs. greater (entry_at c.loop-run.entries slot) (claimed runs c.args.owner slot)) claim i run (omega arith) c.run-item.is
          ∙ c.loop-run.invariant.each slot lt;
      stays = λ is. elim c.if-not-is_in_known.branch [
        | then-not-is_in_known w ↦
            let parts = or_parts c.loop-run.changed w.take-changed.result (sym w.changed-is ∙ is) in
            w.entries-is ∙ w.take-changed.ensures.stays parts.1 ∙ c.loop-run.invariant.stays parts.0
        | else-not-is_in_known w ↦ w.entries-is ∙ c.loop-run.invariant.stays (sym w.changed-is ∙ is)
      ];
    }
