use Rattle.std.proofs.Common.{◌≡◌, ◌∙◌, ◌+◌, ap, ℕ, List, arith, max, min, subst, sym}
use Rattle.key_slot.specs.declared.slots.SlotRange.{SlotRange}
use Rattle.slot_table.specs.declared.runs.Run.{Run}
use Rattle.slot_table.proofs.PartLemmas.{Reached, reached_end, reached_none, reached_part}
use Rattle.slot_table.proofs.changing.push_parts.Goals as goal
use Rattle.slot_table.proofs.changing.push_parts.Goals.{then-first-behind+in_ok-push_run, else-first-behind}

pub loop-run-preserved : goal.loop-run-preserved
loop-run-preserved c = λ value_at wanted are same began.
    let i : ℕ = c.loop-run.run-index in
    let old : List (Run ℕ) = c.loop-run.changed.items in
    let run : Run ℕ = c.run-item.result in
    let reached : Reached wanted c.args.start c.args.end c.args.runs.now i old = c.loop-run.invariant value_at wanted are same began in
    let begins : c.max-first.result ≡ max run.slots.first c.args.start = c.max-first.ensures ∙ ap (λ first. max first c.args.start) c.index.ensures.same in
    let ends : c.min-behind.result ≡ min (run.slots.last + 1) c.args.end = c.min-behind.ensures ∙ ap (λ last. min (last + 1) c.args.end) c.index-in-loop-run.ensures.same in
    elim c.if-first-behind.branch [
      | then-first-behind+in_ok-push_run w ↦
          subst (λ (v : List (Run ℕ)). Reached wanted c.args.start c.args.end c.args.runs.now (i + 1) v) (sym (ap (λ v. v.items) w.changed-is))
          (reached_part value_at wanted c.args.start c.args.end c.args.runs.now are same c.requires.within i run (omega arith) c.run-item.is c.max-first.result c.min-behind.result begins ends
          old _ (record { slots = w.slots_between-slots.result; value = run.value }) (omega arith) (ap (λ (slots : SlotRange). record { slots = slots; value = run.value }) w.slots_between-slots.ensures) w.in_ok-push_run.ensures reached)
      | else-first-behind w ↦
          subst (λ (v : List (Run ℕ)). Reached wanted c.args.start c.args.end c.args.runs.now (i + 1) v) (sym (ap (λ v. v.items) w.changed-is))
          (reached_none value_at wanted c.args.start c.args.end c.args.runs.now are same c.requires.within i run (omega arith) c.run-item.is c.max-first.result c.min-behind.result begins ends old (omega arith) reached)
    ]

pub returns : goal.returns
returns c = λ value_at wanted are same began.
    reached_end value_at wanted c.args.start c.args.end c.args.runs.now are same c.requires.within c.loop-run.run-index c.loop-run.changed.items (omega arith) (c.loop-run.invariant value_at wanted are same began)
