use Rattle.std.proofs.Common.{◌≡◌, ◌∙◌, sym, ◌+◌, ◌-◌, ◌==◌, ◌&&◌, ℕ, subst, ap, List, get_or, arith}
use Rattle.std.proofs.lemmas.Bool.{and_parts, and_from, both_ways, eqb-true, eq-eqb}
use Rattle.std.proofs.lemmas.List.{get_or_default}
use Rattle.slot_table.specs.declared.runs.Run.{Run}
use Rattle.slot_table.specs.CutRuns.{AreRunsCutAt}
use Rattle.slot_table.proofs.CutRunLemmas.{pushed, lengthened, IsApart}
use Rattle.slot_table.proofs.changing.push_run.Goals as goal
use Rattle.slot_table.proofs.changing.push_run.Goals.{then-many-gt0+else-continues, else-many-gt0}

pub returns-then-continues : goal.returns-then-continues
returns-then-continues c = λ bound value_at are is.
    let run = c.index.result.now in
    let parts = and_parts (run.slots.last + 1 == c.args.next.slots.first) (run.value == c.args.next.value) (sym c.continues.ensures ∙ c.if-continues.true) in
    lengthened bound value_at c.args.runs.now.items c.args.next are is (c.len-many.result - 1) run (omega arith) (sym c.index.ensures) (eqb-true _ _ parts.0) (eqb-true _ _ parts.1)

pub returns : goal.returns
returns c = λ bound value_at are is.
    let runs : List (Run ℕ) = c.args.runs.now.items in
    let next : Run ℕ = c.args.next in
    let apart : IsApart runs next = λ k d last ends same.
    elim c.if-many-gt0.branch [
      | then-many-gt0+else-continues w ↦
          let run : Run ℕ = w.index.result.now in
          let it : get_or runs k d ≡ run = ap (λ j. get_or runs j d) (omega arith) ∙ get_or_default runs (c.len-many.result - 1) d run (omega arith) ∙ sym w.index.ensures in
          let ends_there : run.slots.last + 1 ≡ next.slots.first = ap (λ (r : Run ℕ). r.slots.last + 1) (sym it) ∙ ends in
          let same_value : run.value ≡ next.value = ap (λ (r : Run ℕ). r.value) (sym it) ∙ same in
          both_ways (run.slots.last + 1 == next.slots.first && run.value == next.value) (sym w.continues.ensures ∙ w.if-continues.false)
          (and_from (run.slots.last + 1 == next.slots.first) (run.value == next.value) (eq-eqb _ _ ends_there) (eq-eqb _ _ same_value))
      | else-many-gt0 w ↦ omega arith
    ] in
    subst (AreRunsCutAt (next.slots.last + 1) value_at) (sym c.in_ok-push.ensures.items) (pushed bound value_at runs next are is apart)
