use Rattle.std.proofs.Common.{◌∙◌}
use Rattle.std.proofs.lemmas.Result.{on_ok_weaker}
use Rattle.slot_table.proofs.CutRunLemmas.{one_next}
use Rattle.slot_table.proofs.changing.push_slot.Goals as goal

pub returns-in-Some : goal.returns-in-Some
returns-in-Some c = on_ok_weaker c.push_run.result (λ adds value_at are is. adds c.args.slot value_at are (one_next c.args.slot c.in-Some.value value_at (is ∙ c.in-Some.is))) c.push_run.ensures
