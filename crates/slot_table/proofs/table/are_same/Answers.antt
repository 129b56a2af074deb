use Rattle.std.proofs.Common.{sym, ◌∙◌}
use Rattle.slot_table.proofs.SameLemmas.{same_run, same_values}
use Rattle.slot_table.proofs.table.are_same.Goals as goal

pub returns : goal.returns
returns c = λ is. same_values _ same_run c.args.runs.now c.args.others.now (sym c.eq.ensures ∙ is)
