use Rattle.final_answers.proofs.Ending.{have_reasons_behind}
use Rattle.final_answers.proofs.law.answers_have_reasons.Goals as goal

pub returns : goal.returns
returns c = have_reasons_behind
