use Rattle.final_answers.proofs.Ending as ending
use Rattle.final_answers.proofs.law.answers_tell_what_became_of_commands.Goals as goal

pub returns : goal.returns
returns c = ending.answers_are_final
