use Rattle.redirection.proofs.Redirections.{one_redirection}
use Rattle.redirection.proofs.law.a_text_is_of_one_redirection.Goals as goal

pub returns : goal.returns
returns c = one_redirection
