use Rattle.std.proofs.Common.{rules}
use Rattle.std.proofs.lemmas.List.{take_rest}
use Rattle.redirection.proofs.Splits.{found_nowhere, found_there}
use Rattle.redirection.proofs.splitting.split_at.Goals as goal

pub returns-in_err-place-clause-none : goal.returns-in_err-place-clause-none
returns-in_err-place-clause-none c = rw c.from_residual.ensures (found_nowhere c.args.byte c.args.text.now (search rules))

pub returns-clause-found : goal.returns-clause-found
returns-clause-found c = rw take_rest (found_there c.args.byte c.args.text.now c.in_ok-place.place (search rules))
