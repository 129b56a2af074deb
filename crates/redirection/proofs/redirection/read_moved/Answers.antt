use Rattle.std.proofs.Common.{rules}
use Rattle.redirection.proofs.Redirections.{no_moved_address}
use Rattle.redirection.proofs.redirection.read_moved.Goals as goal

pub returns-in-None-clause-none : goal.returns-in-None-clause-none
returns-in-None-clause-none c = no_moved_address c.args.text.now c.in-Some.address.now c.in-Some.slot c.in-Some.ensures.found (search rules)
