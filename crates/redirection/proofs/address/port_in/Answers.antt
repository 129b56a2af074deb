use Rattle.std.proofs.Common.{rules}
use Rattle.redirection.proofs.Parts.{no_port_is_zero}
use Rattle.redirection.proofs.address.port_in.Goals as goal

pub returns-then-port-eq0-clause-none : goal.returns-then-port-eq0-clause-none
returns-then-port-eq0-clause-none c = search (rules, no_port_is_zero)
