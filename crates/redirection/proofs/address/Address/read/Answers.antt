use Rattle.redirection.proofs.Addresses.{no_host, no_parts, none_by}
use Rattle.redirection.proofs.address.Address.read.Goals as goal

pub returns-in-Some-clause-none : goal.returns-in-Some-clause-none
returns-in-Some-clause-none c = none_by c.copied.result _ _ (no_host c.args.text.now c.in-Some.host.now c.in-Some.port c.in-Some.ensures.found) c.copied.ensures.none

pub returns-in-None-clause-none : goal.returns-in-None-clause-none
returns-in-None-clause-none c = no_parts c.args.text.now c.in-None.ensures.none
