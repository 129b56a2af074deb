use Rattle.redirection.proofs.Parts.{no_port}
use Rattle.redirection.proofs.address.host_and_port.Goals as goal

pub returns-in_err-port_in-clause-none : goal.returns-in_err-port_in-clause-none
returns-in_err-port_in-clause-none c =
    rw c.from_residual-in_err-port_in.ensures
    (no_port c.args.text.now c.in_ok-host.host.now c.in_ok-host.port.now c.in_ok-host.ensures.found c.in_err-port_in.ensures.none)
