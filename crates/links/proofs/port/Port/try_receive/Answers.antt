use Rattle.std.proofs.Common.{subst}
use Rattle.links.specs.Ports.{HasGiven}
use Rattle.links.proofs.PortLemmas.{port_gives, port_with}
use Rattle.links.proofs.port.Port.try_receive.Goals as goal

pub returns-clause-given : goal.returns-clause-given
returns-clause-given g c =
    let old = g.E.PortEnd.giving c.self.inside.end in
    let new = g.E.PortEnd.giving c.receive.new.self in
    let waiting = c.self.inside.waiting.items in
    subst (λ port. HasGiven port c.in_ok-posted.posted (port_with new.end new.given waiting)) c.self.view_is
    (port_gives old new c.in_ok-posted.posted waiting c.in_ok-posted.ensures.some (g.met.E.PortEnd.came c.receive.new.self))
