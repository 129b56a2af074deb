use Rattle.std.proofs.Common.{◌≡◌}
use Rattle.link_ends.specs.Giving.{HasReceived}
use Rattle.link_ends.specs.Shims.{given_by}
use Rattle.link_ends.proofs.shim.ShimPortEnd.receive.Given as goal

-- messages may have been received, and none was given
abbrev pub invariant-loop : goal.invariant-loop
invariant-loop g l =
    record {
      received : HasReceived (g.E.PortEnd.giving l.fn.self.inner).end (g.E.PortEnd.giving l.self.inner).end;
      given : given_by g.E.Link.received l.self ≡ given_by g.E.Link.received l.fn.self;
    }
