use Rattle.std.proofs.Common.{subst}
use Rattle.link_ends.specs.Shims.{IsShim}
use Rattle.link_ends.proofs.ShimLemmas.{one_given}
use Rattle.link_ends.proofs.shim.Shim.next_coming.Goals as goal

pub invariant_of-self-2 : goal.invariant_of-self-2
invariant_of-self-2 g c =
    one_given c.self.inside.acts (g.L.Link.received c.self.inside.inner) c.pop_front.new.self.items c.self.inside.held.items c.in_ok-message.message
    (subst (λ coming. IsShim c.self.inside.acts (g.L.Link.received c.self.inside.inner) coming c.self.inside.held.items) c.in_ok-message.ensures.items c.self.invariant)
