use Rattle.std.proofs.Common.{ap, sym, subst, ◌∙◌}
use Rattle.world.specs.Asking.{MayBeCarried}
use Rattle.world.specs.Clients.{ClientView}
use Rattle.world.proofs.client.Client.carry.Goals as goal

-- what is under way is the request
pub arrive-requires-clause-may : goal.arrive-requires-clause-may
arrive-requires-clause-may c =
    subst (MayBeCarried c.args.run.now) (ap (λ (client : ClientView). client.traffic) (sym c.self.view_is) ∙ sym c.in-Asked.ensures.value) c.requires.asks
