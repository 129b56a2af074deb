use Rattle.std.proofs.Common.{false, refl, subst}
use Rattle.smart_client.specs.Calls.{ClientView}
use Rattle.smart_client.specs.State.{ClientState}
use Rattle.smart_client.proofs.ClientLemmas.{Goes, begins, passes_on}
use Rattle.smart_client.proofs.client.Client.call.Goals as goal

pub deeds-init : goal.deeds-init
deeds-init g c =
    let network = c.self.inside.network in
    let view : ClientState → ClientView = λ state. record { state = state; deeds = g.N.Network.deeds network; pool = g.N.Network.pool network; wires = g.N.Network.wires network } in
    record {
      goes = subst (λ (old : ClientView). Goes c.args.words old false c.on-action.result (view c.on-action.new.self)) c.self.view_is
          (begins c.args.words (view c.self.inside.core) (view c.on-action.new.self) c.on-action.result (rw c.self.invariant tt) c.on-action.ensures.steps refl refl refl);
      waits = c.on-action.ensures.waits;
    }

pub deeds-preserved : goal.deeds-preserved
deeds-preserved g c = record {
  goes = passes_on c.args.words c.args.self.now _ _ c.deeds.is_begun c.deeds.action _ c.perform-event.result c.deeds.invariant.goes c.perform-event.ensures.deeds c.perform-event.ensures.pool c.perform-event.ensures.wires c.perform-event.ensures.event c.deeds.invariant.waits
      c.on-action-in_default.ensures.steps;
  waits = c.on-action-in_default.ensures.waits;
}
