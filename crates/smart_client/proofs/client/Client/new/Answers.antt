use Rattle.std.proofs.Common.{ap}
use Rattle.smart_client.specs.State.{ClientState}
use Rattle.smart_client.proofs.client.Client.new.Goals as goal

pub returns : goal.returns
returns g c = ap (λ (state : ClientState). record { state = state; deeds = g.N.Network.deeds c.args.network; pool = g.N.Network.pool c.args.network; wires = g.N.Network.wires c.args.network }) c.in_ok-new.ensures
