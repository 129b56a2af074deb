use Rattle.std.proofs.Common.{refl, rules}
use Rattle.smart_client.proofs.TurnLemmas.{follows_to}
use Rattle.smart_client.proofs.client_core.ClientCore.follow.Goals as goal

pub returns : goal.returns
returns c = follows_to c.args.self.now _ c.args.call _ c.args.address c.in_ok-target.target c.args.number _ (search rules) (search rules) c.wait.ensures.same refl (search rules)
