use Rattle.std.proofs.Common.{ap, ◌∙◌}
use Rattle.election.specs.Electing.{judged}
use Rattle.election.specs.Members.{Members}
use Rattle.node_step.specs.Failing.{members_of}
use Rattle.node_step.specs.State.{NodeState}
use Rattle.node_parts.proofs.parts.NodeParts.judged.Goals as goal

pub returns : goal.returns
returns g c =
    let own = c.self.inside.election in
    c.judge.ensures ∙ ap (λ (members : Members). judged own.candidate members own.health) c.members-members.ensures
    ∙ ap (λ (node : NodeState). judged node.candidate (members_of c.args.self.now) node.health) c.self.view_is
