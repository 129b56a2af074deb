use Rattle.std.proofs.Common.{ap, ◌∙◌}
use Rattle.election.specs.Members.{Members}
use Rattle.election.specs.Voting.{may_grant}
use Rattle.node_step.specs.Failing.{members_of}
use Rattle.node_step.specs.State.{NodeState}
use Rattle.node_parts.proofs.parts.NodeParts.vote.Goals as goal

pub returns-clause-granted : goal.returns-clause-granted
returns-clause-granted g c =
    let own = c.self.inside.election in
    c.on_request-granted.ensures.granted
    ∙ ap (λ (members : Members). may_grant own.voter members own.health own.current_epoch c.args.request) c.members-members.ensures
    ∙ ap (λ (node : NodeState). may_grant node.voter (members_of c.args.self.now) node.health node.current_epoch c.args.request) c.self.view_is
