use Rattle.std.proofs.Common.{refl, subst}
use Rattle.resp_values.specs.declared.reply.Reply.{Reply}
use Rattle.node_parts.specs.Drafts.{Drafts}
use Rattle.node_core.proofs.cluster_commands.number_asks.Goals as goal
use Rattle.node_step.specs.Outcome.{replied}
use Rattle.node_step.specs.Requests.{using_up, with_numbers}
use Rattle.node_step.specs.declared.response.Why.TheVariants.{Told}

pub returns : goal.returns
returns g c =
    let after = with_numbers (using_up c.args.node.now c.args.conn) c.args.conn in
    subst (λ (reply : Reply). Drafts c.args.node.now (replied after Told reply) c.draft_reply.new.draft) c.done.ensures (c.draft_reply.ensures after refl)
