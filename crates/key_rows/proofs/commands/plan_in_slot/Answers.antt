use Rattle.std.proofs.Common.{ap}
use Rattle.node_step.specs.State.{NodeState}
use Rattle.key_rows.proofs.SlotLemmas.{executed_reply, executed_after}
use Rattle.key_rows.proofs.commands.plan_in_slot.Goals as goal

pub returns-clause-reply : goal.returns-clause-reply
returns-clause-reply g c =
    executed_reply c.args.slot c.args.command.now c.args.node.now.keyspace _ _ c.args.plan.now c.plan_command.new.plan c.plan_command.result
    c.requires.slot (ap (λ (state : NodeState). state.keyspace) c.node.view_is) c.part.ensures c.requires.nothing c.plan_command.ensures

pub returns-clause-after : goal.returns-clause-after
returns-clause-after g c =
    executed_after c.args.slot c.args.command.now c.args.node.now.keyspace _ _ c.args.plan.now c.plan_command.new.plan c.plan_command.result
    c.requires.slot (ap (λ (state : NodeState). state.keyspace) c.node.view_is) c.part.ensures c.requires.nothing c.plan_command.ensures
