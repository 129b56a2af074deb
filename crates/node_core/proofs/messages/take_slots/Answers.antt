use Rattle.node_core.proofs.MessageLemmas.{slots_taken}
use Rattle.node_core.proofs.messages.take_slots.Goals as goal

pub returns-clause-taken : goal.returns-clause-taken
returns-clause-taken g c =
    slots_taken c.args.ticket c.args.node.now c.args.from c.args.body.now c.draft_slots.new.draft c.in_ok-make.field-0.0 c.make.new.node c.in_ok-draft_slots.ensures.draft
    c.in_ok-make.ensures.outputs c.in_ok-make.ensures.state
