use Rattle.bus.specs.declared.bodies.ElectionBody.TheVariants.{Pause}
use Rattle.bus.specs.declared.message.Body.TheVariants.{Election}
use Rattle.node_core.proofs.MessageLemmas.{pause_drafted}
use Rattle.node_core.specs.Comes.{MayBeTaken}
use Rattle.node_parts.proofs.ChangeLemmas.{draft_can_be_made, made_comes}
use Rattle.node_core.proofs.votes.pause.Goals as goal

pub make-requires : goal.make-requires
make-requires g c =
    draft_can_be_made c.args.node.now (MayBeTaken c.args.node.now c.args.from (Election (Pause c.args.stream))) c.hand_over.new.draft
    (pause_drafted c.args.ticket c.args.node.now c.args.from c.hand_over.new.draft c.args.stream c.in_ok-hand_over.ensures)

pub returns-clause-taken : goal.returns-clause-taken
returns-clause-taken g c =
    made_comes c.args.ticket c.args.node.now (MayBeTaken c.args.node.now c.args.from (Election (Pause c.args.stream))) c.hand_over.new.draft c.in_ok-make.field-0.0 c.make.new.node
    (pause_drafted c.args.ticket c.args.node.now c.args.from c.hand_over.new.draft c.args.stream c.in_ok-hand_over.ensures) c.in_ok-make.ensures.outputs c.in_ok-make.ensures.state
