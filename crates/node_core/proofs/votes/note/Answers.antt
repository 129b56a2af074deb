use Rattle.bus.specs.declared.bodies.ElectionBody.TheVariants.{Paused}
use Rattle.bus.specs.declared.message.Body.TheVariants.{Election}
use Rattle.node_core.proofs.MessageLemmas.{paused_drafted}
use Rattle.node_core.specs.Comes.{MayBeTaken}
use Rattle.node_parts.proofs.ChangeLemmas.{draft_can_be_made, made_comes}
use Rattle.node_core.proofs.votes.note.Goals as goal

pub make-requires : goal.make-requires
make-requires g c =
    draft_can_be_made c.args.node.now (MayBeTaken c.args.node.now c.args.from (Election (Paused c.args.handing.now))) c.note_handing.new.draft
    (paused_drafted c.args.ticket c.args.node.now c.args.from c.note_handing.new.draft c.args.handing.now c.in_ok-note_handing.ensures)

pub returns-clause-taken : goal.returns-clause-taken
returns-clause-taken g c =
    made_comes c.args.ticket c.args.node.now (MayBeTaken c.args.node.now c.args.from (Election (Paused c.args.handing.now))) c.note_handing.new.draft c.in_ok-make.field-0.0 c.make.new.node
    (paused_drafted c.args.ticket c.args.node.now c.args.from c.note_handing.new.draft c.args.handing.now c.in_ok-note_handing.ensures) c.in_ok-make.ensures.outputs c.in_ok-make.ensures.state
