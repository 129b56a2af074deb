use Rattle.bus.specs.declared.bodies.StreamBody.TheVariants.{Sync}
use Rattle.bus.specs.declared.message.Body.TheVariants.{Stream}
use Rattle.node_core.proofs.MessageLemmas.{sync_drafted}
use Rattle.node_core.specs.Comes.{MayBeTaken}
use Rattle.node_parts.proofs.ChangeLemmas.{draft_can_be_made, made_comes}
use Rattle.node_core.proofs.following.answer.Goals as goal

pub make-requires : goal.make-requires
make-requires g c =
    draft_can_be_made c.args.node.now (MayBeTaken c.args.node.now c.args.from (Stream (Sync c.args.sync.now))) c.answer_sync.new.draft
    (sync_drafted c.args.ticket c.args.node.now c.args.from c.answer_sync.new.draft c.args.sync.now c.in_ok-answer_sync.ensures)

pub returns-clause-taken : goal.returns-clause-taken
returns-clause-taken g c =
    made_comes c.args.ticket c.args.node.now (MayBeTaken c.args.node.now c.args.from (Stream (Sync c.args.sync.now))) c.answer_sync.new.draft c.in_ok-make.field-0.0 c.make.new.node
    (sync_drafted c.args.ticket c.args.node.now c.args.from c.answer_sync.new.draft c.args.sync.now c.in_ok-answer_sync.ensures) c.in_ok-make.ensures.outputs c.in_ok-make.ensures.state
