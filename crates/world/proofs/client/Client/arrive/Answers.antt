use Rattle.world.proofs.Readying.{is_answered}
use Rattle.world.proofs.client.Client.arrive.Goals as goal

-- a client's request on a connection that is ready is answered
pub unreachable-requires : goal.unreachable-requires
unreachable-requires c =
    is_answered c.args.run.now c.serve.new.self c.args.link c.args.words c.in_ok-reply.field-0.reply c.in_ok-reply.field-0.outputs.items c.requires.may c.in_ok-reply.ensures.serves c.in_default.is
