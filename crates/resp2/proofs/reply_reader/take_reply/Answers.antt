use Rattle.resp2.specs.ReplyProgress.{element_front}
use Rattle.resp2.proofs.ArraySteps.{element_found, no_header}
use Rattle.resp2.proofs.reply_reader.take_reply.Goals as goal

pub into_reply-requires : goal.into_reply-requires
into_reply-requires c =
    no_header (element_front c.args.begun.now c.args.input.now.items) c.take_leaf.new.input.items c.in-Some-2.element
    (element_found c.in_ok-element.field-0 c.in-Some-2.element _ _ c.in-Some-2.is c.in_ok-element.ensures.takes)
