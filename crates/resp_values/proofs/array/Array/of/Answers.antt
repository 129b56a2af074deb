use Rattle.std.proofs.Common.{arith}
use Rattle.std.proofs.lemmas.Grind.{common_steps}
use Rattle.resp_values.proofs.Arrays.{has_replies_push}
use Rattle.resp_values.proofs.array.Array.of.Goals as goal

pub loop-reply-preserved : goal.loop-reply-preserved
loop-reply-preserved c =
    (grind (arith, common_steps), has_replies_push c.loop-reply.yielded c.in-Some.reply c.loop-reply.invariant.1 c.push_reply.ensures.one)
