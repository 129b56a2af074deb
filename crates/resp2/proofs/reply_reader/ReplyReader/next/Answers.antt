use Rattle.std.proofs.Common.{rules, ◌≡◌, ap, None}
use Rattle.resp2.specs.ReplyProgress.{part_front}
use Rattle.resp2.proofs.ReplyDecides.{answers_reply, answers_waits, answers_fault, anyway, none_kept}
use Rattle.resp2.proofs.reply_reader.ReplyReader.next.Goals as goal

pub returns-in-Ok-clause-reply : goal.returns-in-Ok-clause-reply
returns-in-Ok-clause-reply c =
    answers_reply c.args.self.now c.in-Ok.found (part_front c.self.inside.array c.self.inside.begun c.self.inside.input.items) _ _ (search rules) (ap (λ s. s.pending) c.self.view_is)
    c.in-Ok.ensures.sound c.in-Ok.ensures.takes (search rules)

pub returns-in-Ok-clause-unfinished : goal.returns-in-Ok-clause-unfinished
returns-in-Ok-clause-unfinished c =
    answers_waits c.args.self.now c.in-Ok.found (part_front c.self.inside.array c.self.inside.begun c.self.inside.input.items) _ _ (search rules) (ap (λ s. s.pending) c.self.view_is)
    c.in-Ok.ensures.unfinished c.in-Ok.ensures.takes (search rules)

pub returns-in-Err : goal.returns-in-Err
returns-in-Err c =
    let sound : c.args.self.now.fault ≡ None = search rules in
    record {
      reply = tt;
      unfinished = tt;
      fault = anyway c.args.self.now.fault _
          (answers_fault c.args.self.now c.in-Err.fault (part_front c.self.inside.array c.self.inside.begun c.self.inside.input.items) _ c.is_lasting-self-inside.result sound (ap (λ s. s.pending) c.self.view_is)
          c.in-Err.ensures.err c.in-Err.ensures.takes c.is_lasting-self-inside.ensures);
      again = none_kept c.args.self.now.fault _ sound;
    }
