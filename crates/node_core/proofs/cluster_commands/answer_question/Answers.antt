use Rattle.node_core.proofs.AnswerLemmas.{question_answered}
use Rattle.node_core.proofs.cluster_commands.answer_question.Goals as goal

pub returns : goal.returns
returns g c = record {
  answer = question_answered c.args.node.now c.args.conn c.in_ok-reply.reply c.tell.new.draft c.tell.ensures c.args.question.now c.requires.question c.in_ok-reply.ensures;
}
