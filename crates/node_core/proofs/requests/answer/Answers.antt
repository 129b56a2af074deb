use Rattle.std.proofs.Common.{rules}
use Rattle.command_table.specs.Table.{command_of}
use Rattle.node_core.proofs.AnswerLemmas.{answered_and_written, no_number, no_offset, no_offset_written}
use Rattle.node_core.proofs.requests.answer.Goals as goal
use Rattle.node_step.specs.Numbers.{has_offset}
use Rattle.node_step.specs.Requests.{has_number, using_up}
use Rattle.node_step.specs.Step.{written}

pub returns-clause-answer : goal.returns-clause-answer
returns-clause-answer g c =
    answered_and_written c.args.node.now c.args.conn c.args.words.now c.in_ok-is_write.is_write c.answer_words.new.draft c.add_request.new.draft
    c.as_slice-words.ensures.request c.in_ok-is_write.ensures.write c.in_ok-is_write.ensures.answer c.in_ok-add_request.ensures.records

pub returns-in_err-is_write-clause-exhausted : goal.returns-in_err-is_write-clause-exhausted
returns-in_err-is_write-clause-exhausted g c = λ exhausted.
    no_number _ (has_offset c.args.node.now (written c.args.node.now c.args.conn c.args.words.now)) (c.in_err-is_write.ensures.exhausted (search rules))

pub returns-in_err-add_request-clause-exhausted : goal.returns-in_err-add_request-clause-exhausted
returns-in_err-add_request-clause-exhausted g c = λ exhausted.
    no_offset (has_number (using_up c.args.node.now c.args.conn) (command_of c.args.words.now)) _
    (no_offset_written c.args.node.now c.args.conn c.args.words.now c.answer_words.new.draft c.in_ok-is_write.ensures.answer
    (c.in_err-add_request.ensures.exhausted (search rules) (command_of c.args.words.now) c.in_ok-is_write.ensures.write))
