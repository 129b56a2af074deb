use Rattle.std.proofs.Common.{rules}
use Rattle.node_core.proofs.MessageLemmas.{slots_drafted}
use Rattle.node_core.proofs.messages.draft_slots.Goals as goal

pub returns-clause-draft : goal.returns-clause-draft
returns-clause-draft g c =
    slots_drafted c.args.node.now c.args.from c.args.body.now c.add_written.new.draft (c.in_ok-add_written.ensures.records _ _ c.in_ok-bytes.ensures.written c.in_ok-bytes.ensures.draft)

pub returns-in_err-add_written-clause-exhausted : goal.returns-in_err-add_written-clause-exhausted
returns-in_err-add_written-clause-exhausted g c = λ exhausted. c.in_err-add_written.ensures.exhausted (search rules) _ c.in_ok-bytes.ensures.written
