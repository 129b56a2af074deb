use Rattle.std.proofs.Common.{rules}
use Rattle.audit.proofs.Sounds.{none_under_so, unsent_so, was_sent_so}
use Rattle.audit.proofs.sound.was_sent.Goals as goal

pub returns-in-Some-entry_under-clause-sent : goal.returns-in-Some-entry_under-clause-sent
returns-in-Some-entry_under-clause-sent c is =
    was_sent_so c.args.journals.now c.args.message.now c.in-Some.journal.now (search rules) (search rules) c.in-Some-entry_under.entry.now (search rules) (c.has_sent.ensures.sent is)

pub returns-in-Some-entry_under-clause-unsent : goal.returns-in-Some-entry_under-clause-unsent
returns-in-Some-entry_under-clause-unsent c unsent =
    unsent_so c.args.journals.now c.args.message.now c.in-Some.journal.now (search rules) (search rules) c.in-Some-entry_under.entry.now (search rules) c.entry_under.ensures.rises (c.has_sent.ensures.unsent unsent)

pub returns-in-None-clause-unsent : goal.returns-in-None-clause-unsent
returns-in-None-clause-unsent c _ = none_under_so c.args.journals.now c.args.message.now c.in-Some.journal.now (search rules) (search rules) (search rules) c.entry_under.ensures.rises
