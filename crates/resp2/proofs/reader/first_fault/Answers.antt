use Rattle.std.proofs.Common.{arith, rules}
use Rattle.resp2.proofs.Overlong.{consumed_past, fault_stays, fault_in_front}
use Rattle.resp2.proofs.reader.first_fault.Goals as goal

pub returns-then-consumed-gt-MOST_REQUEST_BYTES-clause-refuses : goal.returns-then-consumed-gt-MOST_REQUEST_BYTES-clause-refuses
returns-then-consumed-gt-MOST_REQUEST_BYTES-clause-refuses c known =
    consumed_past c.args.progress.now c.args.input.now.items c.args.consumed c.requires.progress c.requires.sound c.requires.counted c.if-consumed-gt-MOST_REQUEST_BYTES.true

pub returns-then-len-clause-refuses : goal.returns-then-len-clause-refuses
returns-then-len-clause-refuses c =
    fault_stays c.args.fault c.args.progress.now c.args.input.now.items c.args.consumed c.requires.counted c.if-consumed-gt-MOST_REQUEST_BYTES.false
    (omega (arith, c.len.ensures.value, c.if-len.true)) c.requires.refuses

pub returns-clause-refuses : goal.returns-clause-refuses
returns-clause-refuses c =
    fault_in_front c.fault_within.result c.args.fault c.args.progress.now c.args.input.now.items c.args.consumed _ c.requires.counted
    c.if-consumed-gt-MOST_REQUEST_BYTES.false (search rules) (omega (arith, c.len.ensures.value, c.if-len.false)) (c.requires.refuses (search rules)) c.fault_within.ensures.fault
