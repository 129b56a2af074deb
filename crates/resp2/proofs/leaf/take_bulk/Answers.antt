use Rattle.std.proofs.Common.{rules, ◌∙◌, sym, ap, refl, arith}
use Rattle.resp_header.specs.declared.fault.Fault.TheVariants.{Protocol}
use Rattle.resp2.specs.declared.reply_reader.TheConstants.{MOST_COUNT}
use Rattle.resp_header.specs.Reading.{header_onto}
use Rattle.resp2.proofs.HeaderReading.{header_is}
use Rattle.resp2.proofs.LeafSteps.{waits_in_front, fails_in_front}
use Rattle.resp2.proofs.leaf.take_bulk.Goals as goal

pub take_bytes-requires-clause-begun : goal.take_bytes-requires-clause-begun
take_bytes-requires-clause-begun c =
    let header = header_is 36 Protocol 0 MOST_COUNT c.as_slice-2.result.now c.args.input.now.items c.in_ok-header.field-0 c.in-Some.header (omega arith) (omega arith) (omega arith) (search rules) c.in_ok-header.ensures c.in-Some.is in
    record { short = header.1; within = omega arith; text = refl }

pub returns-clause-unfinished : goal.returns-clause-unfinished
returns-clause-unfinished c =
    let header = header_is 36 Protocol 0 MOST_COUNT c.as_slice-2.result.now c.args.input.now.items c.in_ok-header.field-0 c.in-Some.header (omega arith) (omega arith) (omega arith) (search rules) c.in_ok-header.ensures c.in-Some.is in
    waits_in_front c.take_bytes.result _ _ c.args.input.now.items c.take_bytes.ensures.unfinished
    (ap (header_onto 36 c.in-Some.header.number) c.advance.ensures.items ∙ sym header.2)

pub returns-clause-err : goal.returns-clause-err
returns-clause-err c =
    let header = header_is 36 Protocol 0 MOST_COUNT c.as_slice-2.result.now c.args.input.now.items c.in_ok-header.field-0 c.in-Some.header (omega arith) (omega arith) (omega arith) (search rules) c.in_ok-header.ensures c.in-Some.is in
    fails_in_front c.take_bytes.result _ _ c.args.input.now.items c.take_bytes.ensures.err
    (ap (header_onto 36 c.in-Some.header.number) c.advance.ensures.items ∙ sym header.2)
