use Rattle.std.proofs.Common.{◌∙◌, ap, sym}
use Rattle.resp_header.specs.Reading.{header_onto}
use Rattle.resp2.proofs.ReaderSteps.{length_is}
use Rattle.resp2.proofs.words.read_len.Goals as goal

pub returns-clause-kept : goal.returns-clause-kept
returns-clause-kept c =
    ap (header_onto 36 c.in-Some.header.number) c.advance.ensures.items
    ∙ sym (length_is _ _ _ c.in-Some.header c.as_slice.ensures c.in_ok-header.ensures c.in-Some.is).1

pub returns-clause-len : goal.returns-clause-len
returns-clause-len c = (length_is _ _ _ c.in-Some.header c.as_slice.ensures c.in_ok-header.ensures c.in-Some.is).0
