use Rattle.std.proofs.Common.{◌∙◌, None, ap, sym, refl}
use Rattle.resp2.specs.declared.words.Partial.{Partial}
use Rattle.resp_header.specs.Reading.{header_onto}
use Rattle.resp2.proofs.ReaderSteps.{count_is, begins, begun_onto}
use Rattle.resp2.proofs.words.Partial.begin.Goals as goal

pub returns-clause-partial : goal.returns-clause-partial
returns-clause-partial c =
    let count = count_is _ _ _ c.in-Some.header c.as_slice.ensures c.in_ok-header.ensures c.in-Some.is in
    begins _ c.in_ok-words.ensures.items refl count.0

pub returns-clause-begun : goal.returns-clause-begun
returns-clause-begun c =
    let count = count_is _ _ _ c.in-Some.header c.as_slice.ensures c.in_ok-header.ensures c.in-Some.is in
    let begun : Partial = record { words = c.in_ok-words.words; left = c.in-Some.header.number; len = None } in
    begun_onto begun _ c.in_ok-words.ensures.items refl ∙ ap (header_onto 42 c.in-Some.header.number) c.advance.ensures.items ∙ sym count.1
