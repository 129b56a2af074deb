use Rattle.std.proofs.Common.{◌≢◌, [], length}
use Rattle.resp2.specs.ReplyProgress.{IsReading, SamePart, element_front}
use Rattle.resp2.proofs.array_part.ArrayPart.take_elements.Given as goal

-- elements were taken, and the same bytes are pending
abbrev pub invariant-elements : goal.invariant-elements
invariant-elements l = record {
  reading : IsReading l.self l.begun l.input.items;
  some : l.self.elements.items ≢ [];
  kept : SamePart l.fn.self l.fn.begun l.fn.input l.self l.begun l.input;
}

abbrev pub decreases-elements : goal.decreases-elements
decreases-elements l = length (element_front l.begun l.input.items)
