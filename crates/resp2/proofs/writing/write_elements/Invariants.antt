use Rattle.std.proofs.Common.{take}
use Rattle.std.specs.List.{flat_map}
use Rattle.resp2.specs.Writing.{Writes}
use Rattle.resp_values.specs.Reply.{element_spelling}
use Rattle.resp2.proofs.writing.write_elements.Given as goal

-- the elements so far are written
abbrev pub invariant-loop-element : goal.invariant-loop-element
invariant-loop-element g l =
    Writes g.W.Write.contents l.fn.out l.out
    (flat_map element_spelling (take l.element-index l.elements))
