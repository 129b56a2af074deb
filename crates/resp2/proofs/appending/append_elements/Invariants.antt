use Rattle.std.proofs.Common.{◌≡◌, ◌++◌, take}
use Rattle.std.specs.List.{flat_map}
use Rattle.resp_values.specs.Reply.{element_spelling}
use Rattle.resp2.proofs.appending.append_elements.Given as goal

-- the elements so far are spelled
abbrev pub invariant-loop-element : goal.invariant-loop-element
invariant-loop-element l = l.out.items ≡ l.initial.out.items ++ flat_map element_spelling (take l.element-index l.elements)
