use Rattle.std.proofs.Common.{◌≡◌, length}
use Rattle.resp2.specs.ReplyProgress.{IsArrayPart}
use Rattle.resp2.proofs.array_part.ArrayPart.end_arrays.Given as goal

-- an array may have ended, and the one around it goes on
abbrev pub invariant-arrays : goal.invariant-arrays
invariant-arrays l = record {
  part : IsArrayPart l.self;
  same : l.self.elements.items ≡ l.fn.self.elements.items;
  was : l.self.left ≡ 0 → l.fn.self.left ≡ 0;
}

abbrev pub decreases-arrays : goal.decreases-arrays
decreases-arrays l = length l.self.outer.items
