use Rattle.std.proofs.Common.{ℕ, List, take}
use Rattle.std.specs.Borrow.{Bor}
use Rattle.std.specs.List.{flat_map}
use Rattle.resp2.specs.Writing.{Writes}
use Rattle.resp2.proofs.writing.write_slices.Given as goal

-- the slices so far are written
abbrev pub invariant-loop-slice : goal.invariant-loop-slice
invariant-loop-slice g l =
    Writes g.W.Write.contents l.fn.out l.out
    (flat_map (λ (slice : Bor (List ℕ)). slice.now) (take l.slice-index l.slices))
