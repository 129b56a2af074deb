use Rattle.std.proofs.Common.{◌≡◌, ◌++◌, length, map}
use Rattle.std.specs.Vec.Iter.{into_iter_items, into_iter_len}
use Rattle.audit.specs.Gathered.{part_of, parts_of}
use Rattle.audit.proofs.gathering.finish_all.Given as goal

-- the parts so far, and the cells that are left
abbrev pub invariant-loop-cell : goal.invariant-loop-cell
invariant-loop-cell g l =
    record {
      parts : l.parts.items ++ map part_of (into_iter_items l.cell-iterator) ≡ parts_of l.fn.cells.items;
      left : into_iter_len l.cell-iterator ≡ length (into_iter_items l.cell-iterator);
    }
