use Rattle.std.proofs.Common.{◌≡◌, ◌+◌, ◌≤◌, length}
use Rattle.std.specs.Cmp.Lexicographic.{pointwise}
use Rattle.std.specs.Prelude.{nat_eq}
use Rattle.std.specs.Vec.Iter.{into_iter_items}
use Rattle.indexmap.specs.IndexMap.{insert_all, spare}
use Rattle.hash.proofs.many.fill.Given as goal

-- the pairs that are left lead to the same map, and there is room for them
abbrev pub invariant-loop-field : goal.invariant-loop-field
invariant-loop-field l =
    record {
      same : insert_all (pointwise nat_eq) l.map.entries (into_iter_items l.field-iterator) ≡ insert_all (pointwise nat_eq) l.fn.map.entries l.fn.pairs.items;
      room : length (into_iter_items l.field-iterator) ≤ spare l.map;
      used : spare l.fn.map + length (into_iter_items l.field-iterator) ≤ spare l.map + length l.fn.pairs.items;
    }
