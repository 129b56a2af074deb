use Rattle.std.proofs.Common.{◌≡◌}
use Rattle.std.specs.Vec.Iter.{into_iter_items}
use Rattle.hash.specs.Entries.{pairs_of, IsReadyFor}
use Rattle.hash.specs.Pairs.{fields_changed}
use Rattle.hash.specs.Sized.{IsSized}
use Rattle.hash.proofs.changing.change_fields.Given as goal

-- the changes that are left lead to the same fields, and there is room for them
abbrev pub invariant-loop-field : goal.invariant-loop-field
invariant-loop-field l =
    record {
      same : fields_changed (pairs_of l.entries) (into_iter_items l.field-iterator) ≡ fields_changed (pairs_of l.fn.entries) l.fn.changes.items;
      ready : IsReadyFor l.entries (into_iter_items l.field-iterator);
      sized : IsSized (pairs_of l.entries) l.size;
    }
