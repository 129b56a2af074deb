use Rattle.std.proofs.Common.{◌≡◌, take, nat_eq}
use Rattle.std.specs.Cmp.Lexicographic.{pointwise}
use Rattle.std.specs.List.{IsDistinct}
use Rattle.hash.specs.Pairs.{Pairs, HasDistinctFields, fields_changed}
use Rattle.keyspace.specs.Hashes.{removals}
use Rattle.keyspace.proofs.planned_fields.removals_once.Given as goal

-- the fields so far, each one once
abbrev pub invariant-loop-field : goal.invariant-loop-field
invariant-loop-field l =
    record {
      made : l.changes.items ≡ removals l.named.keys;
      distinct : IsDistinct (pointwise nat_eq) l.named.keys;
      same : (pairs : Pairs) → HasDistinctFields pairs → fields_changed pairs (removals l.named.keys) ≡ fields_changed pairs (removals (take l.field-index l.fields));
    }
