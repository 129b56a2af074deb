use Rattle.std.proofs.Common.{◌≡◌}
use Rattle.std.specs.Vec.Iter.{into_iter_items}
use Rattle.keyspace.specs.Changes.{applied}
use Rattle.keyspace.specs.Keyspace.{Keyspace}
use Rattle.keyspace.specs.Putting.{with_pairs}
use Rattle.keyspace.proofs.changes.NewValues.insert_each.Given as goal

-- the pairs that are left lead to the same keyspace
abbrev pub invariant-loop-key : goal.invariant-loop-key
invariant-loop-key l =
    (keyspace : Keyspace) → with_pairs (applied keyspace l.self) (into_iter_items l.key-iterator) ≡ with_pairs (applied keyspace l.fn.self) l.fn.pairs.items
