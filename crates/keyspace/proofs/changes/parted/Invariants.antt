use Rattle.std.proofs.Common.{◌≡◌}
use Rattle.std.specs.BTreeMap.{btree_map_len}
use Rattle.keyspace.specs.Changes.{changes_of, applied}
use Rattle.keyspace.specs.Commit.{without}
use Rattle.keyspace.specs.Keyspace.{Keyspace}
use Rattle.keyspace.specs.Putting.{with_pairs}
use Rattle.keyspace.proofs.changes.parted.Given as goal

-- the changes that are left lead to the same keyspace
abbrev pub invariant-loop-key : goal.invariant-loop-key
invariant-loop-key l =
    (keyspace : Keyspace) → without (applied (with_pairs keyspace l.pairs.items) (changes_of l.changes.entries)) l.removed.items ≡ applied keyspace (changes_of l.fn.changes.entries)

abbrev pub decreases-loop-key : goal.decreases-loop-key
decreases-loop-key l = btree_map_len l.changes
