use Rattle.std.proofs.Common.{◌≡◌, ◌≤◌, ◌+◌, length}
use Rattle.std.specs.Prelude.{vec_capacity}
use Rattle.std.specs.Vec.Iter.{into_iter_items}
use Rattle.keyspace.specs.Changes.{change_each}
use Rattle.keyspace.specs.Commit.{AddNoKeys}
use Rattle.keyspace.specs.Putting.{with_pairs}
use Rattle.keyspace.proofs.putting.put_pairs.Given as goal

-- the pairs that are left lead to the same keyspace, and what was kept leads back; for each pair there is room to keep what its key has
abbrev pub invariant-loop-key : goal.invariant-loop-key
invariant-loop-key g l =
    let contents = g.S.Store.contents in
    record {
      same : with_pairs (contents l.store) (into_iter_items l.key-iterator) ≡ with_pairs (contents l.fn.store) l.fn.pairs.items;
      back : change_each (contents l.store) l.former.items ≡ contents l.fn.store;
      over : AddNoKeys (contents l.store) l.former.items;
      room : length l.former.items + length (into_iter_items l.key-iterator) ≤ vec_capacity l.former;
    }
