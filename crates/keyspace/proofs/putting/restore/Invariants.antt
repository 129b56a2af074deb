use Rattle.std.proofs.Common.{◌≡◌, length}
use Rattle.keyspace.specs.Changes.{change_each}
use Rattle.keyspace.specs.Commit.{AddNoKeys}
use Rattle.keyspace.proofs.putting.restore.Given as goal

-- the changes that are left lead to the same keyspace, and add no key
abbrev pub invariant-loop-key : goal.invariant-loop-key
invariant-loop-key g l =
    let contents = g.S.Store.contents in
    record {
      same : change_each (contents l.store) l.former.items ≡ change_each (contents l.fn.store) l.fn.former.items;
      over : AddNoKeys (contents l.store) l.former.items;
    }

abbrev pub decreases-loop-key : goal.decreases-loop-key
decreases-loop-key g l = length l.former.items
