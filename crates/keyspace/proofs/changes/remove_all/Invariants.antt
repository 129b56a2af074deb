use Rattle.std.proofs.Common.{◌≡◌, drop}
use Rattle.keyspace.specs.Commit.{without}
use Rattle.keyspace.proofs.changes.remove_all.Given as goal

abbrev pub invariant-loop-key : goal.invariant-loop-key
invariant-loop-key g l =
    let contents = g.S.Store.contents in
    without (contents l.store) (drop l.key-index l.keys) ≡ without (contents l.fn.store) l.keys
