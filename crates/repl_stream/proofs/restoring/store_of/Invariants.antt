use Rattle.std.proofs.Common.{◌≡◌, ◌-◌, drop, length}
use Rattle.keyspace.specs.Keyspace.{keyspace_of}
use Rattle.repl_stream.proofs.restoring.store_of.Given as goal

-- the store has the last pairs
abbrev pub invariant-loop-place : goal.invariant-loop-place
invariant-loop-place g l = g.S.Store.contents l.store ≡ keyspace_of (drop (length l.pairs - l.place) l.pairs)
