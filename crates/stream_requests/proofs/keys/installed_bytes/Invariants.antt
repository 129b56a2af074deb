use Rattle.std.proofs.Common.{◌≡◌, take}
use Rattle.node_step.specs.Streams.{written_by_pairs}
use Rattle.resp2.specs.Stream.{stream_spelling}
use Rattle.stream_requests.proofs.keys.installed_bytes.Given as goal

-- the pairs so far are written
abbrev pub invariant-loop-place : goal.invariant-loop-place
invariant-loop-place g l = l.bytes.items ≡ stream_spelling (written_by_pairs (g.S.Store.contents l.store) (take l.place l.pairs))
