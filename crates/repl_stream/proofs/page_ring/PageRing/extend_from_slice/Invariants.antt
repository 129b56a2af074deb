use Rattle.std.proofs.Common.{◌≡◌, ◌≤◌, ◌++◌, length}
use Rattle.circular_buffer.specs.Buffer.{keep_last}
use Rattle.repl_stream.proofs.page_ring.PageRing.extend_from_slice.Given as goal

-- the rest, behind what is there, makes what will be there
abbrev pub invariant-loop-rest : goal.invariant-loop-rest
invariant-loop-rest l =
    (keep_last l.self.capacity (l.self.items ++ l.rest) ≡ keep_last l.fn.self.capacity (l.fn.self.items ++ l.fn.bytes))
    × (l.self.capacity ≡ l.fn.self.capacity) × (length l.self.items ≤ l.self.capacity)

abbrev pub decreases-loop-rest : goal.decreases-loop-rest
decreases-loop-rest l = length l.rest
