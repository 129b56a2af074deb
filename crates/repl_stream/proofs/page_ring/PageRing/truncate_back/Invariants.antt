use Rattle.std.proofs.Common.{◌≡◌, length, take}
use Rattle.repl_stream.proofs.page_ring.PageRing.truncate_back.Given as goal

-- the first bytes are still there
abbrev pub invariant-loop-self : goal.invariant-loop-self
invariant-loop-self l = (take l.len l.self.items ≡ take l.len l.fn.self.items) × (l.self.capacity ≡ l.fn.self.capacity)

abbrev pub decreases-loop-self : goal.decreases-loop-self
decreases-loop-self l = length l.self.items
