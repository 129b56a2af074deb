use Rattle.std.proofs.Common.{◌≡◌, ◌++◌, length, vec_capacity}
use Rattle.key_map.proofs.few.Few.move_into.Given as goal

-- all pairs are in one of the two, in order, and the list keeps its room
abbrev pub invariant-loop-key : goal.invariant-loop-key
invariant-loop-key g l =
    (l.self.pairs.items ++ l.tree.entries ≡ l.fn.self.pairs.items)
    × (vec_capacity l.self.pairs ≡ vec_capacity l.fn.self.pairs)

abbrev pub decreases-loop-key : goal.decreases-loop-key
decreases-loop-key g l = length l.self.pairs.items
