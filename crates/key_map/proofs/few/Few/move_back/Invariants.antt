use Rattle.std.proofs.Common.{◌≡◌, ◌≤◌, ◌+◌, ◌++◌, length, vec_capacity}
use Rattle.key_map.proofs.few.Few.move_back.Given as goal

-- all pairs are in one of the two, in order, and those of the tree have room in the list
abbrev pub invariant-loop-pair : goal.invariant-loop-pair
invariant-loop-pair g l =
    (l.self.pairs.items ++ l.tree.entries ≡ l.fn.self.pairs.items ++ l.fn.tree.entries)
    × (length l.self.pairs.items + length l.tree.entries ≤ vec_capacity l.self.pairs)

abbrev pub decreases-loop-pair : goal.decreases-loop-pair
decreases-loop-pair g l = length l.tree.entries
