use Rattle.std.proofs.Common.{◌≡◌, ◌++◌}
use Rattle.std.specs.Vec.Iter.{into_iter_items}
use Rattle.link_ends.proofs.port_ends.plain_all.Given as goal

-- the nodes so far, and those that are left
abbrev pub invariant-loop-node : goal.invariant-loop-node
invariant-loop-node g l = l.all.items ++ into_iter_items l.node-iterator ≡ l.fn.ends.items
