use Rattle.std.proofs.Common.{◌≡◌, ◌++◌, All}
use Rattle.std.specs.Vec.Iter.{into_iter_items}
use Rattle.link_ends.specs.Ends.{IsUnused}
use Rattle.link_ends.proofs.port_ends.shim_all.Given as goal

-- the nodes so far, and those that are left, whose ends were not used
abbrev pub invariant-loop-node : goal.invariant-loop-node
invariant-loop-node g l =
    record {
      all : l.all.items ++ into_iter_items l.node-iterator ≡ l.fn.ends.items;
      unused : All (λ ends. All IsUnused ends) (into_iter_items l.node-iterator);
    }
