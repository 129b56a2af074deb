use Rattle.std.proofs.Common.{◌≡◌, ◌++◌, All, map}
use Rattle.std.specs.Vec.Iter.{into_iter_items}
use Rattle.link_ends.specs.Ends.{IsUnused}
use Rattle.link_ends.proofs.port_ends.shim_each.Given as goal

-- the ends so far, and those that are left, which were not used
abbrev pub invariant-loop-end : goal.invariant-loop-end
invariant-loop-end g l =
    record {
      ends : map (λ end. end.inner) l.ends.items ++ into_iter_items l.end-iterator ≡ l.fn.node;
      unused : All IsUnused (into_iter_items l.end-iterator);
    }
