use Rattle.std.proofs.Common.{◌≡◌, All, length, vec_len}
use Rattle.link_ends.specs.Ends.{IsUnused}
use Rattle.link_ends.specs.Joining.{joined}
use Rattle.link_ends.proofs.node_ends.join_each.Given as goal

-- the nodes so far are joined
abbrev pub invariant-loop-other : goal.invariant-loop-other
invariant-loop-other g l =
    record {
      joined : l.others ≡ joined l.fn.others l.row.items;
      count : vec_len l.row ≡ l.other;
      all : length l.others ≡ length l.fn.others;
      unused : All IsUnused l.row.items;
    }
