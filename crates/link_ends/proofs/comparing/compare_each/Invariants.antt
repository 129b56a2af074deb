use Rattle.std.proofs.Common.{◌≡◌, ◌≤◌, length, take}
use Rattle.link_ends.specs.Comparing.{EachArrived}
use Rattle.link_ends.proofs.ChangingLemmas.{changed_from}
use Rattle.link_ends.proofs.comparing.compare_each.Given as goal

-- the ends left are the first ones of the row, and each node behind has one end fewer
abbrev pub invariant-loop-here : goal.invariant-loop-here
invariant-loop-here g l =
    record {
      within : length l.row.items ≤ length l.fn.others;
      row : l.row.items ≡ take (length l.row.items) l.fn.row.items;
      others : l.others ≡ changed_from (take (length l.fn.others)) (length l.row.items) l.fn.others;
      arrived : EachArrived (length l.row.items) l.fn.others l.fn.row.items;
    }

abbrev pub decreases-loop-here : goal.decreases-loop-here
decreases-loop-here g l = goal.left-loop-here g l
