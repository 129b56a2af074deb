use Rattle.std.proofs.Common.{length}
use Rattle.link_ends.specs.Ends.{AllArrived, AreWired}
use Rattle.link_ends.proofs.comparing.compare_all.Given as goal

-- it remains to compare the ends that are left
abbrev pub invariant-loop-last : goal.invariant-loop-last
invariant-loop-last g l =
    record {
      wired : AreWired (length l.all.items) l.all.items;
      arrived : AllArrived (length l.all.items) l.all.items → AllArrived (length l.fn.ends.items) l.fn.ends.items;
    }

abbrev pub decreases-loop-last : goal.decreases-loop-last
decreases-loop-last g l = length l.all.items
