use Rattle.std.proofs.Common.{◌≡◌, ◌&&◌, Bool, drop, length}
use Rattle.std.specs.Fn.{FnReturnsAtPair}
use Rattle.std.specs.List.{list_all}
use Rattle.cluster_config.specs.Config.{all_pairs}
use Rattle.config_text.proofs.checks.all_pairs.Given as goal

abbrev pub invariant-loop-other : goal.invariant-loop-other
invariant-loop-other g l =
    (passes : g.row.T.Denot → g.row.T.Denot → Bool) → ((x y : g.row.T.Denot) (b : Bool) → FnReturnsAtPair g.F.Fn l.test x y b → b ≡ passes x y)
    → all_pairs passes l.items ≡ (list_all (passes l.item) (drop l.other-index l.later) && all_pairs passes l.later)

abbrev pub invariant-loop-item : goal.invariant-loop-item
invariant-loop-item g l =
    (passes : g.row.T.Denot → g.row.T.Denot → Bool) → ((x y : g.row.T.Denot) (b : Bool) → FnReturnsAtPair g.F.Fn l.test x y b → b ≡ passes x y)
    → all_pairs passes l.items ≡ all_pairs passes l.rest

abbrev pub decreases-loop-item : goal.decreases-loop-item
decreases-loop-item g l = length l.rest
