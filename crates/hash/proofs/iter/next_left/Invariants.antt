use Rattle.std.proofs.Common.{◌≡◌}
use Rattle.hash.specs.Holed.{left_of}
use Rattle.hash.proofs.iter.next_left.Given as goal

-- no pair that is left was passed
abbrev pub invariant-loop-field : goal.invariant-loop-field
invariant-loop-field l =
    record {
      next : (goal.iterator-loop-field).can_next l.pairs;
      finite : (goal.iterator-loop-field).is_finite l.pairs;
      same : left_of l.pairs l.removed.keys ≡ left_of l.fn.pairs l.removed.keys;
    }
