use Rattle.std.proofs.Common.{◌≡◌, ◌+◌, ◌≤◌, ◌++◌, List, length}
use Rattle.std.specs.VecDeque.{deque_capacity, deque_len}
use Rattle.link_ends.specs.Shims.{due, ticked}
use Rattle.link_ends.specs.declared.held.Held.{Held}
use Rattle.link_ends.proofs.held.release.Given as goal

-- so many are left, and the others have come or stay
abbrev pub invariant-loop : goal.invariant-loop
invariant-loop g l =
    record {
      left : List (Held g.row.T.Denot);
      kept : List (Held g.row.T.Denot);
      are : l.held.items ≡ left ++ kept;
      count : length left + l.counter ≡ l.end;
      held : ticked l.fn.held.items ≡ kept ++ ticked left;
      coming : l.coming.items ++ due left ≡ l.fn.coming.items ++ due l.fn.held.items;
      room : deque_len l.coming + length left ≤ deque_capacity l.coming;
      long : deque_len l.held ≡ length (left ++ kept);
    }
