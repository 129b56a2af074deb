use Rattle.std.proofs.Common.{◌≡◌, ◌+◌, ◌≤◌, ◌++◌, replicate}
use Rattle.std.specs.VecDeque.{deque_capacity, deque_len}
use Rattle.link_ends.proofs.shim.repeat.Given as goal

-- so many copies have come
abbrev pub invariant-loop : goal.invariant-loop
invariant-loop g l =
    record {
      count : l.made ≤ l.counter;
      coming : l.coming.items ≡ l.fn.coming.items ++ replicate l.made l.message;
      room : deque_len l.coming + l.room ≤ deque_capacity l.coming;
    }
