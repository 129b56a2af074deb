use Rattle.std.proofs.Common.{◌≡◌, ◌+◌, ◌≤◌}
use Rattle.connections.specs.Connections.{freed}
use Rattle.connections.specs.Counting.{count_of_waits}
use Rattle.connections.specs.Waiting.{test_of}
use Rattle.connections.proofs.Steps.{changed_below}
use Rattle.connections.proofs.walks.free_in.Given as goal

-- the places below the key are done, and what was freed there is counted
abbrev pub invariant-loop-key : goal.invariant-loop-key
invariant-loop-key l =
    (l.places.slots ≡ changed_below (freed (test_of l.which)) l.key l.fn.places.slots)
    × (l.count + count_of_waits l.places.slots ≡ count_of_waits l.fn.places.slots)
    × (l.count ≤ l.key)
