use Rattle.std.proofs.Common.{◌≡◌, ◌++◌, drop}
use Rattle.connections.specs.Connections.{waiting_from}
use Rattle.connections.specs.Waiting.{test_of}
use Rattle.connections.proofs.walks.waiting_in.Given as goal

-- those that are listed, and those from the key on, are all that wait so
abbrev pub invariant-loop-key : goal.invariant-loop-key
invariant-loop-key l =
    l.conns.items ++ waiting_from l.key (test_of l.which) (drop l.key l.places.slots) ≡ waiting_from 0 (test_of l.which) l.places.slots
