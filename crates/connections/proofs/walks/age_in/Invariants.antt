use Rattle.std.proofs.Common.{◌≡◌}
use Rattle.connections.specs.Connections.{aged}
use Rattle.connections.proofs.Steps.{changed_below}
use Rattle.connections.proofs.walks.age_in.Given as goal

-- the places below the key are done
abbrev pub invariant-loop-key : goal.invariant-loop-key
invariant-loop-key l = l.places.slots ≡ changed_below aged l.key l.fn.places.slots
