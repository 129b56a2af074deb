use Rattle.std.proofs.Common.{◌≡◌, ◌==◌, take}
use Rattle.std.specs.List.{list_any}
use Rattle.migrate.specs.Losing.{after_loss}
use Rattle.migrate.proofs.losing.on_lost.Given as goal

abbrev pub invariant-loop-slot : goal.invariant-loop-slot
invariant-loop-slot l = l.moves ≡ after_loss l.initial.moves (λ slot. list_any (λ other. other == slot) (take l.slot-index l.lost))
