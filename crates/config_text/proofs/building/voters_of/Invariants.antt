use Rattle.std.proofs.Common.{◌≡◌, map, take}
use Rattle.config_text.specs.Faults.{number_of}
use Rattle.config_text.proofs.building.voters_of.Given as goal

abbrev pub invariant-loop-id : goal.invariant-loop-id
invariant-loop-id l = l.voters.items ≡ map (number_of l.nodes) (take l.id-index l.ids)
