use Rattle.std.proofs.Common.{◌≡◌, ◌++◌, take}
use Rattle.std.specs.List.{flat_map}
use Rattle.simulator.specs.Printing.{printed}
use Rattle.simulator.proofs.printing.print_outputs.Given as goal

-- the outputs so far are printed
abbrev pub invariant-loop-output : goal.invariant-loop-output
invariant-loop-output l = l.out.items ≡ l.initial.out.items ++ flat_map printed (take l.output-index l.outputs)
