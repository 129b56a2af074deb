use Rattle.std.proofs.Common.{◌≡◌, ◌++◌}
use Rattle.simulator.specs.Lines.{words}
use Rattle.simulator.specs.Splitting.{words_behind}
use Rattle.simulator.proofs.Splitting.{left_of}
use Rattle.simulator.proofs.script.words_in.Given as goal

-- the words so far, and those of the rest
abbrev pub invariant-loop-rest : goal.invariant-loop-rest
invariant-loop-rest l = l.all.items ++ words_behind l.rest ≡ words l.request

abbrev pub decreases-loop-rest : goal.decreases-loop-rest
decreases-loop-rest l = left_of l.rest
