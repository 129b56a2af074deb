use Rattle.std.proofs.Common.{◌≡◌, ◌<◌, ℕ, None, length}
use Rattle.std.specs.Prelude.{slice_index_or}
use Rattle.node_step.specs.State.{first_masters}
use Rattle.node_parts.proofs.masters.first_row.Given as goal

abbrev pub invariant-loop-place : goal.invariant-loop-place
invariant-loop-place l = (length l.row ≡ 16) × ((place : ℕ) → place < l.place → slice_index_or l.row place None ≡ slice_index_or (first_masters l.nodes) place None)
