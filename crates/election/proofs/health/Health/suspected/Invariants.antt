use Rattle.std.proofs.Common.{◌≡◌, ℕ, ◌<◌}
use Rattle.std.specs.Prelude.{◌&&◌, false, length, nat_lt, slice_index_or}
use Rattle.election.specs.Failing.{suspects}
use Rattle.election.proofs.health.Health.suspected.Given as goal

-- each place so far has what is to stand there
abbrev pub invariant-loop-number : goal.invariant-loop-number
invariant-loop-number l =
    (length l.row ≡ 16)
    × ((k : ℕ) → k < l.number → slice_index_or l.row k false ≡ (nat_lt k (length l.members.masters) && suspects l.self l.members k))
