-- When votes elect a replica (Redis Cluster specification, "Replica election and promotion": it wins with the votes of the majority).
use Rattle.std.specs.Prelude.{◌≡◌, ◌<◌, ◌==◌, ◌&&◌, not, ℕ, Bool, List, [], ◌∷◌, All, Some, None, if◌then◌else◌}
use Rattle.std.specs.List.{list_any}
use Rattle.election.specs.Electing.{begun, counted, elected}
use Rattle.election.specs.Health.{Candidate}
use Rattle.election.specs.Members.{Members, most_voters}

-- a node votes for the candidate in an epoch
pub record Vote : Type 0 where
  pub from : ℕ
  pub epoch : ℕ

-- the candidate behind all votes that came, the last first
abbrev pub candidate_after : Members → Candidate → List Vote → Candidate
candidate_after members candidate [] = candidate
candidate_after members candidate (vote ∷ past) = counted (candidate_after members candidate past) members vote.from vote.epoch

-- the node has voted in the epoch
abbrev pub has_voted : ℕ → List Vote → ℕ → Bool
has_voted epoch votes node = list_any (λ vote. vote.from == node && vote.epoch == epoch) votes

-- more than half of the voters have
abbrev pub have_most : Members → ℕ → List Vote → Bool
have_most members epoch votes = most_voters members (has_voted epoch votes)

-- from the start of an election on, a vote elects exactly where only with it more than half of the voters have voted in its epoch,
-- whatever other votes come, and however often
abbrev pub ElectsTheFirstMajority : Type 0
ElectsTheFirstMajority = (members : Members) (candidate : Candidate) (epoch : ℕ) (past : List Vote) (vote : Vote)
    → All (λ voter. voter < 16) members.voters
    → elected (candidate_after members (begun candidate (Some epoch)) past) members vote.from vote.epoch
    ≡ (if not (have_most members epoch past) && have_most members epoch (vote ∷ past) then Some (record { epoch = epoch }) else None)
