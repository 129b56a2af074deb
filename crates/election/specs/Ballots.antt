-- That a node votes once an epoch (Redis Cluster specification, "Masters reply to replica vote request").
use Rattle.std.specs.Prelude.{ℕ, ◌<◌, Bool, List, [], ◌∷◌, if◌then◌else◌}
use Rattle.std.specs.List.{AllPairs}
use Rattle.election.specs.Health.{Health, Voter}
use Rattle.election.specs.Members.{Members}
use Rattle.election.specs.Voting.{may_grant}
use Rattle.election.specs.declared.voter.VoteRequest.{VoteRequest}

-- a request for a vote, and what the node knows as it comes
pub record Asked : Type 0 where
  pub members : Members
  pub health : Health
  pub current : ℕ
  pub request : VoteRequest

-- the voter votes for it
abbrev pub grants : Voter → Asked → Bool
grants voter asked = may_grant voter asked.members asked.health asked.current asked.request

-- the epochs in which the voter votes, one request after the other
abbrev pub epochs_voted : Voter → List Asked → List ℕ
epochs_voted voter [] = []
epochs_voted voter (asked ∷ later) =
    if grants voter asked then asked.request.epoch ∷ epochs_voted (record { last_vote = asked.request.epoch }) later else epochs_voted voter later

-- whatever comes, and however often, each of them is above the ones before
abbrev pub VotesOnceAnEpoch : Type 0
VotesOnceAnEpoch = (voter : Voter) (requests : List Asked) → AllPairs (λ epoch next. epoch < next) (epochs_voted voter requests)
