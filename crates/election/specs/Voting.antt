-- Votes (Redis Cluster specification, "Masters reply to replica vote request"; the voters are ours, and a voter has to hold the master
-- failed itself, if that doesn't hand over).
use Rattle.std.specs.Prelude.{ℕ, ◌&&◌, ◌||◌, nat_le, nat_lt, Bool, if◌then◌else◌}
use Rattle.election.specs.Failing.{has_failed}
use Rattle.election.specs.Health.{Health, Voter}
use Rattle.election.specs.Members.{Members, follows, is_voter}
use Rattle.election.specs.declared.voter.VoteRequest.{VoteRequest}

-- this node votes, not yet in this epoch or a later one, and not in one that is over; the candidate is a replica of a master that
-- this node holds failed, or which hands over
abbrev pub may_grant : Voter → Members → Health → ℕ → VoteRequest → Bool
may_grant voter members health current request =
    is_voter members members.me && nat_lt voter.last_vote request.epoch && nat_le current request.epoch
    && follows members request.candidate request.master && (request.planned || has_failed health members request.master)

-- a vote is remembered
abbrev pub after_request : Voter → VoteRequest → Bool → Voter
after_request voter request granted = if granted then record { last_vote = request.epoch } else voter
