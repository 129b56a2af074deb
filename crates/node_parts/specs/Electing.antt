-- What elections are about in a node, apart from the rest.
use Rattle.std.specs.Prelude.{◌≡◌, ℕ, List, Option, None, length, take, ◌<◌, Bool, slice_index_or}
use Rattle.bus.specs.declared.bodies.Replaced.{Replaced}
use Rattle.election.specs.Health.{Candidate, Health, Voter, first_health, first_voter, no_candidate}
use Rattle.election.specs.Electing.{counted}
use Rattle.election.specs.Voting.{may_grant}
use Rattle.election.specs.declared.voter.VoteRequest.{VoteRequest}
use Rattle.node_parts.specs.declared.electing.ElectionState.{ElectionState}
use Rattle.node_step.specs.State.{NodeState}
use Rattle.node_step.specs.Failing.{members_of}

pub record ElectionView : Type 0 where
  pub current_epoch : ℕ
  pub masters : List (Option ℕ)
  pub health : Health
  pub voter : Voter
  pub candidate : Candidate
  pub begun : Option ℕ
  pub replaced : Option Replaced

-- that part of the node
abbrev pub election_of : NodeState → ElectionView
election_of node = record {
  current_epoch = node.current_epoch;
  masters = node.masters;
  health = node.health;
  voter = node.voter;
  candidate = node.candidate;
  begun = node.handover.begun;
  replaced = node.replaced;
}

-- the node with another one
abbrev pub with_election : NodeState → ElectionView → NodeState
with_election node election = record node {
  current_epoch = election.current_epoch;
  masters = election.masters;
  health = election.health;
  voter = election.voter;
  candidate = election.candidate;
  handover = record node.handover { begun = election.begun };
  replaced = election.replaced;
}

-- all else of the node is as it was
abbrev pub KeepsRest : NodeState → NodeState → Type 0
KeepsRest old new = with_election new (election_of old) ≡ old

-- of a row with a place for each node that there may be, those places count that have a node
abbrev pub seen_by : NodeState → ElectionState → ElectionView
seen_by node election = record {
  current_epoch = election.current_epoch;
  masters = take (length node.config.nodes) election.masters;
  health = election.health;
  voter = election.voter;
  candidate = election.candidate;
  begun = election.begun;
  replaced = election.replaced;
}

-- as a node begins
abbrev pub first_election : List (Option ℕ) → ElectionState
first_election masters = record {
  current_epoch = 1;
  masters = masters;
  health = first_health;
  voter = first_voter;
  candidate = no_candidate;
  begun = None;
  replaced = None;
}

-- the node may give that vote
abbrev pub may_vote_for : NodeState → VoteRequest → Bool
may_vote_for node request = may_grant node.voter (members_of node) node.health node.current_epoch request

-- the node with a vote counted for it
abbrev pub with_vote : NodeState → ℕ → ℕ → NodeState
with_vote node from epoch = record node { candidate = counted node.candidate (members_of node) from epoch }

-- two rows have the same at each place below that one
abbrev pub AgreeBelow : ℕ → List (Option ℕ) → List (Option ℕ) → Type 0
AgreeBelow bound xs ys = (place : ℕ) → place < bound → slice_index_or xs place None ≡ slice_index_or ys place None
