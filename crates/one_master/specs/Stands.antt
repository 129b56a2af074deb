-- What holds of votes and elections along a run (Redis Cluster specification, "Replica election and promotion", "Masters reply to
-- replica vote request": a master remembers the last epoch in which it voted).
use Rattle.std.specs.Prelude.{◌≡◌, ◌<◌, ◌≤◌, ℕ, ⊤, Bool, true, false, List, Contains, Option, Some, None, slice_get, slice_index_or}
use Rattle.bus.specs.declared.bodies.ElectionBody.TheVariants.{Grant}
use Rattle.bus.specs.declared.message.Body.TheVariants.{Election as OfElection}
use Rattle.bus.specs.declared.message.Message.{Message}
use Rattle.election.specs.Health.{Election}
use Rattle.node_step.specs.Outcome.{Outcome}
use Rattle.node_step.specs.State.{NodeState, is_replica}
use Rattle.node_step.specs.declared.promotion.Promotion.{Promotion}
use Rattle.world_run.specs.Ballots.{is_elected, was_cast}
use Rattle.world_run.specs.Promotions.{Promoted, promotions}
use Rattle.world_run.specs.Run.{Entry, sent_by}

-- each vote that an election of the node counts was sent to it
abbrev pub AreSent : List Message → ℕ → Option Election → Type 0
AreSent sent n None = ⊤
AreSent sent n (Some election) = (voter : ℕ) → slice_index_or election.granted voter false ≡ true → was_cast sent voter election.epoch n ≡ true

-- a node at its place: it remembers the last epoch in which it voted
pub record NodeStands (voters : List ℕ) (sent : List Message) (n : ℕ) (node : NodeState) : Type 0 where
  pub number : node.number ≡ n
  pub voters_are : node.config.voters ≡ voters
  pub voted : (epoch candidate : ℕ) → was_cast sent n epoch candidate ≡ true → epoch ≤ node.voter.last_vote
  pub counted : AreSent sent n node.candidate.election

-- all nodes; whoever was promoted is a master
pub record Stands (voters : List ℕ) (past : List Entry) (nodes : List NodeState) : Type 0 where
  pub each : (n : ℕ) (node : NodeState) → slice_get nodes n ≡ Some node → NodeStands voters (sent_by past) n node
  pub masters : (promoted : Promoted) → Contains (promotions past) promoted → (node : NodeState) → slice_get nodes promoted.node ≡ Some node → is_replica node ≡ false
  pub votes : (voter epoch candidate other : ℕ) → was_cast (sent_by past) voter epoch candidate ≡ true → was_cast (sent_by past) voter epoch other ≡ true → candidate ≡ other
  pub elected : (promoted : Promoted) → Contains (promotions past) promoted → is_elected voters (sent_by past) promoted.promotion.epoch promoted.node ≡ true

-- ---- a step

-- a vote is in a later epoch than the ones before, is remembered, and is the step's only one in that epoch
pub record IsNewVote (last : ℕ) (outcome : Outcome) (candidate epoch : ℕ) : Type 0 where
  pub later : last < epoch
  pub remembered : epoch ≤ outcome.state.voter.last_vote
  pub alone : (other : ℕ) → Contains outcome.sent (other, OfElection (Grant epoch)) → candidate ≡ other

-- a replica becomes a master, by the votes that it was sent
pub record IsWon (voters : List ℕ) (sent : List Message) (n : ℕ) (replica : Bool) (outcome : Outcome) (promotion : Promotion) : Type 0 where
  pub was : replica ≡ true
  pub is : is_replica outcome.state ≡ false
  pub elected : is_elected voters sent promotion.epoch n ≡ true

-- what a step leaves of a node that voted last in that epoch, and was a replica or not
pub record StepStands (voters : List ℕ) (sent : List Message) (n last : ℕ) (replica : Bool) (outcome : Outcome) : Type 0 where
  pub number : outcome.state.number ≡ n
  pub voters_are : outcome.state.config.voters ≡ voters
  pub rises : last ≤ outcome.state.voter.last_vote
  pub votes : (candidate epoch : ℕ) → Contains outcome.sent (candidate, OfElection (Grant epoch)) → IsNewVote last outcome candidate epoch
  pub counted : AreSent sent n outcome.state.candidate.election
  pub stays : replica ≡ false → is_replica outcome.state ≡ false
  pub promoted : (promotion : Promotion) → outcome.promoted ≡ Some promotion → IsWon voters sent n replica outcome promotion
