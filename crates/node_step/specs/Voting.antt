-- Votes, and the election of a replica (Redis Cluster specification, "Replica election and promotion", "Masters reply to replica vote
-- request").
use Rattle.std.specs.Prelude.{ℕ, ◌*◌, Bool, true, false, List, [], ◌∷◌, filter, length, is_some, Option, Some, None, if◌then◌else◌}
use Rattle.std.specs.List.{range_with_len}
use Rattle.bus.specs.declared.message.Body.{Body}
use Rattle.bus.specs.declared.bodies.ElectionBody.TheVariants.{Grant, Candidacy}
use Rattle.bus.specs.declared.message.Body.TheVariants.{Election}
use Rattle.bus.specs.declared.bodies.Candidacy.{Candidacy as Asked}
use Rattle.election.specs.Electing.{begun, begun_planned, counted, elected, is_due, is_over, next_epoch}
use Rattle.election.specs.Health.{Candidate}
use Rattle.election.specs.Members.{is_voter}
use Rattle.election.specs.Voting.{after_request, may_grant}
use Rattle.election.specs.declared.running.Elected.{Elected}
use Rattle.election.specs.declared.voter.VoteRequest.{VoteRequest}
use Rattle.node_step.specs.Failing.{members_of}
use Rattle.node_step.specs.Handovers.{may_take_over}
use Rattle.node_step.specs.Orders.{to_all}
use Rattle.node_step.specs.Outcome.{Outcome, silent}
use Rattle.node_step.specs.Promotion.{handed_promotion, promotion}
use Rattle.node_step.specs.State.{Handover, NodeState, own_master}

-- ---- a replica asks for a vote

abbrev pub request_of : ℕ → Asked → VoteRequest
request_of from request = record { candidate = from; epoch = request.epoch; master = request.master; planned = request.planned }

abbrev pub grant_to : VoteRequest → Bool → List (ℕ × Body)
grant_to request granted = if granted then (request.candidate, Election (Grant request.epoch)) ∷ [] else []

abbrev pub voting : NodeState → VoteRequest → Bool → Outcome
voting node request granted =
    record (silent (record node { voter = after_request node.voter request granted })) { sent = grant_to request granted }

abbrev pub asked_for_vote : NodeState → VoteRequest → Outcome
asked_for_vote node request = voting node request (may_grant node.voter (members_of node) node.health node.current_epoch request)

-- ---- a node votes for this one

abbrev pub if_elected : NodeState → Option Elected → Outcome
if_elected node None = silent node
if_elected node (Some elected) =
    if node.candidate.planned then handed_promotion node elected.epoch (own_master node) node.handover.note else promotion node elected.epoch (own_master node)

abbrev pub voted_for : NodeState → ℕ → ℕ → Outcome
voted_for node from epoch =
    if_elected (record node { candidate = counted node.candidate (members_of node) from epoch }) (elected node.candidate (members_of node) from epoch)

-- ---- an election begins

-- where the master hands over, as soon as the node may take its place, and again after a while; no other election begins then
abbrev pub is_now_due : NodeState → Bool
is_now_due node = if may_take_over node then is_over node.handover.begun (2 * node.config.node_timeout) else is_due node.candidate (members_of node)

-- its epoch, if it is due and an epoch is left
abbrev pub due_epoch : NodeState → Option ℕ
due_epoch node = if is_now_due node then next_epoch node.current_epoch else None

-- one is left, if it is due
abbrev pub has_due_epoch : NodeState → Bool
has_due_epoch node = if is_now_due node then is_some (next_epoch node.current_epoch) else true

abbrev pub begun_so : Bool → Candidate → ℕ → Candidate
begun_so true candidate epoch = begun_planned candidate (Some epoch)
begun_so false candidate epoch = begun candidate (Some epoch)

abbrev pub noted_begun : Bool → Handover → Handover
noted_begun true handover = record handover { begun = Some 0 }
noted_begun false handover = handover

abbrev pub in_election : NodeState → Option ℕ → NodeState
in_election node None = node
in_election node (Some epoch) = record node {
  current_epoch = epoch;
  candidate = begun_so (may_take_over node) node.candidate epoch;
  handover = noted_begun (may_take_over node) node.handover;
}

-- the voters by rising number, the node itself among them if it is one
abbrev pub voters_of : NodeState → List ℕ
voters_of node = filter (is_voter (members_of node)) (range_with_len 0 (length node.config.nodes))

-- all of them are asked
abbrev pub requests_in : NodeState → Option ℕ → Option ℕ → List (ℕ × Body)
requests_in node None master = []
requests_in node (Some epoch) None = []
requests_in node (Some epoch) (Some master) = to_all (voters_of node) (Election (Candidacy (record { epoch = epoch; master = master; planned = may_take_over node })))
