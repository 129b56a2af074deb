-- Worked values: the only voter is a replica, and takes the place of its master, of which it hears nothing for two ticks.
use Rattle.std.proofs.Common.{◌≡◌, true, false, [], ◌∷◌, Some, None, refl}
use Rattle.std.specs.Prelude.{codes, replicate}
use Rattle.std.specs.FinMap as fin_map
use Rattle.std.specs.List.{range_with_len}
use Rattle.bus.specs.declared.message.Body.{Body}
use Rattle.bus.specs.declared.bodies.ElectionBody.TheVariants.{Grant, Pause, Paused, Candidacy}
use Rattle.bus.specs.declared.bodies.SlotsBody.TheVariants.{Claim}
use Rattle.bus.specs.declared.bodies.StreamBody.TheVariants.{Sync}
use Rattle.bus.specs.declared.message.Body.TheVariants.{Slots, Stream, Election, Report}
use Rattle.bus.specs.declared.bodies.Handing.{Handing}
use Rattle.bus.specs.declared.stream_id.StreamId.{StreamId}
use Rattle.cluster_config.specs.Config.{ClusterConfig}
use Rattle.cluster_config.specs.declared.config.Role.TheVariants.{Master, Replica}
use Rattle.election.specs.Health.{first_health, first_voter, no_candidate}
use Rattle.slot_state.specs.Moves.{no_moves}
use Rattle.node_step.specs.Handovers.{failover, handing_of, handing_over}
use Rattle.node_step.specs.Messages.{delivered}
use Rattle.node_step.specs.Orders.{claim_of}
use Rattle.node_step.specs.Outcome.{Outcome, silent}
use Rattle.node_step.specs.Replicas.{follower_of}
use Rattle.node_step.specs.State.{NodeState, first_masters, no_handover, own_master}
use Rattle.node_step.specs.Failing.{a_tick_older}
use Rattle.node_step.specs.Ticks.{older, with_signs}

abbrev two : ClusterConfig
two = record {
  tick_ms = 100;
  node_timeout = 1;
  backlog = 100;
  nodes = record { id = codes "0"; host = codes "h"; port = 7000; role = Master [] } ∷ record { id = codes "1"; host = codes "h"; port = 7001; role = Replica 0 } ∷ [];
  voters = 1 ∷ [];
}

abbrev masters_stream : StreamId
masters_stream = record { node = 0; epoch = 0 }

-- the replica has the 27 bytes of `SET a 1`, and owns slot 0 nowhere: it is its master's
abbrev replica : NodeState
replica = record {
  config = two;
  number = 1;
  keyspace = fin_map.empty;
  table = Some (record { epoch = 1; owner = 0 }) ∷ None ∷ [];
  moves = no_moves;
  current_epoch = 1;
  masters = first_masters two.nodes;
  health = first_health;
  voter = first_voter;
  candidate = no_candidate;
  paused = None;
  handover = no_handover;
  stream = record { held = record { id = masters_stream; first = 0; bytes = range_with_len 0 27 }; offset = 27; partial = []; former = None };
  replaced = None;
  connections = record { slots = []; opens = [] };
}

-- a tick where no slot moves
abbrev ticked : NodeState → Outcome
ticked node = with_signs (silent (older node)) (a_tick_older (older node))

abbrev to_itself : NodeState → Body → Outcome
to_itself node body = delivered node (record { from = 1; to = 1; ticket = 5; epoch = 2; body = body }) (record { follower = follower_of node; dropped = 0 })

abbrev first_tick : Outcome
first_tick = ticked replica

abbrev second_tick : Outcome
second_tick = ticked first_tick.state

abbrev asked : Outcome
asked = to_itself second_tick.state (Election (Candidacy (record { epoch = 2; master = 0; planned = false })))

abbrev elected : Outcome
elected = to_itself asked.state (Election (Grant 2))

-- of all nodes that there may be the first alone is suspected
abbrev suspects_master : Body
suspects_master = Report (true ∷ replicate 15 false)

first_signs : first_tick.sent ≡ (0, Slots (Claim (claim_of replica) None)) ∷ (0, suspects_master) ∷ (0, Stream (Sync (record { stream = masters_stream; received = 27 }))) ∷ []
first_signs = refl

election_begins : second_tick.sent
    ≡ (0, Slots (Claim (claim_of replica) None)) ∷ (0, suspects_master) ∷ (0, Stream (Sync (record { stream = masters_stream; received = 27 }))) ∷ (1, Election (Candidacy (record { epoch = 2; master = 0; planned = false }))) ∷ []
election_begins = refl

in_next_epoch : second_tick.state.current_epoch ≡ 2
in_next_epoch = refl

votes : asked.sent ≡ (1, Election (Grant 2)) ∷ []
votes = refl

-- a second request of the epoch gets no vote
votes_once : (to_itself asked.state (Election (Candidacy (record { epoch = 2; master = 0; planned = false })))).sent ≡ []
votes_once = refl

takes_over : elected.sent ≡ (0, Slots (Claim (claim_of elected.state) (Some (record { master = 0; stream = record { node = 1; epoch = 2 }; offset = 27 })))) ∷ []
takes_over = refl

promoted_so : elected.promoted ≡ Some (record { stream = masters_stream; offset = 27; epoch = 2; planned = false })
promoted_so = refl

no_master_now : elected.state.masters ≡ None ∷ None ∷ []
no_master_now = refl

has_its_slot : elected.state.table ≡ Some (record { epoch = 2; owner = 1 }) ∷ None ∷ []
has_its_slot = refl

-- a message of the master, heard of again after the first tick, ends that it is held failed
abbrev heard_again : Outcome
heard_again =
    delivered first_tick.state (record { from = 0; to = 1; ticket = 5; epoch = 1; body = Report (replicate 16 false) }) (record { follower = follower_of first_tick.state; dropped = 0 })

held_failed : first_tick.state.candidate ≡ record no_candidate { failed = Some 0 }
held_failed = refl

held_failed_no_more : heard_again.state.candidate ≡ no_candidate
held_failed_no_more = refl

-- ---- a handover: the master, which has slot 0 and no vote, is asked for it

abbrev master : NodeState
master = record replica { number = 0 }

abbrev to_master : NodeState → Body → Outcome
to_master node body = delivered node (record { from = 1; to = 0; ticket = 5; epoch = 1; body = body }) (record { follower = follower_of node; dropped = 0 })

abbrev from_master : NodeState → Body → Outcome
from_master node body = delivered node (record { from = 0; to = 1; ticket = 6; epoch = 1; body = body }) (record { follower = follower_of node; dropped = 0 })

abbrev wishes : Outcome
wishes = failover replica (own_master replica)

asks_its_master : wishes.sent ≡ (0, Election (Pause masters_stream)) ∷ []
asks_its_master = refl

no_replica : (failover master (own_master master)).sent ≡ []
no_replica = refl

-- that no slot moves there isn't computed
abbrev hands : Outcome
hands = handing_over master 1

says_what : hands.sent ≡ (1, Election (Paused (handing_of master))) ∷ []
says_what = refl

hands_over : hands.state.paused ≡ Some 1
hands_over = refl

-- another stream is none of its own
not_that_stream : (to_master master (Election (Pause (record { node = 0; epoch = 3 })))).state.paused ≡ None
not_that_stream = refl

-- slot 0 alone
abbrev handed : Handing
handed = record { stream = masters_stream; offset = 27; slots = record { slots = record { first = 0; last = 0 }; value = 1 } ∷ [] }

abbrev noted : Outcome
noted = from_master wishes.state (Election (Paused handed))

has_noted : noted.state.handover ≡ record { asked = false; note = Some handed; begun = None }
has_noted = refl

-- at once, at the first tick
abbrev planned_tick : Outcome
planned_tick = ticked noted.state

planned_election : planned_tick.sent ≡ (0, Slots (Claim (claim_of replica) None)) ∷ (0, suspects_master) ∷ (0, Stream (Sync (record { stream = masters_stream; received = 27 }))) ∷ (1, Election (Candidacy (record { epoch = 2; master = 0; planned = true }))) ∷ []
planned_election = refl

abbrev planned_vote : Outcome
planned_vote = to_itself planned_tick.state (Election (Candidacy (record { epoch = 2; master = 0; planned = true })))

votes_for_it : planned_vote.sent ≡ (1, Election (Grant 2)) ∷ []
votes_for_it = refl

abbrev succeeds : Outcome
succeeds = to_itself planned_vote.state (Election (Grant 2))

succeeds_so : succeeds.promoted ≡ Some (record { stream = masters_stream; offset = 27; epoch = 2; planned = true })
succeeds_so = refl

master_now : succeeds.state.masters ≡ None ∷ None ∷ []
master_now = refl

has_what_was_handed : succeeds.state.replaced ≡ Some (record { master = 0; stream = record { node = 1; epoch = 2 }; offset = 27 })
has_what_was_handed = refl

-- where a byte is lacking, it stays a replica
abbrev lacking : Outcome
lacking = to_itself (record planned_vote.state { stream = record replica.stream { offset = 26 } }) (Election (Grant 2))

lacks : lacking.promoted ≡ None
lacks = refl
