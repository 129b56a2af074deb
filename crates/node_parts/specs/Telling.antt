-- What a node tells others.
use Rattle.std.specs.Prelude.{ℕ, List, Option, Some}
use Rattle.bus.specs.declared.bodies.Replaced.{Replaced}
use Rattle.bus.specs.declared.bodies.SlotsBody.TheVariants.{Claim}
use Rattle.bus.specs.declared.message.Body.{Body}
use Rattle.bus.specs.declared.message.Body.TheVariants.{Slots, Report}
use Rattle.connections.specs.declared.conn.Conn.{Conn}
use Rattle.election.specs.Failing.{suspected}
use Rattle.node_step.specs.Failing.{members_of}
use Rattle.node_step.specs.Handovers.{asked_again, failover, handed_again}
use Rattle.node_step.specs.Orders.{claim_of, others, to_all}
use Rattle.node_step.specs.Outcome.{Outcome, silent}
use Rattle.node_step.specs.Replicas.{sync_to}
use Rattle.node_step.specs.Requests.{using_up}
use Rattle.node_step.specs.State.{NodeState, own_master}
use Rattle.node_step.specs.Voting.{requests_in}
use Rattle.slot_table.specs.Runs.{runs_of}
use Rattle.slot_table.specs.Table.{claim_at}
use Rattle.slot_table.specs.declared.entry.SlotEntry.{SlotEntry}

-- the node stays as it is, and tells this
abbrev pub telling : NodeState → List (ℕ × Body) → Outcome
telling node bodies = record (silent node) { sent = bodies }

-- ---- all others

-- which slots it has
abbrev pub own_claim : NodeState → Body
own_claim node = Slots (Claim (claim_of node) node.replaced)

abbrev pub claims_of : NodeState → List (ℕ × Body)
claims_of node = to_all (others node) (own_claim node)

-- whom it suspects
abbrev pub reports_of : NodeState → List (ℕ × Body)
reports_of node = to_all (others node) (Report (suspected node.health (members_of node)))

-- which slots it has by that table, and whose place it took
abbrev pub claims_by : NodeState → List (Option SlotEntry) → Replaced → List (ℕ × Body)
claims_by node table replaced = to_all (others node) (Slots (Claim (runs_of (claim_at table node.number)) (Some replaced)))

-- that a replica wants their votes for the election that begins, if one does
abbrev pub vote_requests : NodeState → Option ℕ → List (ℕ × Body)
vote_requests node epoch = requests_in node epoch (own_master node)

-- ---- a replica tells its master

-- how much of its stream it received
abbrev pub own_sync : NodeState → List (ℕ × Body)
own_sync node = sync_to node.stream (own_master node)

-- once more, that it is to hand over
abbrev pub pause_again : NodeState → List (ℕ × Body)
pause_again node = asked_again node.handover.asked node.stream.held.id (own_master node)

-- the same for the first time, as a client asked for it
abbrev pub failover_on : NodeState → Conn → Outcome
failover_on node conn = failover (using_up node conn) (own_master node)

-- ---- a master tells its replica

-- once more, what it hands over
abbrev pub paused_again : NodeState → List (ℕ × Body)
paused_again node = handed_again node node.paused (claim_of node)
