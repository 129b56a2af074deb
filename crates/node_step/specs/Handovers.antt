-- A master hands its slots over to a replica (Redis command reference, "CLUSTER FAILOVER", of which this is a profile: the master serves
-- nothing from then on; the messages are ours).
use Rattle.std.specs.Prelude.{ℕ, ◌==◌, ◌&&◌, not, Bool, true, false, List, [], ◌∷◌, Option, Some, None, is_none, slice_index_or, if◌then◌else◌}
use Rattle.std.specs.FinMap as fin_map
use Rattle.command_table.specs.declared.error_line.ErrorLine.TheVariants as line
use Rattle.slot_table.specs.declared.runs.Run.{Run}
use Rattle.bus.specs.Stream.{StreamView, is_same, is_whole}
use Rattle.bus.specs.declared.message.Body.{Body}
use Rattle.bus.specs.declared.bodies.ElectionBody.TheVariants.{Pause, Paused}
use Rattle.bus.specs.declared.message.Body.TheVariants.{Election}
use Rattle.bus.specs.declared.bodies.Handing.{Handing}
use Rattle.bus.specs.declared.stream_id.StreamId.{StreamId}
use Rattle.node_step.specs.Orders.{claim_of, done}
use Rattle.node_step.specs.Outcome.{Outcome, error, replied, replied_sending, silent}
use Rattle.node_step.specs.Roles.{is_just}
use Rattle.node_step.specs.State.{Handover, NodeState, is_replica}
use Rattle.node_step.specs.declared.response.Why.TheVariants.{TakesOver}

-- ---- a replica asks its master

-- until it has noted what the master hands over
abbrev pub wishing : NodeState → NodeState
wishing node = record node { handover = record node.handover { asked = is_none node.handover.note } }

abbrev pub failover : NodeState → Option ℕ → Outcome
failover node None = replied node TakesOver (error line.NotReplica)
failover node (Some master) = replied_sending (wishing node) TakesOver done ((master, Election (Pause node.stream.held.id)) ∷ [])

-- and again at each tick
abbrev pub asked_again : Bool → StreamId → Option ℕ → List (ℕ × Body)
asked_again true stream (Some master) = (master, Election (Pause stream)) ∷ []
asked_again true stream None = []
asked_again false stream master = []

-- ---- the master hands over

-- it hands over to nobody, or to that one
abbrev pub is_free_for : Option ℕ → ℕ → Bool
is_free_for None replica = true
is_free_for (Some other) replica = other == replica

-- a master that takes part in no move does, to a node that it holds for its replica and that has its stream
-- (else: while b is on its way from node 0 to node 1, node 0 tells its replica where its stream ends; the acknowledgement deletes b at
-- node 0, and the replica takes its place with b)
abbrev pub may_pause : NodeState → ℕ → StreamId → Bool
may_pause node from stream =
    not (is_replica node) && is_just (slice_index_or node.masters from None) node.number && is_same stream node.stream.held.id
    && fin_map.len node.moves.running == 0 && is_free_for node.paused from

-- where its stream ends, and which slots it has
abbrev pub handing_of : NodeState → Handing
handing_of node = record { stream = node.stream.held.id; offset = node.stream.offset; slots = claim_of node }

-- said as long as it has a slot
abbrev pub handed_again : NodeState → Option ℕ → List (Run ℕ) → List (ℕ × Body)
handed_again node None slots = []
handed_again node (Some replica) [] = []
handed_again node (Some replica) (run ∷ runs) = (replica, Election (Paused (handing_of node))) ∷ []

-- and once in any case
abbrev pub handed_to : NodeState → ℕ → Option ℕ → List (ℕ × Body)
handed_to node replica None = (replica, Election (Paused (handing_of node))) ∷ []
handed_to node replica (Some other) = handed_again node (Some replica) (claim_of node)

abbrev pub handing_over : NodeState → ℕ → Outcome
handing_over node replica = record (silent (record node { paused = Some replica })) { sent = handed_to node replica node.paused }

abbrev pub asked_to_pause : NodeState → ℕ → StreamId → Outcome
asked_to_pause node from stream = if may_pause node from stream then handing_over node from else silent node

-- ---- the replica notes it

-- said again, it is the same handover
abbrev pub begun_for : Option Handing → Handing → Option ℕ → Option ℕ
begun_for None handing begun = None
begun_for (Some noted) handing begun = if is_same noted.stream handing.stream && noted.offset == handing.offset then begun else None

abbrev pub noting : Handover → Handing → Handover
noting handover handing = record { asked = false; note = Some handing; begun = begun_for handover.note handing handover.begun }

-- if it has that stream
abbrev pub told_of_handing : NodeState → Handing → Outcome
told_of_handing node handing =
    silent (if is_replica node && is_same handing.stream node.stream.held.id then record node { handover = noting node.handover handing } else node)

-- ---- the replica may take over

-- it has all of the stream, and no begun write
-- (else: node 1 takes the place of node 0 without the last SET of node 0, which a client was told is done)
abbrev pub is_at_end : StreamView → Option Handing → Bool
is_at_end stream None = false
is_at_end stream (Some handing) = is_same handing.stream stream.held.id && handing.offset == stream.offset && is_whole stream

abbrev pub may_take_over : NodeState → Bool
may_take_over node = is_replica node && is_at_end node.stream node.handover.note
