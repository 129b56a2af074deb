-- A replica takes the place of its master (Redis Cluster specification, "Replica election and promotion", "Hash slots configuration
-- propagation"; Redis documentation, "Replication ID explained").
use Rattle.std.specs.Prelude.{ℕ, Bool, true, false, List, map, Option, Some, None, if◌then◌else◌}
use Rattle.slot_table.specs.Claims.{greater, in_epoch, merged}
use Rattle.slot_table.specs.Table.{owner_in}
use Rattle.slot_table.specs.declared.entry.SlotEntry.{SlotEntry}
use Rattle.slot_table.specs.declared.runs.Run.{Run}
use Rattle.bus.specs.Stream.{promoted as going_on}
use Rattle.bus.specs.declared.bodies.SlotsBody.TheVariants.{Claim}
use Rattle.bus.specs.declared.message.Body.TheVariants.{Slots}
use Rattle.bus.specs.declared.bodies.Handing.{Handing}
use Rattle.bus.specs.declared.stream_id.StreamId.{StreamId}
use Rattle.election.specs.Health.{no_candidate}
use Rattle.node_step.specs.Handovers.{is_at_end}
use Rattle.node_step.specs.Orders.{claim_of, others, to_all}
use Rattle.node_step.specs.Outcome.{Outcome, silent}
use Rattle.node_step.specs.Roles.{is_just, succeeded}
use Rattle.node_step.specs.State.{NodeState, no_handover}

-- ---- its slots

-- a slot of the master is claimed; the other slots stay
abbrev pub entry_after : ℕ → SlotEntry → Option SlotEntry → Option SlotEntry
entry_after master claim entry = if is_just (owner_in entry) master then greater entry (Some claim) else entry

-- all slots that the node knows for its master's
abbrev pub table_of_master : NodeState → ℕ → ℕ → List (Option SlotEntry)
table_of_master node master epoch = map (entry_after master (record { epoch = epoch; owner = node.number })) node.table

-- exactly the slots that the master named as it handed them over
-- (else: the node's own table names the master for slot 5 no more, or not yet; it takes the master's place without that slot, or claims one
-- that the master gave away)
abbrev pub table_handed : NodeState → List (Run ℕ) → ℕ → List (Option SlotEntry)
table_handed node runs epoch = merged node.table (in_epoch epoch runs) node.number

-- ---- the node

-- the stream that the node begins
abbrev pub own_stream : NodeState → ℕ → StreamId
own_stream node epoch = record { node = node.number; epoch = epoch }

-- the node has these slots, in the epoch of its election, and is a master like the former one; its stream goes on from the end of the
-- last whole write, under an id of its own
abbrev pub in_place_of : NodeState → ℕ → ℕ → List (Option SlotEntry) → NodeState
in_place_of node master epoch table = record node {
  table = table;
  masters = succeeded node.masters master node.number;
  candidate = no_candidate;
  handover = no_handover;
  stream = going_on (own_stream node epoch) node.stream;
  replaced = Some (record { master = master; stream = own_stream node epoch; offset = node.stream.offset });
}

-- all others get its claim
abbrev pub promotion_to : NodeState → ℕ → ℕ → Bool → List (Option SlotEntry) → Outcome
promotion_to node master epoch planned table = let after = in_place_of node master epoch table in record (silent after) {
  sent = to_all (others node) (Slots (Claim (claim_of after) after.replaced));
  promoted = Some (record { stream = node.stream.held.id; offset = node.stream.offset; epoch = epoch; planned = planned });
}

-- a node without a master takes nobody's place
abbrev pub promotion : NodeState → ℕ → Option ℕ → Outcome
promotion node epoch None = silent node
promotion node epoch (Some master) = promotion_to node master epoch false (table_of_master node master epoch)

-- by a handover: without what the master named, or behind it, it stays a replica
abbrev pub handed_promotion : NodeState → ℕ → Option ℕ → Option Handing → Outcome
handed_promotion node epoch None handing = silent node
handed_promotion node epoch (Some master) None = silent node
handed_promotion node epoch (Some master) (Some handing) =
    if is_at_end node.stream (Some handing) then promotion_to node master epoch true (table_handed node handing.slots epoch) else silent node
