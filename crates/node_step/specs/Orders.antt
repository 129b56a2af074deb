-- CLUSTER SETSLOT (Redis Cluster specification, "Cluster live reconfiguration"; the numbers of moves, the refusals and the
-- conditions of NODE are ours).
use Rattle.std.specs.Prelude.{ℕ, ◌+◌, ◌==◌, not, List, [], filter, map, length, Option, Some, max, slice_set, codes}
use Rattle.std.specs.List.{range_with_len}
use Rattle.resp_values.specs.declared.reply.Reply.{Reply}
use Rattle.resp_values.specs.declared.reply.Reply.TheVariants.{Simple}
use Rattle.command_table.specs.declared.error_line.ErrorLine.TheVariants as line
use Rattle.slot_table.specs.Runs.{runs_of}
use Rattle.slot_table.specs.Table.{claim_at}
use Rattle.slot_table.specs.declared.runs.Run.{Run}
use Rattle.slot_state.specs.Moves.{Moves, move_of, last_move_of, ended}
use Rattle.slot_state.specs.Importing.{import_verdict, after_import}
use Rattle.slot_state.specs.Migrating.{migrate_verdict, after_migrate}
use Rattle.slot_state.specs.Ending.{node_verdict}
use Rattle.slot_state.specs.declared.importing.ImportVerdict.{ImportVerdict}
use Rattle.slot_state.specs.declared.importing.ImportVerdict.TheVariants as import
use Rattle.slot_state.specs.declared.migrating.MigrateVerdict.{MigrateVerdict}
use Rattle.slot_state.specs.declared.migrating.MigrateVerdict.TheVariants as migrate
use Rattle.slot_state.specs.declared.ending.NodeVerdict.{NodeVerdict}
use Rattle.slot_state.specs.declared.ending.NodeVerdict.TheVariants as ending
use Rattle.bus.specs.declared.message.Body.{Body}
use Rattle.bus.specs.declared.bodies.SlotsBody.TheVariants.{Claim as Claims}
use Rattle.bus.specs.declared.message.Body.TheVariants.{Slots}
use Rattle.node_step.specs.Outcome.{Outcome, error, replied, replied_sending}
use Rattle.node_step.specs.Slots.{drained_if_empty, slot_epoch}
use Rattle.node_step.specs.State.{NodeState, standing}
use Rattle.node_step.specs.declared.response.Why.TheVariants.{Imports, Migrates, Ends}

abbrev pub done : Reply
done = Simple (codes "OK")

-- ---- IMPORTING

abbrev pub import_reply : ImportVerdict → Reply
import_reply import.UnknownNode = error line.UnknownNode
import_reply import.Already = done
import_reply import.HandingOver = error line.NodePaused
import_reply import.Busy = error line.SlotBusy
import_reply import.AlreadyOwner = error line.AlreadyOwner
import_reply import.NotOwner = error line.NotOwner
import_reply import.OldMove = error line.OldMove
import_reply (import.Begins from number) = done

abbrev pub with_moves : NodeState → Moves → NodeState
with_moves node moves = record node { moves = moves }

abbrev pub import_outcome : NodeState → ℕ → ImportVerdict → Outcome
import_outcome node slot verdict = replied (with_moves node (after_import node.moves slot verdict)) (Imports verdict) (import_reply verdict)

abbrev pub importing : NodeState → ℕ → Option ℕ → Option ℕ → Outcome
importing node slot from number =
    import_outcome node slot (import_verdict (standing node slot) (move_of node.moves slot) (last_move_of node.moves slot) from number)

-- ---- MIGRATING

abbrev pub migrate_reply : MigrateVerdict → Reply
migrate_reply migrate.UnknownNode = error line.UnknownNode
migrate_reply migrate.Already = done
migrate_reply migrate.HandingOver = error line.NodePaused
migrate_reply migrate.Busy = error line.SlotBusy
migrate_reply migrate.NotOwner = error line.NotOwner
migrate_reply migrate.OldMove = error line.OldMove
migrate_reply (migrate.Begins to number) = done

-- a slot without keys is drained as soon as it begins to leave
abbrev pub drained_at_start : NodeState → ℕ → MigrateVerdict → List (ℕ × Body)
drained_at_start node slot (migrate.Begins to number) = drained_if_empty node slot
drained_at_start node slot refused = []

abbrev pub migrate_outcome : NodeState → ℕ → MigrateVerdict → Outcome
migrate_outcome node slot verdict = let after = with_moves node (after_migrate node.moves slot verdict) in
    replied_sending after (Migrates verdict) (migrate_reply verdict) (drained_at_start after slot verdict)

abbrev pub migrating : NodeState → ℕ → Option ℕ → Option ℕ → Outcome
migrating node slot to number =
    migrate_outcome node slot (migrate_verdict (standing node slot) (move_of node.moves slot) (last_move_of node.moves slot) to number)

-- ---- NODE

abbrev pub ending_reply : NodeVerdict → Reply
ending_reply ending.UnknownNode = error line.UnknownNode
ending_reply ending.OldMove = error line.OldMove
ending_reply ending.NotDrained = error line.NotDrained
ending_reply (ending.Ends drained) = done
ending_reply ending.IsOwner = done
ending_reply ending.NotYetOwner = error line.TableNotUpdated

-- the epoch of the slot that came: above all that the node knows of
-- (else: node 1 takes the slot from node 2 in node 2's epoch; of two claims with one epoch the greater owner counts,
-- so the next claim of node 2 takes the slot from node 1, and node 1 deletes its keys)
abbrev pub new_epoch : NodeState → ℕ → ℕ → ℕ
new_epoch node slot drained = 1 + max (max node.current_epoch drained) (slot_epoch node slot)

-- the import is over, and the slot is the node's own in the new epoch
abbrev pub with_slot : NodeState → ℕ → ℕ → NodeState
with_slot node slot epoch = record node {
  table = slice_set node.table slot (Some (record { epoch = epoch; owner = node.number }));
  moves = ended node.moves slot;
  current_epoch = epoch;
}

-- all nodes but this one, by rising number
abbrev pub others : NodeState → List ℕ
others node = filter (λ number. not (number == node.number)) (range_with_len 0 (length node.config.nodes))

abbrev pub to_all : List ℕ → Body → List (ℕ × Body)
to_all numbers body = map (λ number. (number, body)) numbers

-- all slots that the node owns, each in the epoch in which it claims it
abbrev pub claim_of : NodeState → List (Run ℕ)
claim_of node = runs_of (claim_at node.table node.number)

-- by the verdict
abbrev pub ending_outcome : NodeState → ℕ → NodeVerdict → Outcome
ending_outcome node slot (ending.Ends drained) = let after = with_slot node slot (new_epoch node slot drained) in
    replied_sending after (Ends (ending.Ends drained)) done (to_all (others node) (Slots (Claims (claim_of after) node.replaced)))
ending_outcome node slot verdict = replied node (Ends verdict) (ending_reply verdict)

abbrev pub ending_verdict : NodeState → ℕ → Option ℕ → Option ℕ → NodeVerdict
ending_verdict node slot to number = node_verdict (standing node slot) (move_of node.moves slot) to number
