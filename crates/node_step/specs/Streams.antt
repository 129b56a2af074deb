-- What becomes of the stream of writes (Redis documentation, "Redis replication": a master sends its replicas the commands
-- that change its keys; what is put there for a key that moves is ours).
use Rattle.std.specs.Prelude.{◌≤◌, ◌+◌, ◌-◌, length, ◌&&◌, ◌++◌, ◌==◌, ℕ, Bool, true, false, not, List, [], ◌∷◌, filter, map, is_some, Option, Some, None, Result, Ok, Err, codes, if◌then◌else◌}
use Rattle.std.specs.FinMap as fin_map
use Rattle.resp2.specs.Stream.{stream_spelling}
use Rattle.resp_values.specs.declared.reply.Reply.{Reply}
use Rattle.resp_values.specs.declared.reply.Reply.TheVariants.{Error}
use Rattle.command_table.specs.Keys.{is_write}
use Rattle.command_table.specs.declared.command.Command.{Command}
use Rattle.command_table.specs.declared.fault.CommandFault.{CommandFault}
use Rattle.key_slot.specs.Slot.{hash_slot}
use Rattle.keyspace.specs.Keyspace.{Keyspace}
use Rattle.keyspace.specs.Rebuilding.{rebuilding}
use Rattle.keyspace.specs.declared.value.Value.{Value}
use Rattle.redirect.specs.Decision.{is_served}
use Rattle.slot_table.specs.Claims.{merged}
use Rattle.slot_table.specs.declared.entry.SlotEntry.{SlotEntry}
use Rattle.slot_table.specs.declared.runs.Run.{Run}
use Rattle.migrate.specs.declared.arriving.ArrivalVerdict.{ArrivalVerdict}
use Rattle.migrate.specs.declared.arriving.ArrivalVerdict.TheVariants.{Installs}
use Rattle.bus.specs.Stream.{end_of, written}
use Rattle.bus.specs.declared.bodies.StreamBody.TheVariants.{Piece}
use Rattle.bus.specs.declared.message.Body.TheVariants.{Stream}
use Rattle.node_step.specs.Claiming.{is_lost}
use Rattle.node_step.specs.Orders.{to_all}
use Rattle.node_step.specs.Outcome.{Outcome}
use Rattle.node_step.specs.Roles.{replicas_of}
use Rattle.node_step.specs.State.{NodeState, kept_in}
use Rattle.node_step.specs.declared.response.Response.{Response}
use Rattle.node_step.specs.declared.response.Response.TheVariants.{Replied}
use Rattle.node_step.specs.declared.response.Why.{Why}
use Rattle.node_step.specs.declared.response.Why.TheVariants.{Decided}

-- requests, each a list of words
abbrev pub Requests : Type 0
Requests = List (List (List ℕ))

-- ---- what a step writes

abbrev pub is_error : Reply → Bool
is_error (Error text) = true
is_error other = false

-- the command was executed
abbrev pub is_executed : Why → Bool
is_executed (Decided decision) = is_served decision
is_executed other = false

abbrev pub is_written : Result Command CommandFault → Bool
is_written (Ok command) = is_write command
is_written (Err fault) = false

-- a write that was executed without an error, in the words of its request
abbrev pub written_by_request : List (List ℕ) → Result Command CommandFault → Response → Requests
written_by_request words command (Replied answer) =
    if is_executed answer.why && is_written command && not (is_error answer.reply) then words ∷ [] else []
written_by_request words command other = []

abbrev pub deletion : List ℕ → List (List ℕ)
deletion key = codes "DEL" ∷ key ∷ []

-- a key that is installed: the request that makes it, behind a deletion of what was there
abbrev pub written_by_pair : Keyspace → List ℕ → Value → Requests
written_by_pair keyspace key value =
    if is_some (fin_map.get keyspace key) then deletion key ∷ rebuilding key value ∷ [] else rebuilding key value ∷ []

-- one after another
abbrev pub written_by_pairs : Keyspace → List (List ℕ × Value) → Requests
written_by_pairs keyspace [] = []
written_by_pairs keyspace (pair ∷ pairs) = written_by_pair keyspace pair.0 pair.1 ++ written_by_pairs (fin_map.insert keyspace pair.0 pair.1) pairs

-- a copy that is installed
abbrev pub written_by_copy : Keyspace → List (List ℕ × Value) → ArrivalVerdict → Requests
written_by_copy keyspace pairs Installs = written_by_pairs keyspace pairs
written_by_copy keyspace pairs other = []

-- a copy that is acknowledged
abbrev pub written_by_ack : Option (List (List ℕ)) → Requests
written_by_ack None = []
written_by_ack (Some keys) = map deletion keys

-- the keys of slots that are lost, in byte order
abbrev pub written_by_loss : NodeState → List (Option SlotEntry) → Requests
written_by_loss node table = map deletion (filter (λ key. is_lost node table (hash_slot key)) (fin_map.keys node.keyspace))

abbrev pub written_by_claim : NodeState → ℕ → List (Run ℕ) → Requests
written_by_claim node from taken = if from == node.number then [] else written_by_loss node (merged node.table taken from)

-- so many bytes in front of the stream may be kept no longer, as these requests are put behind it: but the last ones are, as many as the
-- configuration says
abbrev pub MayGiveUp : NodeState → Requests → ℕ → Type 0
MayGiveUp node requests dropped = dropped ≤ length node.stream.held.bytes + length (stream_spelling requests) - kept_in node.config

-- all that a step writes goes to the replicas as one piece, behind its other messages
abbrev pub with_written : Outcome → Requests → ℕ → Outcome
with_written outcome [] dropped = outcome
with_written outcome (request ∷ requests) dropped = let bytes = stream_spelling (request ∷ requests) in let stream = outcome.state.stream in record outcome {
  sent = outcome.sent ++ to_all (replicas_of outcome.state.masters outcome.state.number)
      (Stream (Piece (record { stream = stream.held.id; from = end_of stream.held; bytes = bytes; base = stream.former })));
  state = record outcome.state { stream = written dropped bytes stream };
}
