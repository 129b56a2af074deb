-- What a step writes, as the parts of a node say it of themselves.
use Rattle.std.specs.Prelude.{◌≡◌, ◌++◌, ◌∷◌, ◌&&◌, ℕ, Bool, false, not, List, [], None, filter, slice_index_or, if◌then◌else◌, ◌+◌, ◌^◌, nat_lt, length, Result}
use Rattle.std.specs.List.{range_with_len}
use Rattle.bus.specs.Stream.{end_of}
use Rattle.bus.specs.Piece.{PieceView}
use Rattle.bus.specs.declared.message.Body.{Body}
use Rattle.bus.specs.declared.bodies.StreamBody.TheVariants.{Piece}
use Rattle.bus.specs.declared.message.Body.TheVariants.{Stream}
use Rattle.node_parts.specs.Drafts.{MayCount, Drafts, Records}
use Rattle.node_parts.specs.declared.draft.Draft.{Draft}
use Rattle.node_step.specs.Orders.{to_all}
use Rattle.node_step.specs.Roles.{is_just, replicas_of}
use Rattle.node_step.specs.State.{NodeState}
use Rattle.node_step.specs.Streams.{Requests, is_error, is_executed, is_written, written_by_request}
use Rattle.node_step.specs.declared.response.Response.{Response}
use Rattle.node_step.specs.declared.response.Response.TheVariants.{Nothing, Opened, Parked, Replied}
use Rattle.node_step.specs.Numbers.{has_offset}
use Rattle.node_step.specs.Outcome.{Outcome}
use Rattle.command_table.specs.declared.command.Command.{Command}
use Rattle.command_table.specs.declared.fault.CommandFault.{CommandFault}
use Rattle.resp2.specs.Stream.{stream_spelling}

-- the request, if it is to be written
abbrev pub written_if : Bool → List (List ℕ) → Requests
written_if is_recorded words = if is_recorded then words ∷ [] else []

-- a command was executed without an error
abbrev pub is_done : Response → Bool
is_done (Replied answer) = is_executed answer.why && not (is_error answer.reply)
is_done Nothing = false
is_done (Opened conn) = false
is_done Parked = false

-- the bytes as a piece of the node's stream
abbrev pub piece_of : NodeState → List ℕ → Body
piece_of node bytes = Stream (Piece (record { stream = node.stream.held.id; from = end_of node.stream.held; bytes = bytes; base = node.stream.former }))

-- its replicas with lower numbers than that
abbrev pub replicas_below : NodeState → ℕ → List ℕ
replicas_below node bound = filter (λ other. is_just (slice_index_or node.masters other None) node.number) (range_with_len 0 bound)

-- one for each replica
abbrev pub pieces_of : NodeState → List ℕ → List (ℕ × Body)
pieces_of node bytes = to_all (replicas_of node.masters node.number) (piece_of node bytes)

-- the bytes stand in the draft, and go to the replicas behind its other messages
pub record Adds (node : NodeState) (bytes : List ℕ) (old new : Draft) : Type 0 where
  pub response : new.response ≡ old.response
  pub released : new.released ≡ old.released
  pub sent : new.bodies.items ≡ old.bodies.items ++ pieces_of node bytes
  pub epoch : new.epoch ≡ old.epoch
  pub written : new.written.bytes ≡ bytes
  pub counted : MayCount node new.written
  pub plan : new.plan ≡ old.plan
  pub change : new.change ≡ old.change
  pub succession : new.succession ≡ old.succession

-- ---- what is put behind an outcome that is drafted

-- these bytes, as the requests that they spell
abbrev pub RecordsBytes : NodeState → List ℕ → Draft → Draft → Type 0
RecordsBytes node bytes old new =
    (outcome : Outcome) (requests : Requests) → bytes ≡ stream_spelling requests → Drafts node outcome old → Records node outcome requests new

-- these words of a request, if they are a write that was executed
abbrev pub RecordsWords : NodeState → List (List ℕ) → Bool → Draft → Draft → Type 0
RecordsWords node words is_write old new = (outcome : Outcome) (command : Result Command CommandFault) → is_write ≡ is_written command
    → Drafts node outcome old → Records node outcome (written_by_request words command old.response) new

-- ---- the stream has no offset

-- behind these bytes
abbrev pub NoOffsetBehind : NodeState → List ℕ → Type 0
NoOffsetBehind node bytes = nat_lt (end_of node.stream.held + length bytes) (2 ^ 64) ≡ false

-- behind the requests that they spell
abbrev pub NoOffsetForBytes : NodeState → List ℕ → Type 0
NoOffsetForBytes node bytes = (requests : Requests) → bytes ≡ stream_spelling requests → has_offset node requests ≡ false

-- behind the words of a request
abbrev pub NoOffsetToWrite : NodeState → List (List ℕ) → Bool → Draft → Type 0
NoOffsetToWrite node words is_write draft = (command : Result Command CommandFault) → is_write ≡ is_written command
    → has_offset node (written_by_request words command draft.response) ≡ false

-- ---- the replicas

-- that one has the greatest number
abbrev pub IsLastReplica : NodeState → ℕ → Type 0
IsLastReplica node last = replicas_of node.masters node.number ≡ replicas_below node last ++ last ∷ []

-- the piece, for each with a lower number
abbrev pub piece_below : NodeState → ℕ → PieceView → List (ℕ × Body)
piece_below node last piece = to_all (replicas_below node last) (Stream (Piece piece))
