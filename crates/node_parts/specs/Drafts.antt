-- The draft of a step.
use Rattle.std.specs.Prelude.{◌≡◌, ℕ, true, List, [], ◌∷◌, Option, Some, None, map}
use Rattle.repl_stream.specs.Written.{WrittenView, no_writes}
use Rattle.resp2.specs.Stream.{stream_spelling}
use Rattle.bus.specs.declared.message.Body.{Body}
use Rattle.node_parts.specs.Becomes.{Becomes}
use Rattle.node_parts.specs.declared.change.Change.{Change}
use Rattle.node_parts.specs.declared.change.Change.TheVariants.{Nothing as Unchanged}
use Rattle.node_parts.specs.declared.draft.Draft.{Draft}
use Rattle.node_parts.specs.Succession.{promoted_by, succeeded_by}
use Rattle.node_step.specs.Outcome.{Outcome, no_outputs, outputs_of, silent, stamped, release, replied_sending}
use Rattle.node_step.specs.State.{NodeState, kept_in}
use Rattle.node_step.specs.Streams.{MayGiveUp, Requests, with_written}
use Rattle.node_step.specs.declared.outputs.Outputs.{Outputs}
use Rattle.node_step.specs.declared.promotion.Promotion.{Promotion}
use Rattle.node_step.specs.declared.outputs.Release.{Release}
use Rattle.node_step.specs.declared.response.Response.{Response}
use Rattle.node_step.specs.declared.response.Response.TheVariants.{Nothing, Parked, Replied}
use Rattle.node_step.specs.declared.response.Why.{Why}
use Rattle.resp_values.specs.declared.reply.Reply.{Reply}
use Rattle.connections.specs.Connections.{waiting}
use Rattle.connections.specs.Waiting.{test_of}
use Rattle.connections.specs.declared.waiting.Waiting.{Waiting}

-- what is written is only counted where the node keeps no byte of its stream
abbrev pub MayCount : NodeState → WrittenView → Type 0
MayCount node written = written.is_counted ≡ true → kept_in node.config ≡ 0

-- the node in that epoch
abbrev pub at_epoch : NodeState → ℕ → NodeState
at_epoch node epoch = record node { current_epoch = epoch }

-- the draft of a step at the node: what comes out is that of the outcome, and its change may lead to the outcome's state
pub record Drafts (old : NodeState) (outcome : Outcome) (draft : Draft) : Type 0 where
  pub response : draft.response ≡ outcome.response
  pub released : draft.released ≡ outcome.released
  pub sent : draft.bodies.items ≡ outcome.sent
  pub promoted : outcome.promoted ≡ None
  pub written : draft.written ≡ no_writes
  pub stays : draft.succession ≡ None
  pub state : Becomes (at_epoch old draft.epoch) draft.plan draft.change outcome.state

-- whatever state the change may lead to, the draft is one of the outcome that goes with it
abbrev pub DraftsBy : NodeState → Draft → Change → (NodeState → Outcome) → Draft → Type 0
DraftsBy node old change outcome new = (after : NodeState) → Becomes node old.plan change after → Drafts node (outcome after) new

-- the same, in a new epoch
abbrev pub DraftsIn : NodeState → ℕ → Draft → Change → (NodeState → Outcome) → Draft → Type 0
DraftsIn node epoch old change outcome new =
    (after : NodeState) → Becomes (at_epoch node epoch) old.plan change after → Drafts node (outcome after) new

-- whatever the next state is, a reply comes out, with these messages
abbrev pub replying : Why → Reply → List (ℕ × Body) → NodeState → Outcome
replying why reply bodies after = replied_sending after why reply bodies

-- or connections that waited get these replies, with these messages
abbrev pub releasing : List Release → List (ℕ × Body) → NodeState → Outcome
releasing released bodies after = record (silent after) { released = released; sent = bodies }

-- the draft with this reply
abbrev pub with_reply : Draft → Why → Reply → Draft
with_reply draft why reply = record draft { response = Replied (record { why = why; reply = reply }) }

-- this reply, for each connection that waits so
abbrev pub releases_of : NodeState → Waiting → Reply → List Release
releases_of node which reply = map (release reply) (waiting node.connections (test_of which))

-- this response comes out of a step under the ticket, and nothing else
abbrev pub only_response : ℕ → Response → Outputs
only_response ticket response = record { ticket = ticket; response = response; released = []; sent = []; promoted = None }

-- nothing comes out of the draft yet, in the node's epoch
pub record HasNothing (old : NodeState) (draft : Draft) : Type 0 where
  pub response : draft.response ≡ Nothing
  pub released : draft.released ≡ []
  pub sent : draft.bodies.items ≡ []
  pub epoch : draft.epoch ≡ old.current_epoch
  pub written : draft.written ≡ no_writes
  pub change : draft.change ≡ Unchanged
  pub succession : draft.succession ≡ None

-- the draft of an outcome in which the node is promoted
pub record Promotes (old : NodeState) (outcome : Outcome) (draft : Draft) : Type 0 where
  pub response : draft.response ≡ outcome.response
  pub released : draft.released ≡ outcome.released
  pub sent : draft.bodies.items ≡ outcome.sent
  pub promoted : promoted_by old draft.succession ≡ outcome.promoted
  pub epoch : draft.epoch ≡ old.current_epoch
  pub written : draft.written ≡ no_writes
  pub change : draft.change ≡ Unchanged
  pub state : outcome.state ≡ succeeded_by draft.succession old

-- the draft of an outcome in which these requests are recorded
pub record Records (old : NodeState) (outcome : Outcome) (requests : Requests) (draft : Draft) : Type 0 where
  pub response : draft.response ≡ outcome.response
  pub released : draft.released ≡ outcome.released
  pub sent : draft.bodies.items ≡ (with_written outcome requests 0).sent
  pub promoted : outcome.promoted ≡ None
  pub written : draft.written.bytes ≡ stream_spelling requests
  pub counted : MayCount old draft.written
  pub stays : draft.succession ≡ None
  pub state : Becomes (at_epoch old draft.epoch) draft.plan draft.change outcome.state

-- the draft of what may come, however many bytes the stream gives up in front
pub record IsDraftOf (old : NodeState) (May : Outcome → Type 0) (draft : Draft) : Type 0 where
  pub outcome : Outcome
  pub requests : Requests
  pub may_come : (dropped : ℕ) → MayGiveUp old requests dropped → May (with_written outcome requests dropped)
  pub records : Records old outcome requests draft

-- what a step comes to: something that may come, with its outputs under the ticket
pub record Comes (ticket : ℕ) (May : Outcome → Type 0) (outputs : Outputs) (new : NodeState) : Type 0 where
  pub outcome : Outcome
  pub may : May outcome
  pub outputs_are : outputs ≡ outputs_of ticket outcome
  pub state : new ≡ outcome.state

-- what comes out of a step at the node of that number
abbrev pub sends : ℕ → ℕ → ℕ → Response → List Release → List (ℕ × Body) → Option Promotion → Outputs
sends from ticket epoch response released bodies promoted =
    record (no_outputs ticket) { response = response; released = released; sent = map (stamped from ticket epoch) bodies; promoted = promoted }

-- and out of a draft
abbrev pub stamped_draft : NodeState → ℕ → Draft → Outputs
stamped_draft node ticket draft =
    sends node.number ticket draft.epoch draft.response draft.released draft.bodies.items (promoted_by node draft.succession)

-- a body for a node, if there is one
abbrev pub bodies_of : Option (ℕ × Body) → List (ℕ × Body)
bodies_of None = []
bodies_of (Some body) = body ∷ []

-- a connection gets no reply yet, and these messages go out
abbrev pub parking : NodeState → List (ℕ × Body) → Outcome
parking after bodies = record (silent after) { response = Parked; sent = bodies }
