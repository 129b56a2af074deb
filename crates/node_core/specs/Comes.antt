-- What comes of an event, as the parts of a node say it of themselves.
use Rattle.std.specs.Prelude.{◌≡◌, ℕ, true, List, Result, false, IfOk, Some}
use Rattle.bus.specs.declared.message.Body.{Body}
use Rattle.bus.specs.declared.bodies.SlotsBody.{SlotsBody}
use Rattle.bus.specs.declared.message.Message.{Message}
use Rattle.command_table.specs.Table.{command_of}
use Rattle.command_table.specs.declared.command.Command.{Command}
use Rattle.command_table.specs.declared.fault.CommandFault.{CommandFault}
use Rattle.connections.specs.declared.conn.Conn.{Conn}
use Rattle.resp_values.specs.Request.{IsRequest}
use Rattle.node_parts.specs.Drafts.{Drafts, Records, Comes, IsDraftOf}
use Rattle.node_parts.specs.declared.draft.Draft.{Draft}
use Rattle.node_step.specs.Requests.{has_number, request_outcome, using_up}
use Rattle.node_step.specs.Messages.{Choice, MayChoose, taken, written_by_message, written_by_slots}
use Rattle.node_step.specs.Outcome.{Outcome, replied}
use Rattle.node_step.specs.Replicas.{follower_of}
use Rattle.node_step.specs.State.{NodeState}
use Rattle.node_step.specs.Step.{written, MayCome, NodeStep}
use Rattle.node_step.specs.Numbers.{has_offset}
use Rattle.node_step.specs.Orders.{done}
use Rattle.node_step.specs.declared.event.Event.{Event}
use Rattle.node_step.specs.declared.outputs.Outputs.{Outputs}
use Rattle.node_step.specs.declared.response.Why.TheVariants.{Told}
use Rattle.node_step.specs.Promotion.{handed_promotion}
use Rattle.node_step.specs.Voting.{if_elected}

-- nothing is chosen but how many bytes are kept no longer
abbrev pub choosing : NodeState → ℕ → Choice
choosing old dropped = record { follower = follower_of old; dropped = dropped }

-- what may come of a message of that node that was heard
pub record MayBeTaken (node : NodeState) (from : ℕ) (body : Body) (outcome : Outcome) : Type 0 where
  pub choice : Choice
  pub may_choose : MayChoose node from body choice
  pub comes_to : outcome ≡ taken node from choice body

-- nothing else may come
abbrev pub IsJust : Outcome → Outcome → Type 0
IsJust expected outcome = outcome ≡ expected

-- a step took the message of that node, unless it failed
abbrev pub Takes : {R E : Type 0} → ℕ → NodeState → ℕ → Body → Result (Outputs × R) E → NodeState → Type 0
Takes ticket old from body result new = IfOk result (λ made. Comes ticket (MayBeTaken old from body) made.0 new)

-- it came to this, unless it failed
abbrev pub ComesTo : {R E : Type 0} → ℕ → Outcome → Result (Outputs × R) E → NodeState → Type 0
ComesTo ticket expected result new = IfOk result (λ made. Comes ticket (IsJust expected) made.0 new)

-- it was one for that event, unless it failed
abbrev pub Steps : {R E : Type 0} → ℕ → NodeState → Event → Result (Outputs × R) E → NodeState → Type 0
Steps ticket old event result new = IfOk result (λ made. NodeStep ticket old event made.0 new)

-- the draft of what may come of the message
abbrev pub DraftsTaking : NodeState → ℕ → Body → Draft → Type 0
DraftsTaking node from body draft = IsDraftOf node (MayBeTaken node from body) draft

-- or of the event
abbrev pub DraftsStep : NodeState → Event → Draft → Type 0
DraftsStep node event draft = IsDraftOf node (MayCome node event) draft

-- the draft of the answer to a request that was read so
pub record AnswersSo (old : NodeState) (conn : Conn) (read : Result Command CommandFault) (draft : Draft) : Type 0 where
  pub number : has_number (using_up old conn) read ≡ true
  pub drafts : Drafts old (request_outcome old conn read) draft

-- and with what is written by its words
pub record AnswersAndWrites (old : NodeState) (conn : Conn) (words : List (List ℕ)) (draft : Draft) : Type 0 where
  pub request : IsRequest words
  pub number : has_number (using_up old conn) (command_of words) ≡ true
  pub records : Records old (request_outcome old conn (command_of words)) (written old conn words) draft

-- a command told something of the next requests
abbrev pub told : NodeState → Outcome
told node = replied node Told done

-- an election ended in that epoch
abbrev pub promotion_elected : NodeState → ℕ → Outcome
promotion_elected node epoch = if_elected node (Some (record { epoch = epoch }))

-- and was for what that master hands over
abbrev pub promotion_planned : NodeState → ℕ → ℕ → Outcome
promotion_planned node epoch master = handed_promotion node epoch (Some master) node.handover.note

-- ---- what only grows has no next one

-- no number for what the words were read as
abbrev pub LacksNumber : NodeState → Conn → Result Command CommandFault → Type 0
LacksNumber node conn read = has_number (using_up node conn) read ≡ false

-- no offset behind what the message writes
abbrev pub LacksOffset : NodeState → Message → Type 0
LacksOffset node message = has_offset node (written_by_message node message.from message.body) ≡ false

-- nor behind what is said of slots
abbrev pub LacksOffsetForSlots : NodeState → ℕ → SlotsBody → Type 0
LacksOffsetForSlots node from body = has_offset node (written_by_slots node from body) ≡ false
