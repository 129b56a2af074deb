-- What a step of a node may be (ours: the Redis Cluster specification tells what nodes do, and has no steps).
use Rattle.std.specs.Prelude.{◌≡◌, ◌==◌, ℕ, true, List, is_some, MatchBool}
use Rattle.command_table.specs.Table.{command_of}
use Rattle.connections.specs.Connections.{connection_at, may_ask, Opens, Closes}
use Rattle.bus.specs.declared.message.Message.{Message}
use Rattle.resp_values.specs.Request.{IsRequest}
use Rattle.node_step.specs.Failing.{a_tick_older}
use Rattle.node_step.specs.Messages.{Choice, MayChoose, delivered, ready}
use Rattle.node_step.specs.Outcome.{Outcome, outputs_of, silent}
use Rattle.node_step.specs.Requests.{has_number, request_outcome, using_up}
use Rattle.node_step.specs.State.{NodeState}
use Rattle.node_step.specs.Streams.{MayGiveUp, Requests, with_written, written_by_request}
use Rattle.node_step.specs.Ticks.{older, tick}
use Rattle.node_step.specs.Voting.{has_due_epoch}
use Rattle.connections.specs.declared.conn.Conn.{Conn}
use Rattle.node_step.specs.declared.event.Event.{Event}
use Rattle.node_step.specs.declared.event.Event.TheVariants.{Open, Close, Request, Deliver, Tick}
use Rattle.node_step.specs.declared.outputs.Outputs.{Outputs}
use Rattle.node_step.specs.declared.response.Response.TheVariants.{Opened}

-- a connection was made at a free key
pub record IsOpening (old : NodeState) (outcome : Outcome) : Type 0 where
  pub conn : Conn
  pub opens : Opens old.connections outcome.state.connections conn
  pub comes_to : outcome ≡ record (silent (record old { connections = outcome.state.connections })) { response = Opened conn }

-- the connection was closed
pub record IsClosing (old : NodeState) (conn : Conn) (outcome : Outcome) : Type 0 where
  pub closes : Closes old.connections outcome.state.connections conn
  pub comes_to : outcome ≡ silent (record old { connections = outcome.state.connections })

-- what comes of the words of a request, and what is written by them
abbrev pub written : NodeState → Conn → List (List ℕ) → Requests
written node conn words = written_by_request words (command_of words) (request_outcome node conn (command_of words)).response

abbrev pub answered : NodeState → Conn → List (List ℕ) → ℕ → Outcome
answered node conn words dropped = with_written (request_outcome node conn (command_of words)) (written node conn words) dropped

-- the words were read as a command and answered; they are those of a request, which keeps the limits
-- (else: SET gives a a value longer than a word may be; it goes behind the stream, where no replica can read it)
pub record IsAnswering (old : NodeState) (conn : Conn) (words : List (List ℕ)) (outcome : Outcome) : Type 0 where
  pub request : IsRequest words
  pub number : has_number (using_up old conn) (command_of words) ≡ true
  pub dropped : ℕ
  pub may_drop : MayGiveUp old (written old conn words) dropped
  pub comes_to : outcome ≡ answered old conn words dropped

-- the message was taken, for which something may be chosen, or was for another node
pub record IsTaking (old : NodeState) (message : Message) (outcome : Outcome) : Type 0 where
  pub choice : Choice
  pub may_choose : (message.to == old.number) ≡ true → MayChoose (ready old message) message.from message.body choice
  pub comes_to : outcome ≡ delivered old message choice

-- time passed; an election that begins has an epoch
pub record IsTicking (old : NodeState) (outcome : Outcome) : Type 0 where
  pub number : has_due_epoch (a_tick_older (older old)) ≡ true
  pub comes_to : outcome ≡ tick old

-- what may come of an event. A connection that isn't open, or waits for a reply, is not answered
abbrev pub MayCome : NodeState → Event → Outcome → Type 0
MayCome old Open outcome = IsOpening old outcome
MayCome old (Close conn) outcome = MatchBool (is_some (connection_at old.connections conn)) (IsClosing old conn outcome) (outcome ≡ silent old)
MayCome old (Request conn words) outcome =
    MatchBool (may_ask (connection_at old.connections conn)) (IsAnswering old conn words outcome) (outcome ≡ silent old)
MayCome old (Deliver message) outcome = IsTaking old message outcome
MayCome old Tick outcome = IsTicking old outcome

-- a step of a node: the ticket under which it is made, the node's state, what happens, what comes out, and the next state
pub record NodeStep (ticket : ℕ) (old : NodeState) (event : Event) (outputs : Outputs) (new : NodeState) : Type 0 where
  pub outcome : Outcome
  pub may_come : MayCome old event outcome
  pub outputs_are : outputs ≡ outputs_of ticket outcome
  pub state : new ≡ outcome.state
