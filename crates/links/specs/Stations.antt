-- A node with its ends of the links to all nodes (ours).
use Rattle.std.specs.Prelude.{◌≡◌, ◌==◌, ◌++◌, ◌∷◌, ◌<◌, ◌⊎◌, ℕ, List, [], Contains, IfErr, IfOk, IsTrue, Result, Ok, Err, length, map, slice_index_or, slice_set}
use Rattle.std.specs.List.{filter, flat_map}
use Rattle.atomic_table.specs.Seated.{TableId}
use Rattle.bus.specs.declared.message.Message.{Message}
use Rattle.link_ends.specs.Ends.{EndView}
use Rattle.link_ends.specs.Giving.{GivingView}
use Rattle.link_ends.specs.Halves.{WasFull}
use Rattle.links.specs.Ports.{HasGiven, HasGivenNone, PortView}
use Rattle.links.specs.Syncs.{is_sync}
use Rattle.links.specs.declared.not_taken.NotTaken.{NotTaken}
use Rattle.links.specs.declared.not_taken.NotTaken.TheVariants.{Refused, Needless}
use Rattle.cell_parts.specs.Journal.{CellView, EnteredView, Enters, IsNotTaken}
use Rattle.cell_parts.specs.declared.delivery.DeliveryFault.{DeliveryFault}
use Rattle.cell_parts.specs.declared.entry.Entry.{Entry}
use Rattle.cell_parts.specs.declared.entry.Entry.TheVariants.{Step, Skipped}
use Rattle.node_step.specs.declared.event.Event.{Event}
use Rattle.node_step.specs.declared.event.Event.TheVariants.{Open, Close, Request, Deliver, Tick}

-- ---- what a journal says of messages

abbrev pub for_node : ℕ → List Message → List Message
for_node number messages = filter (λ (message : Message). message.to == number) messages

abbrev pub sent_by : Entry → List Message
sent_by (Step event outputs) = outputs.sent
sent_by (Skipped ticket) = []

abbrev pub taken_in : Event → List Message
taken_in (Deliver message) = message ∷ []
taken_in Open = []
taken_in (Close conn) = []
taken_in (Request conn words) = []
taken_in Tick = []

abbrev pub taken_by : Entry → List Message
taken_by (Step event outputs) = taken_in event
taken_by (Skipped ticket) = []

-- all messages that the node sent, and all that it took
abbrev pub all_sent : List Entry → List Message
all_sent journal = flat_map sent_by journal

abbrev pub all_taken : List Entry → List Message
all_taken journal = flat_map taken_by journal

-- ---- stations

-- a node's cell, its ports by the number of the node at the other end, and the messages of a step that are not at their ports yet
pub record StationView : Type 0 where
  pub cell : CellView
  pub ports : List PortView
  pub unsorted : List Message

abbrev pub port_at : List PortView → ℕ → PortView → PortView
port_at ports other none = slice_index_or ports other none

-- no message waits at the port for the node, or its link was full
abbrev pub IsSentOut : List PortView → ℕ → Type 0
IsSentOut ports to = (none : PortView) → to < length ports → ((port_at ports to none).waiting ≡ []) ⊎ WasFull (port_at ports to none).sent

-- a port is at the links of its two nodes, and what was sent there, what waits and what is still to come there are the messages of the
-- journal for that node, in order
pub record IsPort (links : ℕ → ℕ → TableId) (node other : ℕ) (coming : List Message) (journal : List Entry) (port : PortView) : Type 0 where
  pub to : port.to ≡ links node other
  pub from : port.from ≡ links other node
  pub in_order : port.sent ++ (port.waiting ++ for_node other coming) ≡ for_node other (all_sent journal)

-- a port for each node, and each message that the node took was received at one of them
pub record IsStation (links : ℕ → ℕ → TableId) (station : StationView) : Type 0 where
  pub count : length station.ports ≡ length station.cell.config.nodes
  pub are_ports : (other : ℕ) (none : PortView) → other < length station.ports
      → IsPort links station.cell.node other (station.unsorted ++ station.cell.outbox) station.cell.journal (port_at station.ports other none)
  pub received : (message : Message) → Contains (all_taken station.cell.journal) message → Contains (flat_map (λ (port : PortView). port.received) station.ports) message

-- the end of a port, and the port at an end where nothing waits
abbrev pub end_of : PortView → EndView Message
end_of port = record { to = port.to; from = port.from; sent = port.sent; received = port.received }

abbrev pub port_of : GivingView Message → PortView
port_of giving = record { to = giving.end.to; from = giving.end.from; sent = giving.end.sent; received = giving.end.received; given = giving.given; waiting = [] }

-- ---- what it does

-- messages were sent, or put where they wait for that: the rest of the cell is as before, and nothing was received or given
pub record OnlySends (old new : StationView) : Type 0 where
  pub cell : new.cell ≡ record old.cell { outbox = new.cell.outbox }
  pub received : map (λ (port : PortView). port.received) new.ports ≡ map (λ (port : PortView). port.received) old.ports
  pub given : map (λ (port : PortView). port.given) new.ports ≡ map (λ (port : PortView). port.given) old.ports

-- nothing was sent at any port
abbrev pub SendsNothing : StationView → StationView → Type 0
SendsNothing old new = map (λ (port : PortView). port.sent) new.ports ≡ map (λ (port : PortView). port.sent) old.ports

-- the port for the node gave the message
pub record IsGiven (old : List PortView) (from : ℕ) (message : Message) (new : List PortView) : Type 0 where
  pub port : PortView
  pub gives : (none : PortView) → HasGiven (port_at old from none) message port
  pub ports : new ≡ slice_set old from port

-- the port for the node gave none, and may have received some that it holds or loses
pub record GivesNone (old : StationView) (from : ℕ) (new : StationView) : Type 0 where
  pub port : PortView
  pub gives : (none : PortView) → HasGivenNone (port_at old.ports from none) port
  pub rest : new ≡ record old { ports = slice_set old.ports from port }

-- a message came from the node, and was delivered to nobody
pub record Loses (old : StationView) (from : ℕ) (message : Message) (new : StationView) : Type 0 where
  pub given : IsGiven old.ports from message new.ports
  pub rest : new ≡ record old { ports = new.ports }

-- a message came from the node, and was delivered to the cell
pub record Receives (old : StationView) (from : ℕ) (message : Message) (delivered : Result EnteredView DeliveryFault) (new : StationView) : Type 0 where
  pub given : IsGiven old.ports from message new.ports
  pub unsorted : new.unsorted ≡ old.unsorted
  pub ok : IfOk delivered (λ entered. Enters old.cell (Deliver message) entered new.cell)
  pub err : IfErr delivered (λ fault. IsNotTaken old.cell (Deliver message) fault new.cell)

-- what is said of a message that was delivered so
abbrev pub said_of : Result EnteredView DeliveryFault → Result EnteredView NotTaken
said_of (Ok entered) = Ok entered
said_of (Err fault) = Err (Refused fault)

-- a message came from the node: it is delivered to the cell, or it is a sync that needs no answer
abbrev pub Arrives : StationView → ℕ → Message → Result EnteredView NotTaken → StationView → Type 0
Arrives old from message (Ok entered) new = Receives old from message (Ok entered) new
Arrives old from message (Err (Refused fault)) new = Receives old from message (Err fault) new
Arrives old from message (Err Needless) new = Loses old from message new × IsTrue (is_sync message.body)

-- some message came from the node
abbrev pub ArrivesSome : StationView → ℕ → StationView → Result EnteredView NotTaken → Type 0
ArrivesSome old from new received = (message : Message) × Arrives old from message received new
