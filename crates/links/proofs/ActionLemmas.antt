-- What a station did, as its clauses say it.
use Rattle.std.proofs.Common.{◌≡◌, ◌<◌, ℕ, List, [], ◌∷◌, ◌++◌, length, set, refl, sym, ap, subst, ◌∙◌}
use Rattle.std.specs.Prelude.{IfErr, IfOk, OnErr, OnOk, Result, Ok, Err}
use Rattle.std.proofs.Math.Seq.{map-set_same}
use Rattle.std.proofs.lemmas.List.{get_or_default, set-get_or}
use Rattle.atomic_table.specs.Seated.{TableId}
use Rattle.bus.specs.declared.message.Message.{Message}
use Rattle.links.specs.Ports.{HasGiven, HasMore, PortView}
use Rattle.links.specs.Stations.{Arrives, IsGiven, IsStation, Loses, OnlySends, Receives, SendsNothing, StationView, port_at, said_of}
use Rattle.links.specs.declared.not_taken.NotTaken.{NotTaken}
use Rattle.links.proofs.StationLemmas.{with_one_sorted}
use Rattle.cell_parts.specs.Journal.{CellView, EnteredView, Enters, IsNotTaken}
use Rattle.cell_parts.specs.declared.delivery.DeliveryFault.{DeliveryFault}
use Rattle.node_step.specs.declared.event.Event.TheVariants.{Deliver}

-- one port is another now, which received and gave the same
pub only_sends_at : (old : StationView) (to : ℕ) (none port : PortView) (unsorted : List Message) → port.received ≡ (port_at old.ports to none).received
    → port.given ≡ (port_at old.ports to none).given → OnlySends old (record old { ports = set old.ports to port; unsorted = unsorted })
only_sends_at old to none port unsorted same given = record {
  cell = refl;
  received = map-set_same (λ (port : PortView). port.received) old.ports to port none same;
  given = map-set_same (λ (port : PortView). port.given) old.ports to port none given;
}

pub sends_nothing_at : (old : StationView) (to : ℕ) (none port : PortView) (unsorted : List Message) → port.sent ≡ (port_at old.ports to none).sent
    → SendsNothing old (record old { ports = set old.ports to port; unsorted = unsorted })
sends_nothing_at old to none port unsorted same = map-set_same (λ (port : PortView). port.sent) old.ports to port none same

pub then_only_sends : (first second third : StationView) → OnlySends first second → OnlySends second third → OnlySends first third
then_only_sends first second third once again = record {
  cell = again.cell ∙ ap (λ (cell : CellView). record cell { outbox = third.cell.outbox }) once.cell;
  received = again.received ∙ once.received;
  given = again.given ∙ once.given;
}

-- ---- the first message of a step comes to its port, or there is no memory for it

waiting_alone : (old : PortView) (waiting : List Message) (new : PortView) → new ≡ record old { waiting = waiting } → new ≡ record old { waiting = new.waiting }
waiting_alone old waiting new is = is ∙ ap (λ (port : PortView). record old { waiting = port.waiting }) (sym is)

-- all of the port but what waits there is as before
more_waiting : (old : PortView) (messages : List Message) (new : PortView) (left : List Message) → HasMore old messages new left
    → new ≡ record old { waiting = new.waiting }
more_waiting old [] new left more = waiting_alone old old.waiting new more.0
more_waiting old (message ∷ messages) new left more = waiting_alone old (old.waiting ++ message ∷ []) new more.0

module _ {A B : Type 0} (station : StationView) (to : ℕ) (none port : PortView) (left : List Message) where
  -- what was sent and received there is as before
  pub the_same_there : (result : Result A B) → OnOk result (HasMore (port_at station.ports to none) station.unsorted port left)
      → OnErr result ((port ≡ port_at station.ports to none) × (left ≡ station.unsorted)) → port ≡ record (port_at station.ports to none) { waiting = port.waiting }
  the_same_there (Ok done) more same = more_waiting (port_at station.ports to none) station.unsorted port left more
  the_same_there (Err refused) more same = waiting_alone (port_at station.ports to none) (port_at station.ports to none).waiting port same.0

  pub sorted_or_not : (links : ℕ → ℕ → TableId) (first : Message) (rest : List Message) (result : Result A B) → IsStation links station → to < length station.ports
      → station.unsorted ≡ first ∷ rest → first.to ≡ to → OnOk result (HasMore (port_at station.ports to none) station.unsorted port left)
      → OnErr result ((port ≡ port_at station.ports to none) × (left ≡ station.unsorted)) → IsStation links (record station { ports = set station.ports to port; unsorted = left })
  sorted_or_not links first rest (Ok done) is within unsorted for_this more same = with_one_sorted links station to none port first rest left is within unsorted for_this more
  sorted_or_not links first rest (Err refused) is within unsorted for_this more same =
      rw (same.1) (subst (λ (ports : List PortView). IsStation links (record station { ports = ports })) (sym (ap (λ (port : PortView). set station.ports to port) same.0 ∙ set-get_or station.ports to none)) is)

-- ---- a message was given

given_so : (old : List PortView) (from : ℕ) (there port : PortView) (message : Message) → from < length old → there ≡ port_at old from there → HasGiven there message port
    → IsGiven old from message (set old from port)
given_so old from there port message within is gives = record {
  port = port;
  gives = λ none. subst (λ (there : PortView). HasGiven there message port) (is ∙ get_or_default old from there none within) gives;
  ports = refl;
}

pub loses_so : (old : StationView) (from : ℕ) (there port : PortView) (message : Message) → from < length old.ports → there ≡ port_at old.ports from there
    → HasGiven there message port → Loses old from message (record old { ports = set old.ports from port })
loses_so old from there port message within is gives = record { given = given_so old.ports from there port message within is gives; rest = refl }

pub receives_so : (old : StationView) (from : ℕ) (there port : PortView) (message : Message) (delivered : Result EnteredView DeliveryFault) (cell : CellView) → from < length old.ports
    → there ≡ port_at old.ports from there → HasGiven there message port → IfOk delivered (λ entered. Enters old.cell (Deliver message) entered cell)
    → IfErr delivered (λ fault. IsNotTaken old.cell (Deliver message) fault cell)
    → Receives old from message delivered (record old { cell = cell; ports = set old.ports from port })
receives_so old from there port message delivered cell within is gives ok err = record {
  given = given_so old.ports from there port message within is gives;
  unsorted = refl;
  ok = ok;
  err = err;
}

-- a message that was delivered has arrived
pub arrives_so : (old : StationView) (from : ℕ) (message : Message) (delivered : Result EnteredView DeliveryFault) (new : StationView)
    → Receives old from message delivered new → Arrives old from message (said_of delivered) new
arrives_so old from message (Ok entered) new received = received
arrives_so old from message (Err fault) new received = received

pub arrives_as : (old : StationView) (from : ℕ) (message : Message) (delivered : Result EnteredView DeliveryFault) (said : Result EnteredView NotTaken) (new : StationView)
    → said ≡ said_of delivered → Receives old from message delivered new → Arrives old from message said new
arrives_as old from message delivered said new is received =
    subst (λ (said : Result EnteredView NotTaken). Arrives old from message said new) (sym is) (arrives_so old from message delivered new received)
