-- What a station's type keeps is kept by each thing that it does.
use Rattle.std.proofs.Common.{◌≡◌, ◌≢◌, ◌<◌, ◌≤◌, ◌==◌, ℕ, Bool, true≢false, cond, List, [], ◌∷◌, ◌++◌, length, map, set, refl, sym, ap, subst, ◌∙◌, inl, inr, arith, append_assoc, append-nil}
use Rattle.std.specs.Prelude.{Contains, slice_index_or, IfErr, IfOk, Result, Ok, Err, zero, suc}
use Rattle.std.specs.List.{flat_map}
use Rattle.std.proofs.lemmas.Bool.{cases_Bool, eqb-true, eq-eqb}
use Rattle.std.proofs.lemmas.Grind.{flat_map-append}
use Rattle.std.proofs.lemmas.List.{get_or-map, get_or-set_other, get_or-set_same, length-map, length-set}
use Rattle.std.proofs.lemmas.List.Elements.{Contains-append_cases, Contains-append_left, Contains-append_right, Contains-push_cases, at_from_Contains, filter-append}
use Rattle.atomic_table.specs.Seated.{TableId}
use Rattle.bus.specs.declared.message.Message.{Message}
use Rattle.cluster_config.specs.Config.{ClusterConfig}
use Rattle.link_ends.specs.Giving.{GivingView}
use Rattle.links.specs.Ports.{HasGiven, HasGivenNone, HasMore, HasSent, PortView}
use Rattle.link_ends.specs.Ends.{AreEndsOf, EndView}
use Rattle.links.specs.Stations.{IsPort, IsStation, StationView, all_sent, all_taken, end_of, for_node, port_at, port_of, sent_by, taken_by, taken_in}
use Rattle.cell_parts.specs.Journal.{CellView, EnteredView, Enters, IsNotTaken, IsRefused, IsTooEarly}
use Rattle.cell_parts.specs.declared.delivery.DeliveryFault.{DeliveryFault}
use Rattle.cell_parts.specs.declared.delivery.DeliveryFault.TheVariants.{Refused, Early}
use Rattle.cell_parts.specs.declared.entry.Entry.{Entry}
use Rattle.cell_parts.specs.declared.entry.Entry.TheVariants.{Step, Skipped}
use Rattle.node_gate.specs.Asks.{IsOwn}
use Rattle.node_step.specs.declared.event.Event.{Event}
use Rattle.node_step.specs.declared.event.Event.TheVariants.{Open, Close, Request, Deliver, Tick}
use Rattle.step_fault.specs.declared.fault.StepFault.{StepFault}

abbrev pub all_received : List PortView → List Message
all_received ports = flat_map (λ (port : PortView). port.received) ports

-- ---- lists of messages

nowhere : (message : Message) → Contains [] message → ⊥
nowhere message there = let at = at_from_Contains [] message there in absurd (omega (arith, at.1))

-- what one more entry sent and took stands behind the rest
all_sent-more : (journal : List Entry) (entry : Entry) → all_sent (journal ++ entry ∷ []) ≡ all_sent journal ++ sent_by entry
all_sent-more journal entry = flat_map-append sent_by journal (entry ∷ []) ∙ ap (λ (last : List Message). all_sent journal ++ last) (append-nil (sent_by entry))

all_taken-more : (journal : List Entry) (entry : Entry) → all_taken (journal ++ entry ∷ []) ≡ all_taken journal ++ taken_by entry
all_taken-more journal entry = flat_map-append taken_by journal (entry ∷ []) ∙ ap (λ (last : List Message). all_taken journal ++ last) (append-nil (taken_by entry))

-- what comes behind what is coming is behind all
behind_all : (number : ℕ) (sent waiting coming more whole : List Message) → sent ++ (waiting ++ for_node number coming) ≡ for_node number whole
    → sent ++ (waiting ++ for_node number (coming ++ more)) ≡ for_node number (whole ++ more)
behind_all number sent waiting coming more whole is =
    let own = λ (message : Message). message.to == number in
    ap (λ (rest : List Message). sent ++ (waiting ++ rest)) (filter-append own coming more)
    ∙ ap (λ (rest : List Message). sent ++ rest) (sym (append_assoc waiting (for_node number coming) (for_node number more)))
    ∙ sym (append_assoc sent (waiting ++ for_node number coming) (for_node number more))
    ∙ ap (λ (all : List Message). all ++ for_node number more) is
    ∙ sym (filter-append own whole more)

for_it : (number : ℕ) (message : Message) (rest : List Message) → message.to ≡ number → for_node number (message ∷ rest) ≡ message ∷ for_node number rest
for_it number message rest is = ap (λ (b : Bool). cond b (message ∷ for_node number rest) (for_node number rest)) (ap (λ (n : ℕ). n == number) is ∙ eq-eqb number number refl)

not_for_it : (number : ℕ) (message : Message) (rest : List Message) → message.to ≢ number → for_node number (message ∷ rest) ≡ for_node number rest
not_for_it number message rest other = elim (cases_Bool (message.to == number)) [
  | inl is ↦ absurd (other (eqb-true message.to number is))
  | inr isnt ↦ ap (λ (b : Bool). cond b (message ∷ for_node number rest) (for_node number rest)) isnt
]

-- ---- one more entry

-- a step or a skip is entered, and what it took was received
pub with_entry : (links : ℕ → ℕ → TableId) (station : StationView) (after : CellView) (entry : Entry) → IsStation links station
    → after.config ≡ station.cell.config → after.node ≡ station.cell.node → after.journal ≡ station.cell.journal ++ entry ∷ []
    → after.outbox ≡ station.cell.outbox ++ sent_by entry
    → ((message : Message) → Contains (taken_by entry) message → Contains (all_received station.ports) message) → IsStation links (record station { cell = after })
with_entry links station after entry is config node journal outbox took =
    let whole : all_sent after.journal ≡ all_sent station.cell.journal ++ sent_by entry = ap all_sent journal ∙ all_sent-more station.cell.journal entry in
    let coming : station.unsorted ++ after.outbox ≡ (station.unsorted ++ station.cell.outbox) ++ sent_by entry =
    ap (λ (outbox : List Message). station.unsorted ++ outbox) outbox ∙ sym (append_assoc station.unsorted station.cell.outbox (sent_by entry)) in
    record {
      count = is.count ∙ ap length (ap (λ (config : ClusterConfig). config.nodes) (sym config));
      are_ports = λ other none within.
          let port = is.are_ports other none within in
          let at = port_at station.ports other none in
          record {
            to = port.to ∙ ap (λ (number : ℕ). links number other) (sym node);
            from = port.from ∙ ap (λ (number : ℕ). links other number) (sym node);
            in_order = ap (λ (all : List Message). at.sent ++ (at.waiting ++ for_node other all)) coming
                ∙ behind_all other at.sent at.waiting (station.unsorted ++ station.cell.outbox) (sent_by entry) (all_sent station.cell.journal) port.in_order
                ∙ ap (λ (all : List Message). for_node other all) (sym whole);
          };
      received = λ message there. elim (Contains-append_cases (all_taken station.cell.journal) (taken_by entry) message
          (subst (λ (all : List Message). Contains all message) (ap all_taken journal ∙ all_taken-more station.cell.journal entry) there)) [
            | inl before ↦ is.received message before
            | inr last ↦ took message last
          ];
    }

-- the cell has another state, and the same journal and outbox
pub with_same_journal : (links : ℕ → ℕ → TableId) (station : StationView) (after : CellView) → IsStation links station
    → after.config ≡ station.cell.config → after.node ≡ station.cell.node → after.journal ≡ station.cell.journal → after.outbox ≡ station.cell.outbox
    → IsStation links (record station { cell = after })
with_same_journal links station after is config node journal outbox = record {
  count = is.count ∙ ap length (ap (λ (config : ClusterConfig). config.nodes) (sym config));
  are_ports = λ other none within. rw (node, journal, outbox) (is.are_ports other none within);
  received = λ message there. is.received message (subst (λ (all : List Message). Contains all message) (ap all_taken journal) there);
}

-- ---- a port is changed

-- what was received at the ports is received there when one has received no less
keeps_received : (ports : List PortView) (place : ℕ) (port none : PortView) (message : Message) → place < length ports
    → (Contains (port_at ports place none).received message → Contains port.received message) → Contains (all_received ports) message
    → Contains (all_received (set ports place port)) message
keeps_received [] place port none message within more there = absurd (omega (arith, within))
keeps_received (first ∷ ports) zero port none message within more there = elim (Contains-append_cases first.received (all_received ports) message there) [
  | inl here ↦ Contains-append_left port.received (all_received ports) message (more here)
  | inr later ↦ Contains-append_right port.received (all_received ports) message later
]
keeps_received (first ∷ ports) (suc place) port none message within more there = elim (Contains-append_cases first.received (all_received ports) message there) [
  | inl here ↦ Contains-append_left first.received (all_received (set ports place port)) message here
  | inr later ↦ Contains-append_right first.received (all_received (set ports place port)) message (keeps_received ports place port none message (omega (arith, within)) more later)
]

received_there : (ports : List PortView) (place : ℕ) (port : PortView) (message : Message) → place < length ports → Contains port.received message
    → Contains (all_received (set ports place port)) message
received_there [] place port message within there = absurd (omega (arith, within))
received_there (first ∷ ports) zero port message within there = Contains-append_left port.received (all_received ports) message there
received_there (first ∷ ports) (suc place) port message within there =
    Contains-append_right first.received (all_received (set ports place port)) message (received_there ports place port message (omega (arith, within)) there)

-- a port is as good a port as before, for what is coming now, and so is each other
with_port : (links : ℕ → ℕ → TableId) (station : StationView) (place : ℕ) (port none : PortView) (unsorted : List Message) → IsStation links station → place < length station.ports
    → IsPort links station.cell.node place (unsorted ++ station.cell.outbox) station.cell.journal port
    → ((message : Message) → Contains (port_at station.ports place none).received message → Contains port.received message)
    → ((other : ℕ) → other ≢ place → for_node other (unsorted ++ station.cell.outbox) ≡ for_node other (station.unsorted ++ station.cell.outbox))
    → IsStation links (record station { ports = set station.ports place port; unsorted = unsorted })
with_port links station place port none unsorted is within own more others = record {
  count = length-set station.ports place port ∙ is.count;
  are_ports = λ other nothing inside. elim (cases_Bool (other == place)) [
    | inl same ↦ let here : other ≡ place = eqb-true other place same in
        subst (λ (number : ℕ). IsPort links station.cell.node number (unsorted ++ station.cell.outbox) station.cell.journal (port_at (set station.ports place port) number nothing)) (sym here)
        (subst (IsPort links station.cell.node place (unsorted ++ station.cell.outbox) station.cell.journal) (sym (get_or-set_same station.ports place port nothing within)) own)
    | inr differs ↦
        let apart : other ≢ place = λ same. absurd (true≢false (sym (ap (λ (n : ℕ). n == place) same ∙ eq-eqb place place refl) ∙ differs)) in
        let was = is.are_ports other nothing (subst (λ (count : ℕ). other < count) (length-set station.ports place port) inside) in
        subst (IsPort links station.cell.node other (unsorted ++ station.cell.outbox) station.cell.journal) (sym (get_or-set_other station.ports place other port nothing apart))
        (record {
          to = was.to;
          from = was.from;
          in_order = ap (λ (coming : List Message). (port_at station.ports other nothing).sent ++ ((port_at station.ports other nothing).waiting ++ coming)) (others other apart) ∙ was.in_order;
        })
  ];
  received = λ message there. keeps_received station.ports place port none message within (more message) (is.received message there);
}

-- messages are received
with_received : (links : ℕ → ℕ → TableId) (station : StationView) (from : ℕ) (none port : PortView) (more given : List Message) → IsStation links station → from < length station.ports
    → port ≡ record (port_at station.ports from none) { received = (port_at station.ports from none).received ++ more; given = given }
    → IsStation links (record station { ports = set station.ports from port })
with_received links station from none port more given is within received =
    let was = is.are_ports from none within in
    let old = port_at station.ports from none in
    with_port links station from port none station.unsorted is within
    (record {
      to = ap (λ (port : PortView). port.to) received ∙ was.to;
      from = ap (λ (port : PortView). port.from) received ∙ was.from;
      in_order = ap (λ (port : PortView). port.sent ++ (port.waiting ++ for_node from (station.unsorted ++ station.cell.outbox))) received ∙ was.in_order;
    })
    (λ other there. subst (λ (all : List Message). Contains all other) (sym (ap (λ (port : PortView). port.received) received)) (Contains-append_left old.received more other there))
    (λ other apart. refl)

pub with_given : (links : ℕ → ℕ → TableId) (station : StationView) (from : ℕ) (none port : PortView) (message : Message) → IsStation links station → from < length station.ports
    → HasGiven (port_at station.ports from none) message port → IsStation links (record station { ports = set station.ports from port })
with_given links station from none port message is within gives =
    with_received links station from none port gives.more ((port_at station.ports from none).given ++ message ∷ []) is within gives.is

pub with_none_given : (links : ℕ → ℕ → TableId) (station : StationView) (from : ℕ) (none port : PortView) → IsStation links station → from < length station.ports
    → HasGivenNone (port_at station.ports from none) port → IsStation links (record station { ports = set station.ports from port })
with_none_given links station from none port is within gives = with_received links station from none port gives.more (port_at station.ports from none).given is within gives.is

-- what was given was received
is_received : (ports : List PortView) (from : ℕ) (old port : PortView) (message : Message) → from < length ports → HasGiven old message port
    → Contains (all_received (set ports from port)) message
is_received ports from old port message within gives =
    received_there ports from port message within (subst (λ (all : List Message). Contains all message) (sym (ap (λ (port : PortView). port.received) gives.is)) gives.came)

-- messages are sent
pub with_sent : (links : ℕ → ℕ → TableId) (station : StationView) (to : ℕ) (none port : PortView) → IsStation links station → to < length station.ports
    → HasSent (port_at station.ports to none) port → IsStation links (record station { ports = set station.ports to port })
with_sent links station to none port is within sent =
    let was = is.are_ports to none within in
    let old = port_at station.ports to none in
    let coming = for_node to (station.unsorted ++ station.cell.outbox) in
    with_port links station to port none station.unsorted is within
    (record {
      to = ap (λ (port : PortView). port.to) sent.rest ∙ was.to;
      from = ap (λ (port : PortView). port.from) sent.rest ∙ was.from;
      in_order = sym (append_assoc port.sent port.waiting coming) ∙ ap (λ (all : List Message). all ++ coming) sent.in_order
          ∙ append_assoc old.sent old.waiting coming ∙ was.in_order;
    })
    (λ message there. subst (λ (all : List Message). Contains all message) (sym (ap (λ (port : PortView). port.received) sent.rest)) there)
    (λ other apart. refl)

-- ---- messages of a step come to their ports

-- the first of them comes to its port
pub with_one_sorted : (links : ℕ → ℕ → TableId) (station : StationView) (to : ℕ) (none port : PortView) (first : Message) (rest left : List Message) → IsStation links station
    → to < length station.ports → station.unsorted ≡ first ∷ rest → first.to ≡ to → HasMore (port_at station.ports to none) station.unsorted port left
    → IsStation links (record station { ports = set station.ports to port; unsorted = left })
with_one_sorted links station to none port first rest left is within unsorted for_this more =
    let old = port_at station.ports to none in
    let has_more : HasMore old (first ∷ rest) port left = subst (λ (all : List Message). HasMore old all port left) unsorted more in
    let was = is.are_ports to none within in
    let outbox = station.cell.outbox in
    let coming : station.unsorted ++ outbox ≡ first ∷ (left ++ outbox) = ap (λ (all : List Message). all ++ outbox) unsorted ∙ ap (λ (rest : List Message). first ∷ (rest ++ outbox)) (sym has_more.1) in
    with_port links station to port none left is within
    (record {
      to = ap (λ (port : PortView). port.to) has_more.0 ∙ was.to;
      from = ap (λ (port : PortView). port.from) has_more.0 ∙ was.from;
      in_order = ap (λ (port : PortView). port.sent ++ (port.waiting ++ for_node to (left ++ outbox))) has_more.0
          ∙ ap (λ (rest : List Message). old.sent ++ rest) (append_assoc old.waiting (first ∷ []) (for_node to (left ++ outbox)))
          ∙ ap (λ (rest : List Message). old.sent ++ (old.waiting ++ rest)) (sym (for_it to first (left ++ outbox) for_this))
          ∙ ap (λ (all : List Message). old.sent ++ (old.waiting ++ for_node to all)) (sym coming)
          ∙ was.in_order;
    })
    (λ message there. subst (λ (all : List Message). Contains all message) (sym (ap (λ (port : PortView). port.received) has_more.0)) there)
    (λ other apart. sym (ap (λ (all : List Message). for_node other all) coming ∙ not_for_it other first (left ++ outbox) (λ same. apart (sym same ∙ for_this))))

-- one for no node of the cluster is let go
pub with_one_let_go : (links : ℕ → ℕ → TableId) (station : StationView) (first : Message) (rest : List Message) → IsStation links station → station.unsorted ≡ first ∷ rest
    → length station.ports ≤ first.to → IsStation links (record station { unsorted = rest })
with_one_let_go links station first rest is unsorted beyond = record {
  count = is.count;
  are_ports = λ other none within.
      let was = is.are_ports other none within in
      let old = port_at station.ports other none in
      record {
        to = was.to;
        from = was.from;
        in_order = ap (λ (coming : List Message). old.sent ++ (old.waiting ++ coming))
            (sym (ap (λ (all : List Message). for_node other (all ++ station.cell.outbox)) unsorted ∙ not_for_it other first (rest ++ station.cell.outbox) (λ same. absurd (omega (arith, within, beyond, same)))))
            ∙ was.in_order;
      };
  received = is.received;
}

-- those of the next step are taken out of the cell
pub with_step_taken : (links : ℕ → ℕ → TableId) (station : StationView) (after : CellView) (sending : List Message) → IsStation links station → station.unsorted ≡ []
    → station.cell.outbox ≡ sending ++ after.outbox → after ≡ record station.cell { outbox = after.outbox } → IsStation links (record station { cell = after; unsorted = sending })
with_step_taken links station after sending is none outbox rest = record {
  count = is.count ∙ ap (λ (cell : CellView). length cell.config.nodes) (sym rest);
  are_ports = λ other nothing within.
      let was = is.are_ports other nothing within in
      let coming : station.unsorted ++ station.cell.outbox ≡ sending ++ after.outbox = ap (λ (first : List Message). first ++ station.cell.outbox) none ∙ outbox in
      let node : after.node ≡ station.cell.node = ap (λ (cell : CellView). cell.node) rest in
      let journal : after.journal ≡ station.cell.journal = ap (λ (cell : CellView). cell.journal) rest in
      rw (node, journal, sym coming) was;
  received = λ message there. is.received message (subst (λ (all : List Message). Contains all message) (ap (λ (cell : CellView). all_taken cell.journal) rest) there);
}

-- ---- what becomes of an event

-- a refused event leaves what was sent and taken
pub with_refusal : (links : ℕ → ℕ → TableId) (station : StationView) (event : Event) (fault : StepFault) (after : CellView) → IsStation links station
    → IsRefused station.cell event fault after → IsStation links (record station { cell = after })
with_refusal links station event fault after is (inl away) =
    subst (λ (cell : CellView). IsStation links (record station { cell = cell })) (sym away.unchanged) is
with_refusal links station event fault after is (inr skipped) =
    with_entry links station after (Skipped skipped.ticket) is (ap (λ (cell : CellView). cell.config) skipped.rest) (ap (λ (cell : CellView). cell.node) skipped.rest)
    skipped.skips.entry (ap (λ (cell : CellView). cell.outbox) skipped.rest ∙ sym (append-nil station.cell.outbox)) (λ message there. absurd (nowhere message there))

-- a step that was made, for an event whose message was received
pub with_step : (links : ℕ → ℕ → TableId) (station : StationView) (event : Event) (entered : EnteredView) (after : CellView) → IsStation links station
    → Enters station.cell event entered after → ((message : Message) → Contains (taken_in event) message → Contains (all_received station.ports) message)
    → IsStation links (record station { cell = after })
with_step links station event entered after is enters took =
    with_entry links station after (Step entered.event entered.outputs) is (ap (λ (cell : CellView). cell.config) enters.rest) (ap (λ (cell : CellView). cell.node) enters.rest)
    enters.makes.entry enters.outbox (λ message there. took message (subst (λ (of : Event). Contains (taken_in of) message) enters.makes.of there))

-- who asks brings no message
none_taken : (event : Event) (message : Message) → IsOwn event → Contains (taken_in event) message → ⊥
none_taken Open message own there = nowhere message there
none_taken (Close conn) message own there = nowhere message there
none_taken (Request conn words) message own there = nowhere message there
none_taken (Deliver taken) message own there = absurd own
none_taken Tick message own there = nowhere message there

pub after_ask : (links : ℕ → ℕ → TableId) (station : StationView) (event : Event) (result : Result EnteredView StepFault) (after : CellView) → IsStation links station → IsOwn event
    → IfOk result (λ entered. Enters station.cell event entered after) → IfErr result (λ fault. IsRefused station.cell event fault after)
    → IsStation links (record station { cell = after })
after_ask links station event (Ok entered) after is own made refused = with_step links station event entered after is made (λ message there. absurd (none_taken event message own there))
after_ask links station event (Err fault) after is own made refused = with_refusal links station event fault after is refused

early : (links : ℕ → ℕ → TableId) (station : StationView) (event : Event) (after : CellView) → IsStation links station → IsTooEarly station.cell event after
    → IsStation links (record station { cell = after })
early links station event after is too_early =
    with_entry links station after (Skipped too_early.ticket) is (ap (λ (cell : CellView). cell.config) too_early.rest) (ap (λ (cell : CellView). cell.node) too_early.rest)
    too_early.entry (ap (λ (cell : CellView). cell.outbox) too_early.rest ∙ sym (append-nil station.cell.outbox)) (λ message there. absurd (nowhere message there))

not_taken : (links : ℕ → ℕ → TableId) (station : StationView) (event : Event) (fault : DeliveryFault) (after : CellView) → IsStation links station → IsNotTaken station.cell event fault after
    → IsStation links (record station { cell = after })
not_taken links station event (Refused fault) after is refused = with_refusal links station event fault after is refused
not_taken links station event Early after is too_early = early links station event after is too_early

-- a message was given, and delivered
pub after_delivery : (links : ℕ → ℕ → TableId) (station : StationView) (from : ℕ) (none port : PortView) (message : Message) (result : Result EnteredView DeliveryFault) (after : CellView)
    → IsStation links station → from < length station.ports → HasGiven (port_at station.ports from none) message port
    → IfOk result (λ entered. Enters station.cell (Deliver message) entered after) → IfErr result (λ fault. IsNotTaken station.cell (Deliver message) fault after)
    → IsStation links (record station { cell = after; ports = set station.ports from port })
after_delivery links station from none port message (Ok entered) after is within gives made refused =
    with_step links (record station { ports = set station.ports from port }) (Deliver message) entered after
    (with_given links station from none port message is within gives) made (λ other there. one_of_one other there)
  where
    one_of_one : (other : Message) → Contains (message ∷ []) other → Contains (all_received (set station.ports from port)) other
    one_of_one other there = elim (Contains-push_cases [] message other there) [
      | inl nothing ↦ absurd (nowhere other nothing)
      | inr same ↦ subst (λ (one : Message). Contains (all_received (set station.ports from port)) one) same
          (is_received station.ports from (port_at station.ports from none) port message within gives)
    ]
after_delivery links station from none port message (Err fault) after is within gives made refused =
    not_taken links (record station { ports = set station.ports from port }) (Deliver message) fault after (with_given links station from none port message is within gives) refused

-- ---- how a station begins

abbrev pub end_in : GivingView Message → EndView Message
end_in giving = giving.end

-- nothing was done yet, and no end was used
pub begins_so : (links : ℕ → ℕ → TableId) (cell : CellView) (ends : List (GivingView Message)) (ports : List PortView) (unsorted : List Message) → cell.journal ≡ [] → cell.outbox ≡ []
    → AreEndsOf links cell.node (length cell.config.nodes) (map end_in ends) → ports ≡ map port_of ends → unsorted ≡ [] → IsStation links (record { cell = cell; ports = ports; unsorted = unsorted })
begins_so links cell ends ports unsorted journal outbox are ports_are none = rw (ports_are, none) (record {
  count = length-map ends port_of ∙ sym (length-map ends end_in) ∙ are.whole;
  are_ports = λ other nothing within.
      let inside : other < length ends = subst (λ (count : ℕ). other < count) (length-map ends port_of) within in
      let no_end : GivingView Message = record { end = end_of nothing; given = [] } in
      let end : EndView Message = (slice_index_or ends other no_end).end in
      let is = are.are_ends other (end_of nothing) (subst (λ (count : ℕ). other < count) (sym (length-map ends end_in) ∙ are.whole) inside) in
      let end_is : slice_index_or (map end_in ends) other (end_of nothing) ≡ end = get_or-map end_in ends other no_end (end_of nothing) inside in
      let at : port_at (map port_of ends) other nothing ≡ port_of (slice_index_or ends other no_end) = get_or-map port_of ends other no_end nothing inside in
      subst (IsPort links cell.node other ([] ++ cell.outbox) cell.journal) (sym at) (record {
        to = ap (λ (end : EndView Message). end.to) (sym end_is) ∙ is.to;
        from = ap (λ (end : EndView Message). end.from) (sym end_is) ∙ is.from;
        in_order = ap (λ (sent : List Message). sent ++ ([] ++ for_node other ([] ++ cell.outbox))) (ap (λ (end : EndView Message). end.sent) (sym end_is) ∙ is.unused.sent)
            ∙ ap (λ (coming : List Message). for_node other coming) outbox
            ∙ ap (λ (journal : List Entry). for_node other (all_sent journal)) (sym journal);
      });
  received = λ message there. absurd (nowhere message (subst (λ (journal : List Entry). Contains (all_taken journal) message) journal there));
})
