-- What stations received was sent.
use Rattle.std.proofs.Common.{◌≡◌, ◌<◌, ◌==◌, ◌∙◌, ◌⊎◌, ℕ, Bool, true, false, cond, suc, List, [], ◌∷◌, ◌++◌, length, map, get_or, refl, sym, ap, subst, inl, inr, arith}
use Rattle.std.specs.Prelude.{All, Contains}
use Rattle.std.specs.List.{filter, flat_map}
use Rattle.std.proofs.lemmas.List.{get_or-map, length-map}
use Rattle.std.proofs.lemmas.List.Elements.{Contains-append_cases, Contains-append_left, Contains-append_right, Contains-get_or}
use Rattle.std.proofs.lemmas.List.FromFn.{get_or-range_with_len}
use Rattle.atomic_table.specs.Seated.{TableId}
use Rattle.bus.specs.declared.message.Message.{Message}
use Rattle.cluster_config.specs.Config.{ClusterConfig}
use Rattle.link_ends.specs.Ends.{AllArrived, AreWired, EndView, end_at, no_end}
use Rattle.link_ends.specs.Giving.{plain}
use Rattle.links.specs.Ports.{PortView}
use Rattle.links.specs.Stations.{IsStation, StationView, all_sent, all_taken, end_of, for_node, port_at, port_of, sent_by, taken_by}
use Rattle.cell_parts.specs.Journal.{no_cluster}
use Rattle.cell_parts.specs.declared.entry.Entry.{Entry}
use Rattle.cell_parts.specs.declared.entry.Entry.TheVariants.{Step, Skipped}
use Rattle.node_step.specs.State.{first_state}
use Rattle.node_step.specs.declared.event.Event.{Event}
use Rattle.node_step.specs.declared.event.Event.TheVariants.{Open, Close, Request, Deliver, Tick}
use Rattle.single_keyspace.proofs.Lists.{contains_nothing}
use Rattle.tickets.specs.declared.seat.Seat.{Seat}
use Rattle.audit.specs.Gathered.{part_of, parts_of}
use Rattle.audit.specs.Merge.{AllAreSound, AreTaken, IsSound, IsTaken, MayCome, WasSent, journal_of, sent_in}
use Rattle.audit.specs.Stations.{AreInOrder, cells_of, ends_of}
use Rattle.audit.proofs.Merging.{among_flat}
use Rattle.audit.proofs.Stamps.{journal_stamps}

-- ---- lists

-- what is in one of many lists is in one at some place
pub among_many : {A B : Type 0} (f : A → List B) (xs : List A) (x : B) → Contains (flat_map f xs) x → (place : ℕ) × (place < length xs) × ((none : A) → Contains (f (get_or xs place none)) x)
among_many f [] x there = absurd (omega (arith, there.1))
among_many f (first ∷ xs) x there = elim (Contains-append_cases (f first) (flat_map f xs) x there) [
  | inl here ↦ (0, omega arith, λ none. here)
  | inr later ↦ let rest = among_many f xs x later in (suc rest.0, omega (arith, rest.1), λ none. rest.2 none)
]

unfiltered : {A : Type 0} (p : A → Bool) (xs : List A) (x : A) → Contains (filter p xs) x → Contains xs x
unfiltered p [] x there = there
unfiltered p (first ∷ xs) x there = by_first (p first) (unfiltered p xs x) there where
  by_first : (kept : Bool) → (Contains (filter p xs) x → Contains xs x) → Contains (cond kept (first ∷ filter p xs) (filter p xs)) x → Contains (first ∷ xs) x
  by_first true rest there = elim (Contains-append_cases (first ∷ []) (filter p xs) x there) [
    | inl one ↦ Contains-append_left (first ∷ []) xs x one
    | inr later ↦ Contains-append_right (first ∷ []) xs x (rest later)
  ]
  by_first false rest there = Contains-append_right (first ∷ []) xs x (rest there)

same_sent : (entry : Entry) → sent_by entry ≡ sent_in entry
same_sent (Step event outputs) = refl
same_sent (Skipped ticket) = refl

-- ---- stations in the order of their nodes

abbrev pub no_station : StationView
no_station = record {
  cell = record { config = no_cluster; node = 0; state = first_state no_cluster 0; journal = []; undelivered = []; outbox = [] };
  ports = [];
  unsorted = [];
}

module _ (links : ℕ → ℕ → TableId) (config : ClusterConfig) (stations : List StationView) (each : All (IsStation links) stations)
    (configs : All (λ (station : StationView). station.cell.config ≡ config) stations) (order : AreInOrder (length config.nodes) stations) where
  abbrev pub at : ℕ → StationView
  at place = get_or stations place no_station

  abbrev pub all_ends : List (List (EndView Message))
  all_ends = map ends_of stations

  abbrev pub count : ℕ
  count = length config.nodes

  inside : (place : ℕ) → place < count → place < length stations
  inside place within = subst (λ (n : ℕ). place < n) (sym order.1) within

  node_at : (place : ℕ) → place < count → (at place).cell.node ≡ place
  node_at place within =
      sym (get_or-map (λ (station : StationView). station.cell.node) stations place no_station 0 (inside place within))
      ∙ ap (λ (numbers : List ℕ). get_or numbers place 0) order.2 ∙ get_or-range_with_len 0 (length config.nodes) place 0 within ∙ omega arith

  is_at : (place : ℕ) → place < count → IsStation links (at place)
  is_at place within = each place no_station (inside place within)

  ports_at : (place : ℕ) → place < count → length (at place).ports ≡ count
  ports_at place within = (is_at place within).count ∙ ap (λ (config : ClusterConfig). length config.nodes) (configs place no_station (inside place within))

  row_at : (place : ℕ) → place < count → get_or all_ends place [] ≡ ends_of (at place)
  row_at place within = get_or-map ends_of stations place no_station [] (inside place within)

  the_end : (node other : ℕ) (none : EndView Message) → node < count → other < count → end_at all_ends node other none ≡ end_of (port_at (at node).ports other (port_of (plain none)))
  the_end node other none here there =
      ap (λ (row : List (EndView Message)). get_or row other none) (row_at node here)
      ∙ get_or-map end_of (at node).ports other (port_of (plain none)) none (subst (λ (n : ℕ). other < n) (sym (ports_at node here)) there)

  counted : length all_ends ≡ count
  counted = length-map stations ends_of ∙ order.1

  below : (node : ℕ) → node < length all_ends → node < count
  below node within = subst (λ (n : ℕ). node < n) counted within

  pub wired : AreWired (length all_ends) all_ends
  wired = record {
    nodes = refl;
    others = λ node within. ap length (row_at node (below node within)) ∙ length-map (at node).ports end_of ∙ ports_at node (below node within) ∙ sym counted;
    linked = λ node other none nothing inner outer.
        let here = below node inner in
        let there = below other outer in
        let own = (is_at node here).are_ports other (port_of (plain none)) (subst (λ (n : ℕ). other < n) (sym (ports_at node here)) there) in
        let theirs = (is_at other there).are_ports node (port_of (plain nothing)) (subst (λ (n : ℕ). node < n) (sym (ports_at other there)) here) in
        ap (λ (end : EndView Message). end.to) (the_end node other none here there) ∙ own.to ∙ ap (λ (n : ℕ). links n other) (node_at node here)
        ∙ sym (ap (λ (end : EndView Message). end.from) (the_end other node nothing there here) ∙ theirs.from ∙ ap (λ (n : ℕ). links node n) (node_at other there));
  }

  -- what a node took, an entry of a node sent
  pub record HasSent (message : Message) : Type 0 where
    pub sender : ℕ
    pub within : sender < count
    pub entry : Entry
    pub among : Contains (at sender).cell.journal entry
    pub sent : Contains (sent_in entry) message

  pub taken_was_sent : AllArrived (length all_ends) all_ends → (node : ℕ) → node < count → (message : Message) → Contains (all_taken (at node).cell.journal) message → HasSent message
  taken_was_sent arrived node here message taken =
      let at_port = among_many (λ (port : PortView). port.received) (at node).ports message ((is_at node here).received message taken) in
      let sender = at_port.0 in
      let there : sender < count = subst (λ (n : ℕ). sender < n) (ports_at node here) at_port.1 in
      let came = arrived sender node no_end no_end (subst (λ (n : ℕ). sender < n) (sym counted) there) (subst (λ (n : ℕ). node < n) (sym counted) here) in
      let port = port_at (at sender).ports node (port_of (plain no_end)) in
      let received : Contains (end_at all_ends node sender no_end).received message =
      subst (λ (end : EndView Message). Contains end.received message) (sym (the_end node sender no_end here there)) (at_port.2 (port_of (plain no_end))) in
      let sent : Contains port.sent message =
      subst (λ (end : EndView Message). Contains end.sent message) (the_end sender node no_end there here)
      (subst (λ (all : List Message). Contains all message) (sym came.1) (Contains-append_left (end_at all_ends node sender no_end).received came.0 message received)) in
      let own = (is_at sender there).are_ports node (port_of (plain no_end)) (subst (λ (n : ℕ). node < n) (sym (ports_at sender there)) here) in
      let coming = (at sender).unsorted ++ (at sender).cell.outbox in
      let of_journal : Contains (for_node node (all_sent (at sender).cell.journal)) message =
      subst (λ (all : List Message). Contains all message) own.in_order (Contains-append_left port.sent (port.waiting ++ for_node node coming) message sent) in
      let found = among_many sent_by (at sender).cell.journal message (unfiltered (λ (m : Message). m.to == node) (all_sent (at sender).cell.journal) message of_journal) in
      let entry = get_or (at sender).cell.journal found.0 (Skipped 0) in
      record {
        sender = sender;
        within = there;
        entry = entry;
        among = Contains-get_or (at sender).cell.journal found.0 (Skipped 0) found.1;
        sent = subst (λ (all : List Message). Contains all message) (same_sent entry) (found.2 (Skipped 0));
      }

  -- ---- so journals are sound

  module _ (table : TableId) (seat_count : ℕ) (journals : List (List Entry)) (seats : List Seat) (arrived : AllArrived (length all_ends) all_ends)
      (taken : AreTaken config table seat_count (parts_of (cells_of stations)) count journals seats []) where
    part_at : (node : ℕ) → node < count → get_or (parts_of (cells_of stations)) node (part_of (at node).cell) ≡ part_of (at node).cell
    part_at node here =
        get_or-map part_of (cells_of stations) node (at node).cell (part_of (at node).cell) (subst (λ (n : ℕ). node < n) (sym (length-map stations (λ (station : StationView). station.cell))) (inside node here))
        ∙ ap part_of (get_or-map (λ (station : StationView). station.cell) stations node no_station (at node).cell (inside node here))

    among_parts : (node : ℕ) → node < count → Contains (parts_of (cells_of stations)) (part_of (at node).cell)
    among_parts node here = (
      node,
      subst (λ (n : ℕ). node < n) (sym (length-map (cells_of stations) part_of ∙ length-map stations (λ (station : StationView). station.cell))) (inside node here),
      part_at node here,
    )

    journal_at : (node : ℕ) → node < count → journal_of journals node ≡ (at node).cell.journal
    journal_at node here = by_kept (taken.kept (part_of (at node).cell) (among_parts node here)) where
      by_kept : IsTaken count journals (part_of (at node).cell) ⊎ Contains [] (part_of (at node).cell) → journal_of journals node ≡ (at node).cell.journal
      by_kept (inl is) = sym (ap (λ (n : ℕ). journal_of journals n) (node_at node here)) ∙ is.is
      by_kept (inr none) = absurd (contains_nothing (part_of (at node).cell) none)

    was_sent : (message : Message) → HasSent message → WasSent journals message
    was_sent message has =
        let journal = journal_at has.sender has.within in
        let of_node = taken.nodes has.sender has.within in
        let among : Contains (journal_of journals has.sender) has.entry = subst (λ (entries : List Entry). Contains entries has.entry) (sym journal) has.among in
        let stamp = journal_stamps (first_state config has.sender) of_node.last (journal_of journals has.sender) of_node.history has.entry among message has.sent in
        record {
          sender = subst (λ (n : ℕ). n < length journals) (sym stamp.from) (subst (λ (n : ℕ). has.sender < n) (sym taken.all) has.within);
          entry = has.entry;
          among = subst (λ (n : ℕ). Contains (journal_of journals n) has.entry) (sym stamp.from) among;
          under = sym stamp.under;
          sent = has.sent;
        }

    sound_at : (node : ℕ) → node < count → (entry : Entry) → Contains (at node).cell.journal entry → IsSound journals entry
    sound_at node here (Skipped ticket) among = tt
    sound_at node here (Step event outputs) among = by_event event among where
      by_event : (event : Event) → Contains (at node).cell.journal (Step event outputs) → MayCome journals event
      by_event Open among = tt
      by_event (Close conn) among = tt
      by_event (Request conn words) among = tt
      by_event (Deliver message) among =
          was_sent message (taken_was_sent arrived node here message
          (among_flat taken_by (at node).cell.journal (Step (Deliver message) outputs) message among (0, omega arith, refl)))
      by_event Tick among = tt

    pub all_sound : AllAreSound journals
    all_sound node within =
        let here : node < count = subst (λ (n : ℕ). node < n) taken.all within in
        λ place none below. sound_at node here (get_or (journal_of journals node) place none)
        (subst (λ (entries : List Entry). Contains entries (get_or (journal_of journals node) place none)) (journal_at node here) (Contains-get_or (journal_of journals node) place none below))
