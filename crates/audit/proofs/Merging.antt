-- Journals that have each number once are a run, merged by their tickets.
use Rattle.std.proofs.Common.{◌≡◌, ◌≢◌, ◌+◌, ◌<◌, ◌≤◌, ◌∙◌, ℕ, zero, suc, Bool, true, false, cond, List, [], ◌∷◌, length, map, All, Contains, Option, Some, None, refl, sym, ap, subst, inl, inr, arith}
use Rattle.std.proofs.lemmas.Bool.{cases_eq, eq-eqb, lt-ltb, ltb-true, ne_eqb}
use Rattle.std.proofs.lemmas.List.Elements.{All-cons, All-head, All-nil, All-tail, Contains-append_left, Contains-append_right}
use Rattle.std.specs.List.{cons_option, filter_map, find, flat_map, range_with_len}
use Rattle.std.specs.Prelude.{nat_lt, option_map, ⊤}
use Rattle.bus.specs.declared.message.Message.{Message}
use Rattle.cluster_config.specs.Config.{ClusterConfig}
use Rattle.merged_run.proofs.Merging.{merged_is_run}
use Rattle.merged_run.specs.Merged.{AllWereSent, IsJournalFrom, LeadsTo, MayHappenIn, entries_of}
use Rattle.cell_parts.specs.Journal.{IsHistory, Leads, comes_in_time, ticket_of}
use Rattle.cell_parts.specs.declared.entry.Entry.{Entry as JournalEntry}
use Rattle.cell_parts.specs.declared.entry.Entry.TheVariants as journal
use Rattle.node_step.specs.State.{NodeState, first_state}
use Rattle.node_step.specs.declared.event.Event.TheVariants.{Open, Close, Request, Deliver, Tick}
use Rattle.single_keyspace.proofs.Lists.{contains_first, contains_more, contains_nothing, first_or_more}
use Rattle.single_keyspace.proofs.Seen.{no_some, same_some}
use Rattle.world_run.specs.Run.{Deed, Entry, sent_by}
use Rattle.world_run.specs.Run as run
use Rattle.world_run.specs.Run.Deed.{Made, Skipped}
use Rattle.audit.specs.Law.{IsMerge, IsNumbered, JournalsAreARun}
use Rattle.audit.specs.Merge.{AreJournals, IsOfNode, IsSound, WasSent, entry_under, has_ticket, journal_of, merged, placed, sent_in}
use Rattle.audit.proofs.Rising.{IsWithin, all_found, among_counts, found_among, found_is_among, found_ticket}
use Rattle.audit.proofs.Under.{IsFound, counted, counted_at, found_somewhere, placed_node, placed_ticket, under_is, under_of}

-- ---- lists

each_entry : {A : Type 0} (P : A → Type 0) (xs : List A) (x : A) → All P xs → Contains xs x → P x
each_entry P [] x all among = absurd (contains_nothing x among)
each_entry P (first ∷ xs) x all among =
    elim (first_or_more first x xs among) [
      | inl same ↦ subst P same (All-head P first xs all)
      | inr more ↦ each_entry P xs x (All-tail P first xs all) more
    ]

pub among_flat : {A B : Type 0} (f : A → List B) (xs : List A) (x : A) (y : B) → Contains xs x → Contains (f x) y → Contains (flat_map f xs) y
among_flat f [] x y among here = absurd (contains_nothing x among)
among_flat f (first ∷ xs) x y among here =
    elim (first_or_more first x xs among) [
      | inl same ↦ Contains-append_left (f first) (flat_map f xs) y (subst (λ z. Contains (f z) y) (sym same) here)
      | inr more ↦ Contains-append_right (f first) (flat_map f xs) y (among_flat f xs x y more here)
    ]

map_found : {A B : Type 0} (f : A → B) (h : ℕ → Option A) (numbers : List ℕ) → filter_map (λ n. option_map f (h n)) numbers ≡ map f (filter_map h numbers)
map_found f h [] = refl
map_found {A} f h (n ∷ numbers) = by_first (map_found f h numbers) (h n)
  where
    by_first : filter_map (λ m. option_map f (h m)) numbers ≡ map f (filter_map h numbers) → (o : Option A)
        → cons_option (option_map f o) (filter_map (λ m. option_map f (h m)) numbers) ≡ map f (cons_option o (filter_map h numbers))
    by_first rest None = rest
    by_first rest (Some x) = ap (λ xs. f x ∷ xs) rest

-- ---- journals

module _ (config : ClusterConfig) (tickets : ℕ) (journals : List (List JournalEntry)) (are : AreJournals config tickets journals) where
  abbrev under : ℕ → Option Entry
  under ticket = entry_under ticket 0 journals

  once_at_most : (ticket : ℕ) → counted ticket journals ≤ 1
  once_at_most ticket = by_test (nat_lt ticket tickets) (are.once ticket)
    where
      by_test : (test : Bool) → counted ticket journals ≡ cond test 1 0 → counted ticket journals ≤ 1
      by_test true is = omega (arith, is)
      by_test false is = omega (arith, is)

  once_below_all : (ticket : ℕ) → ticket < tickets → counted ticket journals ≡ 1
  once_below_all ticket below = are.once ticket ∙ ap (λ (b : Bool). cond b 1 0) (lt-ltb ticket tickets below)

  only_below : (ticket : ℕ) → 1 ≤ counted ticket journals → ticket < tickets
  only_below ticket some = by_test (nat_lt ticket tickets) refl
    where
      by_test : (test : Bool) → nat_lt ticket tickets ≡ test → ticket < tickets
      by_test true is = ltb-true ticket tickets is
      by_test false is = let none : counted ticket journals ≡ 0 = are.once ticket ∙ ap (λ (b : Bool). cond b 1 0) is in absurd (omega (arith, some, none))

  at_node : (ticket node : ℕ) (entry : JournalEntry) → node < length journals → find (has_ticket ticket) (journal_of journals node) ≡ Some entry → under ticket ≡ Some (placed node entry)
  at_node ticket node entry below found =
      let counts : 0 + node ≡ node = omega arith in
      under_is ticket 0 journals node entry (once_at_most ticket) below found ∙ ap (λ (n : ℕ). Some (placed n entry)) counts

  of_node : (ticket : ℕ) (entry : Entry) → under ticket ≡ Some entry → (place : IsFound ticket journals) × (entry ≡ placed place.node place.entry)
  of_node ticket entry is =
      let of = under_of ticket 0 journals entry is in
      let counts : 0 + of.place.node ≡ of.place.node = omega arith in
      (of.place, of.is ∙ ap (λ (n : ℕ). placed n of.place.entry) counts)

  -- ---- numbers

  is_there : (ticket : ℕ) → ticket < tickets → (entry : Entry) × (under ticket ≡ Some entry) × (entry.ticket ≡ ticket)
  is_there ticket below =
      let one = once_below_all ticket below in
      let place = found_somewhere ticket journals (omega (arith, one)) in (
        placed place.node place.entry,
        at_node ticket place.node place.entry place.below place.found,
        placed_ticket place.node place.entry ∙ found_ticket ticket (journal_of journals place.node) place.entry place.found,
      )

  numbered_from : (count low : ℕ) → low + count ≤ tickets → map (λ (entry : Entry). entry.ticket) (filter_map under (range_with_len low count)) ≡ range_with_len low count
  numbered_from zero low within = refl
  numbered_from (suc count) low within =
      let there = is_there low (omega (arith, within)) in
      ap (λ (o : Option Entry). map (λ (entry : Entry). entry.ticket) (cons_option o (filter_map under (range_with_len (low + 1) count)))) there.1
      ∙ ap (λ (n : ℕ). n ∷ map (λ (entry : Entry). entry.ticket) (filter_map under (range_with_len (low + 1) count))) there.2
      ∙ ap (λ (ns : List ℕ). low ∷ ns) (numbered_from count (low + 1) (omega (arith, within)))

  numbered : IsNumbered tickets (merged tickets journals)
  numbered = numbered_from tickets 0 (omega arith)

  -- ---- nodes

  abbrev IsNode : Entry → Type 0
  IsNode entry = entry.node < length config.nodes

  nodes_from : (numbers : List ℕ) → All IsNode (filter_map under numbers)
  nodes_from [] = All-nil IsNode
  nodes_from (ticket ∷ numbers) = by_entry (nodes_from numbers) (under ticket) refl
    where
      by_entry : All IsNode (filter_map under numbers) → (o : Option Entry) → under ticket ≡ o → All IsNode (cons_option o (filter_map under numbers))
      by_entry rest None is = rest
      by_entry rest (Some entry) is =
          let of = of_node ticket entry is in
          let node : entry.node ≡ of.0.node = ap (λ (e : Entry). e.node) of.1 ∙ placed_node of.0.node of.0.entry in
          let below = of.0.below in
          All-cons IsNode entry (filter_map under numbers) (omega (arith, node, below, are.count)) rest

  -- ---- the part of a node

  module _ (node : ℕ) (below : node < length journals) where
    abbrev own : List JournalEntry
    own = journal_of journals node

    abbrev of_own : ℕ → Option JournalEntry
    of_own ticket = find (has_ticket ticket) own

    part_from : (numbers : List ℕ) → entries_of node (filter_map under numbers) ≡ filter_map (λ (ticket : ℕ). option_map (placed node) (of_own ticket)) numbers
    part_from [] = refl
    part_from (ticket ∷ numbers) = by_own (part_from numbers) (of_own ticket) refl
      where
        by_other : entries_of node (filter_map under numbers) ≡ filter_map (λ (n : ℕ). option_map (placed node) (of_own n)) numbers → of_own ticket ≡ None → (o : Option Entry) → under ticket ≡ o
            → entries_of node (cons_option o (filter_map under numbers)) ≡ filter_map (λ (n : ℕ). option_map (placed node) (of_own n)) numbers
        by_other rest none None is = rest
        by_other rest none (Some entry) is =
            let of = of_node ticket entry is in
            let at : entry.node ≡ of.0.node = ap (λ (e : Entry). e.node) of.1 ∙ placed_node of.0.node of.0.entry in
            let apart : entry.node ≢ node = λ same. no_some none (ap (λ (n : ℕ). find (has_ticket ticket) (journal_of journals n)) (sym same ∙ at) ∙ of.0.found) in
            ap (λ (b : Bool). cond b (entry ∷ entries_of node (filter_map under numbers)) (entries_of node (filter_map under numbers))) (ne_eqb entry.node node apart) ∙ rest

        by_own : entries_of node (filter_map under numbers) ≡ filter_map (λ (n : ℕ). option_map (placed node) (of_own n)) numbers → (o : Option JournalEntry) → of_own ticket ≡ o
            → entries_of node (cons_option (under ticket) (filter_map under numbers)) ≡ cons_option (option_map (placed node) o) (filter_map (λ (n : ℕ). option_map (placed node) (of_own n)) numbers)
        by_own rest None is = by_other rest is (under ticket) refl
        by_own rest (Some entry) is =
            ap (λ (o : Option Entry). entries_of node (cons_option o (filter_map under numbers))) (at_node ticket node entry below is)
            ∙ ap (λ (b : Bool). cond b (placed node entry ∷ entries_of node (filter_map under numbers)) (entries_of node (filter_map under numbers))) (eq-eqb (placed node entry).node node (placed_node node entry))
            ∙ ap (λ (entries : List Entry). placed node entry ∷ entries) rest

    is_of_node : IsOfNode config node own
    is_of_node = are.nodes node below

    within_all : (entries : List JournalEntry) → ((entry : JournalEntry) → Contains entries entry → Contains own entry) → IsWithin 0 tickets entries
    within_all [] among = tt
    within_all (entry ∷ entries) among =
        let counts = among_counts own entry (among entry (contains_first entry entries)) in
        let at = counted_at (ticket_of entry) journals node below in (
          omega arith,
          only_below (ticket_of entry) (omega (arith, counts, at)),
          within_all entries (λ other is. among other (contains_more entry other entries is)),
        )

    part : entries_of node (merged tickets journals) ≡ map (placed node) own
    part =
        part_from (range_with_len 0 tickets) ∙ map_found (placed node) of_own (range_with_len 0 tickets)
        ∙ ap (map (placed node)) (all_found tickets 0 tickets own (omega arith) is_of_node.rises (within_all own (λ entry is. is)))

  -- ---- journals lead from state to state

  leads_so : (node : ℕ) (first last : NodeState) (entries : List JournalEntry) → IsHistory first entries last → LeadsTo first (map (placed node) entries) last
  leads_so node first last [] history = history
  leads_so node first last (journal.Step event outputs ∷ entries) history = (history.0, history.1.1, leads_so node history.0 last entries history.2)
  leads_so node first last (journal.Skipped ticket ∷ entries) history = (history.0, history.1, leads_so node history.0 last entries history.2)

  journal_from : (node : ℕ) → node < length config.nodes → IsJournalFrom (first_state config node) (entries_of node (merged tickets journals))
  journal_from node below =
      let within : node < length journals = omega (arith, below, are.count) in
      let of = is_of_node node within in
      subst (IsJournalFrom (first_state config node)) (sym (part node within)) (record { last = of.last; leads = leads_so node (first_state config node) of.last (journal_of journals node) of.history })

  -- ---- messages

  -- each message is older than its delivery
  abbrev IsInTime : JournalEntry → Type 0
  IsInTime (journal.Step event outputs) = comes_in_time outputs.ticket event ≡ true
  IsInTime (journal.Skipped ticket) = ⊤

  in_time : (first last : NodeState) (entries : List JournalEntry) (entry : JournalEntry) → IsHistory first entries last → Contains entries entry → IsInTime entry
  in_time first last [] entry history among = absurd (contains_nothing entry among)
  in_time first last (one ∷ entries) entry history among =
      elim (first_or_more one entry entries among) [
        | inl same ↦ subst IsInTime same (by_kind one history.1)
        | inr more ↦ in_time history.0 last entries entry history.2 more
      ]
    where
      by_kind : (e : JournalEntry) → Leads first e history.0 → IsInTime e
      by_kind (journal.Step event outputs) leads = leads.0
      by_kind (journal.Skipped ticket) leads = tt

  placed_sends : (node : ℕ) (entry : JournalEntry) → run.sent_in (placed node entry).deed ≡ sent_in entry
  placed_sends node (journal.Step event outputs) = refl
  placed_sends node (journal.Skipped ticket) = refl

  -- all entries below a ticket stand in the past
  abbrev HasAllBelow : ℕ → List Entry → Type 0
  HasAllBelow low past = (ticket : ℕ) → ticket < low → (entry : Entry) → under ticket ≡ Some entry → Contains past entry

  came_from : (low : ℕ) (past : List Entry) → HasAllBelow low past → (message : Message) → message.ticket < low → WasSent journals message → Contains (sent_by past) message
  came_from low past all message below was =
      let rises = (is_of_node message.from was.sender).rises in
      let found = found_among message.ticket (journal_of journals message.from) was.entry rises was.among was.under in
      let stands = at_node message.ticket message.from was.entry was.sender found in
      among_flat (λ (entry : Entry). run.sent_in entry.deed) past (placed message.from was.entry) message (all message.ticket below (placed message.from was.entry) stands)
      (subst (λ (messages : List Message). Contains messages message) (sym (placed_sends message.from was.entry)) was.sent)

  may_happen : (low : ℕ) (past : List Entry) → HasAllBelow low past → (node : ℕ) (entry : JournalEntry) → ticket_of entry ≡ low → IsSound journals entry → IsInTime entry → MayHappenIn past (placed node entry).deed
  may_happen low past all node (journal.Skipped ticket) is sound time = tt
  may_happen low past all node (journal.Step Open outputs) is sound time = tt
  may_happen low past all node (journal.Step (Close conn) outputs) is sound time = tt
  may_happen low past all node (journal.Step (Request conn words) outputs) is sound time = tt
  may_happen low past all node (journal.Step Tick outputs) is sound time = tt
  may_happen low past all node (journal.Step (Deliver message) outputs) is sound time =
      let older : message.ticket < outputs.ticket = ltb-true message.ticket outputs.ticket time in
      came_from low past all message (omega (arith, older, is)) sound

  all_below_next : (low : ℕ) (past : List Entry) (entry : Entry) → HasAllBelow low past → under low ≡ Some entry → HasAllBelow (low + 1) (entry ∷ past)
  all_below_next low past entry all is ticket below other there =
      elim (cases_eq ticket low) [
        | inl same ↦ subst (Contains (entry ∷ past)) (same_some is (ap under (sym same) ∙ there)) (contains_first entry past)
        | inr apart ↦ contains_more entry other past (all ticket (omega (arith, below, apart)) other there)
      ]

  sent_from : (count low : ℕ) (past : List Entry) → low + count ≤ tickets → HasAllBelow low past → AllWereSent past (filter_map under (range_with_len low count))
  sent_from zero low past within all = tt
  sent_from (suc count) low past within all =
      let there = is_there low (omega (arith, within)) in
      let of = of_node low there.0 there.1 in
      let place : IsFound low journals = of.0 in
      let own : IsOfNode config place.node (journal_of journals place.node) = is_of_node place.node place.below in
      let under_low : ticket_of place.entry ≡ low = found_ticket low (journal_of journals place.node) place.entry place.found in
      let among : Contains (journal_of journals place.node) place.entry = found_is_among low (journal_of journals place.node) place.entry place.found in
      let sound = each_entry (IsSound journals) (journal_of journals place.node) place.entry (are.sound place.node place.below) among in
      let time = in_time (first_state config place.node) own.last (journal_of journals place.node) place.entry own.history among in
      let happens : MayHappenIn past there.0.deed =
      subst (λ (e : Entry). MayHappenIn past e.deed) (sym of.1) (may_happen low past all place.node place.entry under_low sound time) in
      subst (λ (o : Option Entry). AllWereSent past (cons_option o (filter_map under (range_with_len (low + 1) count)))) (sym there.1)
      (happens, sent_from count (low + 1) (there.0 ∷ past) (omega (arith, within)) (all_below_next low past there.0 all there.1))

  pub merged_so : IsMerge config tickets journals (merged tickets journals)
  merged_so = record {
    numbered = numbered;
    journals_are = part;
    run = merged_is_run config (merged tickets journals)
        (record {
          nodes = nodes_from (range_with_len 0 tickets);
          journals = journal_from;
          sent = sent_from tickets 0 [] (omega arith) (λ ticket below entry is. absurd (omega (arith, below)));
        });
  }

pub journals_are_a_run : JournalsAreARun
journals_are_a_run config tickets journals are = merged_so config tickets journals are
