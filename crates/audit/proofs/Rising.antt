-- Journals whose tickets rise: what is found under each ticket is the journal.
use Rattle.std.proofs.Common.{◌≡◌, ◌≢◌, ◌+◌, ◌<◌, ◌≤◌, ◌==◌, ◌∙◌, ℕ, zero, suc, Bool, true, false, cond, List, [], ◌∷◌, All, Contains, Option, Some, None, refl, sym, ap, subst, inl, inr, arith}
use Rattle.std.proofs.lemmas.Bool.{cases_eq, eq-eqb, eqb-true, ne_eqb}
use Rattle.std.proofs.lemmas.List.Elements.{All-head, All-tail}
use Rattle.std.specs.List.{cons_option, filter_map, find, range_with_len}
use Rattle.std.specs.Prelude.{⊤}
use Rattle.single_keyspace.proofs.Lists.{contains_first, contains_more, contains_nothing, first_or_more}
use Rattle.single_keyspace.proofs.Seen.{no_some, same_some}
use Rattle.cell_parts.specs.Journal.{Rises, ticket_of, tickets_of}
use Rattle.cell_parts.specs.declared.entry.Entry.{Entry as JournalEntry}
use Rattle.tickets.specs.Tickets.{times}
use Rattle.audit.specs.Merge.{has_ticket}

-- all tickets are from the one on, and below the other
abbrev pub IsWithin : ℕ → ℕ → List JournalEntry → Type 0
IsWithin low high [] = ⊤
IsWithin low high (entry ∷ entries) = (low ≤ ticket_of entry) × (ticket_of entry < high) × IsWithin low high entries

lower : (low least high : ℕ) (entries : List JournalEntry) → low ≤ least → IsWithin least high entries → IsWithin low high entries
lower low least high [] below within = tt
lower low least high (entry ∷ entries) below within = (omega (arith, below, within.0), within.1, lower low least high entries below within.2)

-- those behind an entry have greater tickets
behind : (low high n : ℕ) (entries : List JournalEntry) → All (λ later. n < later) (tickets_of entries) → IsWithin low high entries → IsWithin (n + 1) high entries
behind low high n [] above within = tt
behind low high n (entry ∷ entries) above within =
    let first : n < ticket_of entry = All-head (λ later. n < later) (ticket_of entry) (tickets_of entries) above in
    (omega (arith, first), within.1, behind low high n entries (All-tail (λ later. n < later) (ticket_of entry) (tickets_of entries) above) within.2)

-- ---- what is found

found_here : (ticket : ℕ) (entry : JournalEntry) (entries : List JournalEntry) → ticket ≡ ticket_of entry → find (has_ticket ticket) (entry ∷ entries) ≡ Some entry
found_here ticket entry entries same = ap (λ (b : Bool). cond b (Some entry) (find (has_ticket ticket) entries)) (eq-eqb ticket (ticket_of entry) same)

found_behind : (ticket : ℕ) (entry : JournalEntry) (entries : List JournalEntry) → ticket ≢ ticket_of entry → find (has_ticket ticket) (entry ∷ entries) ≡ find (has_ticket ticket) entries
found_behind ticket entry entries apart = ap (λ (b : Bool). cond b (Some entry) (find (has_ticket ticket) entries)) (ne_eqb ticket (ticket_of entry) apart)

none_below : (ticket low high : ℕ) (entries : List JournalEntry) → IsWithin low high entries → ticket < low → find (has_ticket ticket) entries ≡ None
none_below ticket low high [] within below = refl
none_below ticket low high (entry ∷ entries) within below =
    found_behind ticket entry entries (λ same. omega (arith, within.0, below, same)) ∙ none_below ticket low high entries within.2 below

pub found_ticket : (ticket : ℕ) (entries : List JournalEntry) (entry : JournalEntry) → find (has_ticket ticket) entries ≡ Some entry → ticket_of entry ≡ ticket
found_ticket ticket [] entry is = absurd (no_some refl is)
found_ticket ticket (first ∷ entries) entry is = by_test (found_ticket ticket entries entry) (ticket == ticket_of first) refl is
  where
    by_test : (find (has_ticket ticket) entries ≡ Some entry → ticket_of entry ≡ ticket) → (test : Bool) → (ticket == ticket_of first) ≡ test
        → cond test (Some first) (find (has_ticket ticket) entries) ≡ Some entry → ticket_of entry ≡ ticket
    by_test further true here found = ap ticket_of (sym (same_some refl found)) ∙ sym (eqb-true ticket (ticket_of first) here)
    by_test further false there found = further found

pub found_is_among : (ticket : ℕ) (entries : List JournalEntry) (entry : JournalEntry) → find (has_ticket ticket) entries ≡ Some entry → Contains entries entry
found_is_among ticket [] entry is = absurd (no_some refl is)
found_is_among ticket (first ∷ entries) entry is = by_test (found_is_among ticket entries entry) (ticket == ticket_of first) is
  where
    by_test : (find (has_ticket ticket) entries ≡ Some entry → Contains entries entry) → (test : Bool) → cond test (Some first) (find (has_ticket ticket) entries) ≡ Some entry
        → Contains (first ∷ entries) entry
    by_test further true found = subst (Contains (first ∷ entries)) (same_some refl found) (contains_first first entries)
    by_test further false found = contains_more first entry entries (further found)

pub found_among : (ticket : ℕ) (entries : List JournalEntry) (entry : JournalEntry) → Rises (tickets_of entries) → Contains entries entry → ticket_of entry ≡ ticket → find (has_ticket ticket) entries ≡ Some entry
found_among ticket [] entry rises among under = absurd (contains_nothing entry among)
found_among ticket (first ∷ entries) entry rises among under =
    elim (first_or_more first entry entries among) [
      | inl same ↦ found_here ticket first entries (sym under ∙ ap ticket_of (sym same)) ∙ ap Some same
      | inr more ↦
          let above = later_above entries rises.0 more in
          found_behind ticket first entries (λ same. omega (arith, above, under, same)) ∙ found_among ticket entries entry rises.1 more under
    ]
  where
    later_above : (others : List JournalEntry) → All (λ later. ticket_of first < later) (tickets_of others) → Contains others entry → ticket_of first < ticket_of entry
    later_above [] above among = absurd (contains_nothing entry among)
    later_above (other ∷ others) above among =
        elim (first_or_more other entry others among) [
          | inl same ↦ subst (λ (e : JournalEntry). ticket_of first < ticket_of e) same (All-head (λ later. ticket_of first < later) (ticket_of other) (tickets_of others) above)
          | inr more ↦ later_above others (All-tail (λ later. ticket_of first < later) (ticket_of other) (tickets_of others) above) more
        ]

-- ---- under each ticket

same_from : {A : Type 0} (f g : ℕ → Option A) (low count : ℕ) → ((ticket : ℕ) → low ≤ ticket → f ticket ≡ g ticket) → filter_map f (range_with_len low count) ≡ filter_map g (range_with_len low count)
same_from f g low zero same = refl
same_from {A} f g low (suc count) same =
    ap (λ (o : Option A). cons_option o (filter_map f (range_with_len (low + 1) count))) (same low (omega arith))
    ∙ ap (cons_option (g low)) (same_from f g (low + 1) count (λ ticket above. same ticket (omega (arith, above))))

pub all_found : (count low high : ℕ) (entries : List JournalEntry) → high ≡ low + count → Rises (tickets_of entries) → IsWithin low high entries
    → filter_map (λ (ticket : ℕ). find (has_ticket ticket) entries) (range_with_len low count) ≡ entries
all_found zero low high [] is rises within = refl
all_found zero low high (entry ∷ entries) is rises within = absurd (omega (arith, is, within.0, within.1))
all_found (suc count) low high [] is rises within = all_found count (low + 1) high [] (omega (arith, is)) rises tt
all_found (suc count) low high (entry ∷ entries) is rises within =
    elim (cases_eq low (ticket_of entry)) [
      | inl same ↦
          let later = behind low high (ticket_of entry) entries rises.0 within.2 in
          let rest = all_found count (low + 1) high entries (omega (arith, is)) rises.1 (subst (λ (n : ℕ). IsWithin (n + 1) high entries) (sym same) later) in
          ap (λ (o : Option JournalEntry). cons_option o (filter_map (λ (ticket : ℕ). find (has_ticket ticket) (entry ∷ entries)) (range_with_len (low + 1) count))) (found_here low entry entries same)
          ∙ ap (λ (others : List JournalEntry). entry ∷ others)
          (same_from (λ (ticket : ℕ). find (has_ticket ticket) (entry ∷ entries)) (λ (ticket : ℕ). find (has_ticket ticket) entries) (low + 1) count
          (λ ticket above. found_behind ticket entry entries (λ equal. omega (arith, above, same, equal))) ∙ rest)
      | inr apart ↦
          let above : low < ticket_of entry = omega (arith, apart, within.0) in
          let later = behind low high (ticket_of entry) entries rises.0 within.2 in
          let all : IsWithin (low + 1) high (entry ∷ entries) = (omega (arith, above), within.1, lower (low + 1) (ticket_of entry + 1) high entries (omega (arith, above)) later) in
          ap (λ (o : Option JournalEntry). cons_option o (filter_map (λ (ticket : ℕ). find (has_ticket ticket) (entry ∷ entries)) (range_with_len (low + 1) count)))
          (none_below low (low + 1) high (entry ∷ entries) all (omega arith))
          ∙ all_found count (low + 1) high (entry ∷ entries) (omega (arith, is)) rises all
    ]

-- ---- how often

pub found_counts : (ticket : ℕ) (entries : List JournalEntry) (entry : JournalEntry) → find (has_ticket ticket) entries ≡ Some entry → 1 ≤ times ticket (tickets_of entries)
found_counts ticket [] entry is = absurd (no_some refl is)
found_counts ticket (first ∷ entries) entry is = by_test (found_counts ticket entries entry) (ticket == ticket_of first) is
  where
    by_test : (find (has_ticket ticket) entries ≡ Some entry → 1 ≤ times ticket (tickets_of entries)) → (test : Bool) → cond test (Some first) (find (has_ticket ticket) entries) ≡ Some entry
        → 1 ≤ cond test 1 0 + times ticket (tickets_of entries)
    by_test further true found = omega arith
    by_test further false found = let more = further found in omega (arith, more)

pub none_counts : (ticket : ℕ) (entries : List JournalEntry) → find (has_ticket ticket) entries ≡ None → times ticket (tickets_of entries) ≡ 0
none_counts ticket [] is = refl
none_counts ticket (first ∷ entries) is = by_test (none_counts ticket entries) (ticket == ticket_of first) is
  where
    by_test : (find (has_ticket ticket) entries ≡ None → times ticket (tickets_of entries) ≡ 0) → (test : Bool) → cond test (Some first) (find (has_ticket ticket) entries) ≡ None
        → cond test 1 0 + times ticket (tickets_of entries) ≡ 0
    by_test further true found = absurd (no_some found refl)
    by_test further false found = let more = further found in omega (arith, more)

abbrev one_if : Bool → ℕ
one_if test = cond test 1 0

-- each entry is counted under its ticket
pub among_counts : (entries : List JournalEntry) (entry : JournalEntry) → Contains entries entry → 1 ≤ times (ticket_of entry) (tickets_of entries)
among_counts [] entry among = absurd (contains_nothing entry among)
among_counts (first ∷ entries) entry among =
    elim (first_or_more first entry entries among) [
      | inl same ↦
          let here : one_if (ticket_of entry == ticket_of first) ≡ 1 = ap one_if (eq-eqb (ticket_of entry) (ticket_of first) (ap ticket_of (sym same))) in
          omega (arith, here)
      | inr more ↦ let rest = among_counts entries entry more in omega (arith, rest)
    ]
