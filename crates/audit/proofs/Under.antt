-- What stands under a ticket, where it stands at most once.
use Rattle.std.proofs.Common.{◌≡◌, ◌+◌, ◌<◌, ◌≤◌, ◌∙◌, ℕ, zero, suc, List, [], ◌∷◌, length, Option, Some, None, refl, sym, ap, arith}
use Rattle.std.specs.List.{find}
use Rattle.std.specs.Prelude.{option_map}
use Rattle.single_keyspace.proofs.Seen.{no_some, same_some}
use Rattle.cell_parts.specs.Journal.{ticket_of, tickets_of}
use Rattle.cell_parts.specs.declared.entry.Entry.{Entry as JournalEntry}
use Rattle.cell_parts.specs.declared.entry.Entry.TheVariants as journal
use Rattle.tickets.specs.Tickets.{times, total}
use Rattle.world_run.specs.Run.{Entry}
use Rattle.audit.specs.Merge.{entry_under, has_ticket, journal_of, or_else, placed}
use Rattle.audit.proofs.Rising.{found_counts, none_counts}

-- how often it stands in all of them
abbrev pub counted : ℕ → List (List JournalEntry) → ℕ
counted ticket journals = total (λ (entries : List JournalEntry). times ticket (tickets_of entries)) journals

pub placed_ticket : (node : ℕ) (entry : JournalEntry) → (placed node entry).ticket ≡ ticket_of entry
placed_ticket node (journal.Step event outputs) = refl
placed_ticket node (journal.Skipped ticket) = refl

pub placed_node : (node : ℕ) (entry : JournalEntry) → (placed node entry).node ≡ node
placed_node node (journal.Step event outputs) = refl
placed_node node (journal.Skipped ticket) = refl

-- where it was found
pub record IsFound (ticket : ℕ) (journals : List (List JournalEntry)) : Type 0 where
  pub node : ℕ
  pub below : node < length journals
  pub entry : JournalEntry
  pub found : find (has_ticket ticket) (journal_of journals node) ≡ Some entry

module _ (ticket : ℕ) where
  pub counted_at : (journals : List (List JournalEntry)) (node : ℕ) → node < length journals → times ticket (tickets_of (journal_of journals node)) ≤ counted ticket journals
  counted_at [] node below = absurd (omega (arith, below))
  counted_at (entries ∷ journals) zero below = omega arith
  counted_at (entries ∷ journals) (suc node) below = let rest = counted_at journals node (omega (arith, below)) in omega (arith, rest)

  pub under_is : (first : ℕ) (journals : List (List JournalEntry)) (node : ℕ) (entry : JournalEntry) → counted ticket journals ≤ 1 → node < length journals
      → find (has_ticket ticket) (journal_of journals node) ≡ Some entry → entry_under ticket first journals ≡ Some (placed (first + node) entry)
  under_is first [] node entry once below found = absurd (omega (arith, below))
  under_is first (entries ∷ journals) zero entry once below found =
      let same : first ≡ first + 0 = omega arith in
      ap (λ (o : Option JournalEntry). or_else (option_map (placed first) o) (entry_under ticket (first + 1) journals)) found ∙ ap (λ (n : ℕ). Some (placed n entry)) same
  under_is first (entries ∷ journals) (suc node) entry once below found =
      by_found (λ fewer. under_is (first + 1) journals node entry fewer (omega (arith, below)) found) (find (has_ticket ticket) entries) refl
    where
      by_found : (counted ticket journals ≤ 1 → entry_under ticket (first + 1) journals ≡ Some (placed (first + 1 + node) entry)) → (o : Option JournalEntry) → find (has_ticket ticket) entries ≡ o → entry_under ticket first (entries ∷ journals) ≡ Some (placed (first + suc node) entry)
      by_found further (Some other) is =
          let here = found_counts ticket entries other is in
          let there = found_counts ticket (journal_of journals node) entry found in
          let within = counted_at journals node (omega (arith, below)) in
          absurd (omega (arith, once, here, there, within))
      by_found further None is =
          let none = none_counts ticket entries is in
          let same : first + 1 + node ≡ first + suc node = omega arith in
          ap (λ (o : Option JournalEntry). or_else (option_map (placed first) o) (entry_under ticket (first + 1) journals)) is
          ∙ further (omega (arith, once, none)) ∙ ap (λ (n : ℕ). Some (placed n entry)) same

  pub found_somewhere : (journals : List (List JournalEntry)) → 1 ≤ counted ticket journals → IsFound ticket journals
  found_somewhere [] some = absurd (omega (arith, some))
  found_somewhere (entries ∷ journals) some = by_found (found_somewhere journals) (find (has_ticket ticket) entries) refl
    where
      by_found : (1 ≤ counted ticket journals → IsFound ticket journals) → (o : Option JournalEntry) → find (has_ticket ticket) entries ≡ o → IsFound ticket (entries ∷ journals)
      by_found further (Some entry) is = record { node = 0; below = omega arith; entry = entry; found = is }
      by_found further None is =
          let none = none_counts ticket entries is in
          let rest = further (omega (arith, some, none)) in
          let within = rest.below in
          record { node = suc rest.node; below = omega (arith, within); entry = rest.entry; found = rest.found }

  -- what stands there is an entry of one of the journals
  pub record IsOf (first : ℕ) (journals : List (List JournalEntry)) (entry : Entry) : Type 0 where
    pub place : IsFound ticket journals
    pub is : entry ≡ placed (first + place.node) place.entry

  pub under_of : (first : ℕ) (journals : List (List JournalEntry)) (entry : Entry) → entry_under ticket first journals ≡ Some entry → IsOf first journals entry
  under_of first [] entry is = absurd (no_some refl is)
  under_of first (entries ∷ journals) entry is = by_found (under_of (first + 1) journals entry) (find (has_ticket ticket) entries) refl
    where
      by_found : (entry_under ticket (first + 1) journals ≡ Some entry → IsOf (first + 1) journals entry) → (o : Option JournalEntry) → find (has_ticket ticket) entries ≡ o → IsOf first (entries ∷ journals) entry
      by_found further (Some one) found =
          let same : first ≡ first + 0 = omega arith in
          record {
            place = record { node = 0; below = omega arith; entry = one; found = found };
            is = same_some is (ap (λ (o : Option JournalEntry). or_else (option_map (placed first) o) (entry_under ticket (first + 1) journals)) found) ∙ ap (λ (n : ℕ). placed n one) same;
          }
      by_found further None found =
          let rest = further (sym (ap (λ (o : Option JournalEntry). or_else (option_map (placed first) o) (entry_under ticket (first + 1) journals)) found) ∙ is) in
          let within = rest.place.below in
          let same : first + 1 + rest.place.node ≡ first + suc rest.place.node = omega arith in
          record {
            place = record { node = suc rest.place.node; below = omega (arith, within); entry = rest.place.entry; found = rest.place.found };
            is = rest.is ∙ ap (λ (n : ℕ). placed n rest.place.entry) same;
          }
