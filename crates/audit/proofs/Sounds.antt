-- Whether the journal of its sender has a message.
use Rattle.std.proofs.Common.{◌≡◌, ◌<◌, ◌∙◌, List, [], length, Contains, Some, None, sym, subst}
use Rattle.std.proofs.lemmas.List.{get_or_default}
use Rattle.std.specs.List.{find}
use Rattle.std.specs.Prelude.{slice_index_or}
use Rattle.bus.specs.declared.message.Message.{Message}
use Rattle.cell_parts.specs.Journal.{Rises, tickets_of}
use Rattle.cell_parts.specs.declared.entry.Entry.{Entry as JournalEntry}
use Rattle.single_keyspace.proofs.Seen.{no_some, same_some}
use Rattle.audit.specs.Merge.{WasSent, has_ticket, journal_of, sent_in}
use Rattle.audit.proofs.Rising.{found_among, found_is_among, found_ticket}

module _ (journals : List (List JournalEntry)) (message : Message) (entries : List JournalEntry) (below : message.from < length journals) (at : entries ≡ slice_index_or journals message.from entries) where
  own : journal_of journals message.from ≡ entries
  own = get_or_default journals message.from [] entries below ∙ sym at

  pub was_sent_so : (entry : JournalEntry) → find (has_ticket message.ticket) entries ≡ Some entry → Contains (sent_in entry) message → WasSent journals message
  was_sent_so entry found sent = record {
    sender = below;
    entry = entry;
    among = subst (λ (es : List JournalEntry). Contains es entry) (sym own) (found_is_among message.ticket entries entry found);
    under = found_ticket message.ticket entries entry found;
    sent = sent;
  }

  found_again : Rises (tickets_of entries) → (was : WasSent journals message) → find (has_ticket message.ticket) entries ≡ Some was.entry
  found_again rises was = found_among message.ticket entries was.entry rises (subst (λ (es : List JournalEntry). Contains es was.entry) own was.among) was.under

  pub unsent_so : (entry : JournalEntry) → find (has_ticket message.ticket) entries ≡ Some entry → Rises (tickets_of entries) → (Contains (sent_in entry) message → ⊥) → WasSent journals message → ⊥
  unsent_so entry found rises unsent was = unsent (subst (λ (e : JournalEntry). Contains (sent_in e) message) (same_some (found_again rises was) found) was.sent)

  pub none_under_so : find (has_ticket message.ticket) entries ≡ None → Rises (tickets_of entries) → WasSent journals message → ⊥
  none_under_so none rises was = no_some none (found_again rises was)
