use Rattle.std.proofs.Common.{rules, ◌≡◌, ◌∙◌, sym, ap, subst, List}
use Rattle.std.proofs.lemmas.Fn.{always_returns_same}
use Rattle.std.specs.List.{find}
use Rattle.cell_parts.specs.Journal.{Rises, ticket_of, tickets_of}
use Rattle.cell_parts.specs.declared.entry.Entry.{Entry as JournalEntry}
use Rattle.audit.specs.Merge.{has_ticket}
use Rattle.audit.proofs.Searching.{found_nowhere, found_there}
use Rattle.audit.proofs.journal.NodeJournal.entry_under.Goals as goal

pub returns-in-Ok-clause-found : goal.returns-in-Ok-clause-found
returns-in-Ok-clause-found c =
    let same : c.as_slice.result.now ≡ c.self.inside.entries.items = search rules in
    sym
    (ap (find (has_ticket c.args.ticket)) (sym (same ∙ c.self.view_is))
    ∙ found_there c.args.ticket c.in-Ok.place c.as_slice.result.now _ (subst (λ (es : List JournalEntry). Rises (tickets_of es)) (sym same) c.self.invariant) (search rules)
    (c.in-Ok.ensures.position ticket_of (always_returns_same _ _ _ (λ a r f called. search rules))) (search rules))

pub returns-in-Err-clause-found : goal.returns-in-Err-clause-found
returns-in-Err-clause-found c =
    let same : c.as_slice.result.now ≡ c.self.inside.entries.items = search rules in
    sym
    (found_nowhere c.args.ticket c.in-Err.field-0 c.as_slice.result.now (subst (λ (es : List JournalEntry). Rises (tickets_of es)) (sym same) c.self.invariant)
    (c.in-Err.ensures.position ticket_of (always_returns_same _ _ _ (λ a r f called. search rules))))
    ∙ ap (find (has_ticket c.args.ticket)) (same ∙ c.self.view_is)
