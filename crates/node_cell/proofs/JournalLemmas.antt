-- One more entry in a journal.
use Rattle.std.proofs.Common.{◌≡◌, ℕ, List, [], ◌∷◌, ◌++◌, ◌<◌, refl, sym, ◌∙◌, ap, subst}
use Rattle.std.specs.Prelude.{All}
use Rattle.std.proofs.lemmas.List.Elements.{All-nil, All-head, All-tail, All-push}
use Rattle.node_step.specs.State.{NodeState}
use Rattle.cell_parts.specs.Journal.{IsHistory, IsJournal, Leads, Rises, ticket_of, tickets_of}
use Rattle.cell_parts.specs.declared.entry.Entry.{Entry}

-- one entry more leads on
history-snoc : (first last new : NodeState) (entries : List Entry) (entry : Entry) → IsHistory first entries last → Leads last entry new
    → IsHistory first (entries ++ entry ∷ []) new
history-snoc first last new [] entry h leads = (new, subst (λ s. Leads s entry new) h leads, refl)
history-snoc first last new (e ∷ entries) entry h leads = (h.0, h.1, history-snoc h.0 last new entries entry h.2 leads)

tickets-snoc : (entries : List Entry) (entry : Entry) → tickets_of (entries ++ entry ∷ []) ≡ tickets_of entries ++ ticket_of entry ∷ []
tickets-snoc [] entry = refl
tickets-snoc (e ∷ entries) entry = ap (λ ns. ticket_of e ∷ ns) (tickets-snoc entries entry)

-- a number above all others goes behind them
rises-snoc : (ns : List ℕ) (n : ℕ) → Rises ns → All (λ m. m < n) ns → Rises (ns ++ n ∷ [])
rises-snoc [] n rises above = (All-nil (λ m. n < m), tt)
rises-snoc (m ∷ ns) n rises above =
    (All-push (λ k. m < k) ns n rises.0 (All-head (λ k. k < n) m ns above), rises-snoc ns n rises.1 (All-tail (λ k. k < n) m ns above))

-- the entry stands at the end of the journal under a ticket above all others
adds_under : (first last new : NodeState) (entries : List Entry) (drawn now_drawn : List ℕ) (entry : Entry)
    → IsJournal first entries last drawn → Leads last entry new → now_drawn ≡ drawn ++ ticket_of entry ∷ [] → All (λ n. n < ticket_of entry) drawn
    → IsJournal first (entries ++ entry ∷ []) new now_drawn
adds_under first last new entries drawn now_drawn entry journal leads draws above =
    record {
      history = history-snoc first last new entries entry journal.history leads;
      rises = subst Rises (sym (tickets-snoc entries entry)) (rises-snoc (tickets_of entries) (ticket_of entry) journal.rises
          (subst (λ ns. All (λ n. n < ticket_of entry) ns) (sym journal.drawn_are) above));
      drawn_are = tickets-snoc entries entry ∙ ap (λ ns. ns ++ ticket_of entry ∷ []) journal.drawn_are ∙ sym draws;
    }

pub journal_adds : (first last new : NodeState) (entries : List Entry) (drawn now_drawn : List ℕ) (entry : Entry) (ticket : ℕ)
    → IsJournal first entries last drawn → ticket_of entry ≡ ticket → Leads last entry new
    → now_drawn ≡ drawn ++ ticket ∷ [] → All (λ n. n < ticket) drawn
    → IsJournal first (entries ++ entry ∷ []) new now_drawn
journal_adds first last new entries drawn now_drawn entry ticket journal under leads draws above =
    adds_under first last new entries drawn now_drawn entry journal leads (subst (λ t. now_drawn ≡ drawn ++ t ∷ []) (sym under) draws)
    (subst (λ t. All (λ n. n < t) drawn) (sym under) above)
