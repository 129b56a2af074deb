-- Parts of all nodes, taken apart, are a run, or there is a stranger.
use Rattle.std.proofs.Common.{◌≡◌, ◌<◌, ◌+◌, ◌∙◌, ℕ, List, [], ◌∷◌, length, map, All, Contains, IfOk, Result, Ok, Err, refl, sym, ap, subst, inl, inr, arith}
use Rattle.std.proofs.lemmas.List.{length-map}
use Rattle.std.specs.List.{range_with_len}
use Rattle.atomic_table.specs.Seated.{TableId}
use Rattle.cluster_config.specs.Config.{ClusterConfig}
use Rattle.cell_parts.specs.Journal.{CellView, tickets_of}
use Rattle.cell_parts.specs.declared.entry.Entry.{Entry as JournalEntry}
use Rattle.single_keyspace.proofs.Lists.{contains_nothing}
use Rattle.tickets.specs.Tickets.{drawn, once_below, seats_of, times, total}
use Rattle.tickets.specs.declared.seat.Seat.{Seat}
use Rattle.audit_fault.specs.declared.fault.AuditFault.{AuditFault}
use Rattle.audit.specs.declared.order.Taken.{Taken}
use Rattle.audit.specs.Gathered.{HasStranger, HasStrangerIn, IfStranger, IsAllOf, IsGathered, parts_of}
use Rattle.audit.specs.Law.{RunView}
use Rattle.audit.specs.Merge.{AllAreSound, AreEachOnce, AreJournals, AreTaken, PartView, journal_of, merged, nodes_of, placed}
use Rattle.audit.proofs.Counts.{as_many}
use Rattle.audit.proofs.Merging.{journals_are_a_run}

pub not_each_once : (config : ClusterConfig) (count : ℕ) (parts other : List PartView) → count ≡ length config.nodes → other ≡ parts → (AreEachOnce count (nodes_of other) → ⊥) → HasStranger config parts
not_each_once config count parts other counted same none =
    inr (inl (λ once. none (subst (λ (ps : List PartView). AreEachOnce count (nodes_of ps)) (sym same) (subst (λ (n : ℕ). AreEachOnce n (nodes_of parts)) (sym counted) once))))

pub no_parts : (cells : List CellView) → length cells ≡ 0 → parts_of cells ≡ []
no_parts [] none = refl
no_parts (cell ∷ cells) none = absurd (omega (arith, none))

total_mapped : {A B : Type 0} (f : B → ℕ) (g : A → B) (xs : List A) → total (λ x. f (g x)) xs ≡ total f (map g xs)
total_mapped f g [] = refl
total_mapped f g (x ∷ xs) = ap (λ n. f (g x) + n) (total_mapped f g xs)

module _ (config : ClusterConfig) (table : TableId) (seat_count : ℕ) (parts : List PartView) (count : ℕ) (journals : List (List JournalEntry)) (seats : List Seat)
    (taken : AreTaken config table seat_count parts count journals seats []) (counted : count ≡ length config.nodes) where
  as_many_seats : length seats ≡ count
  as_many_seats = sym (length-map seats drawn) ∙ ap length taken.drawn_are ∙ length-map journals tickets_of ∙ taken.all

  pub whole : seat_count ≡ length config.nodes → All (λ (seat : Seat). seats_of seat ≡ length seats) seats
  whole all = subst (λ (n : ℕ). All (λ (seat : Seat). seats_of seat ≡ n) seats) (all ∙ sym counted ∙ sym as_many_seats) taken.counted

  pub some_seats : 0 < length config.nodes → 0 < length seats
  some_seats some = omega (arith, some, counted, as_many_seats)

  journal_is : (part : PartView) → Contains parts part → journal_of journals part.node ≡ part.entries
  journal_is part among =
      elim (taken.kept part among) [
        | inl is ↦ is.is
        | inr none ↦ absurd (contains_nothing part none)
      ]

  pub unsound : (AllAreSound journals → ⊥) → HasStranger config parts
  unsound none = inr (inr (record { journals = journals; count = taken.all ∙ counted; are = journal_is; unsound = none }))

  pub are_journals : (tickets : ℕ) → ((n : ℕ) → total (λ (seat : Seat). times n (drawn seat)) seats ≡ once_below n tickets) → AllAreSound journals → AreJournals config tickets journals
  are_journals tickets once sound = record {
    count = taken.all ∙ counted;
    nodes = λ node below. taken.nodes node (omega (arith, below, taken.all));
    once = λ n.
        total_mapped (times n) tickets_of journals ∙ ap (total (times n)) (sym taken.drawn_are) ∙ sym (total_mapped (times n) drawn seats) ∙ once n;
    sound = sound;
  }

  pub gathered : (tickets : ℕ) → AreJournals config tickets journals → (run : RunView) → run ≡ record { config = config; entries = merged tickets journals } → IsGathered config parts run
  gathered tickets are run is = subst (IsGathered config parts) (sym is) whole_run
    where
      none_left : (n : ℕ) → times n (nodes_of parts) ≡ once_below n count + 0 → times n (nodes_of parts) ≡ once_below n count
      none_left n each = omega (arith, each)

      whole_run : IsGathered config parts (record { config = config; entries = merged tickets journals })
      whole_run =
          let merge = journals_are_a_run config tickets journals are in
          record {
            each_once = λ n. subst (λ (m : ℕ). times n (nodes_of parts) ≡ once_below n m) counted (none_left n (taken.each n));
            config_is = refl;
            run_is = merge.run;
            numbered = merge.numbered ∙ ap (range_with_len 0) (as_many config tickets journals are);
            journals_are = λ part among.
                elim (taken.kept part among) [
                  | inl at ↦ let within = at.below in merge.journals_are part.node (omega (arith, within, taken.all)) ∙ ap (map (placed part.node)) at.is
                  | inr none ↦ absurd (contains_nothing part none)
                ];
          }

pub of_all : (config : ClusterConfig) (table : TableId) (seats : ℕ) (taken : Taken) (result : Result RunView AuditFault) (parts : List PartView) → IsAllOf config table seats taken parts
    → IfOk result (λ run. (parts : List PartView) → IsAllOf config table seats taken parts → IsGathered config parts run) → IfOk result (IsGathered config parts)
of_all config table seats taken (Ok run) parts all each = each parts all
of_all config table seats taken (Err fault) parts all each = tt

pub stranger_of_all : {T : Type 0} (config : ClusterConfig) (table : TableId) (seats : ℕ) (taken : Taken) (result : Result T AuditFault) (parts : List PartView) → IsAllOf config table seats taken parts
    → IfStranger result (HasStrangerIn config table seats taken) → IfStranger result (HasStranger config parts)
stranger_of_all config table seats taken (Ok run) parts all each = tt
stranger_of_all config table seats taken (Err fault) parts all each = λ is. each is parts all
