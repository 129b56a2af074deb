-- What is left of the nodes of a cluster.
use Rattle.std.proofs.Common.{◌≡◌, ◌<◌, ◌+◌, ◌∙◌, ◌==◌, ◌++◌, ◌⊎◌, ℕ, zero, suc, Bool, true, false, List, [], ◌∷◌, length, map, Contains, refl, sym, ap, subst, inl, inr, arith}
use Rattle.std.proofs.lemmas.Bool.{cases_eq, eq-eqb, eqb-true, lt-ltb, ltb-false, ltb-true}
use Rattle.std.proofs.lemmas.List.Elements.{All-nil, All-push}
use Rattle.std.specs.List.{remove}
use Rattle.std.specs.Prelude.{nat_lt, slice_index_or}
use Rattle.atomic_table.specs.Seated.{TableId}
use Rattle.cluster_config.specs.Config.{ClusterConfig}
use Rattle.cell_parts.specs.Journal.{IsHistory, Rises, tickets_of}
use Rattle.cell_parts.specs.declared.entry.Entry.{Entry as JournalEntry}
use Rattle.node_step.specs.State.{NodeState, first_state}
use Rattle.single_keyspace.proofs.Lists.{contains_first, contains_more, first_or_more}
use Rattle.tickets.specs.Tickets.{drawn, once_below, seats_of, table_of, times}
use Rattle.tickets.specs.declared.seat.Seat.{Seat}
use Rattle.audit.specs.Merge.{AreEachOnce, AreTaken, IsOfNode, IsTaken, IsWithout, PartView, journal_of, nodes_of}
use Rattle.audit.proofs.EachNode.{none_below_zero, one_if}

-- a cell that is finished is a part of its cluster
pub is_part : (config own : ClusterConfig) (n node seats : ℕ) (journal entries : List JournalEntry) (state : NodeState) (seat : Seat) (table : TableId) → own ≡ config → n ≡ node → entries ≡ journal
    → IsHistory (first_state own node) journal state → Rises (tickets_of journal) → node < length own.nodes → drawn seat ≡ tickets_of journal → table_of seat ≡ table → seats_of seat ≡ seats
    → IsOfNode config n entries × (n < length config.nodes) × (drawn seat ≡ tickets_of entries) × (table_of seat ≡ table) × (seats_of seat ≡ seats)
is_part config own n node seats journal entries state seat table same at are history rises below draws of_table of_seats =
    let of : IsOfNode own node journal = record { last = state; history = history; rises = rises } in
    let of_config : IsOfNode config node journal = subst (λ (c : ClusterConfig). IsOfNode c node journal) same of in
    let of_n : IsOfNode config n journal = subst (λ (m : ℕ). IsOfNode config m journal) (sym at) of_config in
    let within : node < length config.nodes = subst (λ (c : ClusterConfig). node < length c.nodes) same below in
    (subst (IsOfNode config n) (sym are) of_n, omega (arith, within, at), draws ∙ ap tickets_of (sym are), of_table, of_seats)

-- ---- a part that is taken out

without_times : (n place : ℕ) (parts : List PartView) (part : PartView) → place < length parts → slice_index_or parts place part ≡ part
    → times n (nodes_of parts) ≡ one_if (n == part.node) + times n (nodes_of (remove parts place))
without_times n place [] part within at = absurd (omega (arith, within))
without_times n zero (first ∷ parts) part within at = ap (λ (p : PartView). one_if (n == p.node) + times n (nodes_of parts)) at
without_times n (suc place) (first ∷ parts) part within at =
    let rest = without_times n place parts part (omega (arith, within)) at in
    omega (arith, rest)

without_others : (place : ℕ) (parts : List PartView) (part other : PartView) → place < length parts → slice_index_or parts place part ≡ part → Contains parts other → (part ≡ other) ⊎ Contains (remove parts place) other
without_others place [] part other within at among = absurd (omega (arith, within))
without_others zero (first ∷ parts) part other within at among =
    elim (first_or_more first other parts among) [
      | inl same ↦ inl (sym at ∙ same)
      | inr more ↦ inr more
    ]
without_others (suc place) (first ∷ parts) part other within at among =
    elim (first_or_more first other parts among) [
      | inl same ↦ inr (subst (Contains (first ∷ remove parts place)) same (contains_first first (remove parts place)))
      | inr more ↦
          elim (without_others place parts part other (omega (arith, within)) at more) [
            | inl same ↦ inl same
            | inr left ↦ inr (contains_more first other (remove parts place) left)
          ]
    ]

-- one number more
one_more_below : (n count : ℕ) → once_below n (count + 1) ≡ one_if (n == count) + once_below n count
one_more_below n count = by_tests (nat_lt n count) (n == count) refl refl
  where
    by_tests : (below same : Bool) → nat_lt n count ≡ below → (n == count) ≡ same → once_below n (count + 1) ≡ one_if same + one_if below
    by_tests true true is same_is =
        let less = ltb-true n count is in
        let equal = eqb-true n count same_is in
        absurd (omega (arith, less, equal))
    by_tests true false is same_is = let less = ltb-true n count is in ap one_if (lt-ltb n (count + 1) (omega (arith, less)))
    by_tests false true is same_is = let equal = eqb-true n count same_is in ap one_if (lt-ltb n (count + 1) (omega (arith, equal)))
    by_tests false false is same_is =
        let least = ltb-false n count is in
        ap one_if (false_so (λ less. apart (omega (arith, least, less))))
      where
        apart : n ≡ count → ⊥
        apart equal = omega (arith, ap one_if (sym same_is ∙ eq-eqb n count equal))

        false_so : (n < count + 1 → ⊥) → nat_lt n (count + 1) ≡ false
        false_so no_less = by_test (nat_lt n (count + 1)) refl
          where
            by_test : (test : Bool) → nat_lt n (count + 1) ≡ test → test ≡ false
            by_test true is = absurd (no_less (ltb-true n (count + 1) is))
            by_test false is = refl

map_pushed : {A B : Type 0} (f : A → B) (xs : List A) (x : A) → map f (xs ++ x ∷ []) ≡ map f xs ++ f x ∷ []
map_pushed f [] x = refl
map_pushed f (y ∷ xs) x = ap (λ ys. f y ∷ ys) (map_pushed f xs x)

-- the journal that is put behind the others, and those before it
last_journal : (journals : List (List JournalEntry)) (entries : List JournalEntry) → journal_of (journals ++ entries ∷ []) (length journals) ≡ entries
last_journal [] entries = refl
last_journal (first ∷ journals) entries = last_journal journals entries

former_journal : (journals : List (List JournalEntry)) (entries : List JournalEntry) (node : ℕ) → node < length journals → journal_of (journals ++ entries ∷ []) node ≡ journal_of journals node
former_journal [] entries node below = absurd (omega (arith, below))
former_journal (first ∷ journals) entries zero below = refl
former_journal (first ∷ journals) entries (suc node) below = former_journal journals entries node (omega (arith, below))

length_pushed : {A : Type 0} (xs : List A) (x : A) → length (xs ++ x ∷ []) ≡ length xs + 1
length_pushed [] x = refl
length_pushed (y ∷ xs) x = let rest = length_pushed xs x in omega (arith, rest)

module _ (config : ClusterConfig) (table : TableId) (seat_count : ℕ) (parts : List PartView) where
  pub none_taken : AreTaken config table seat_count parts 0 [] [] parts
  none_taken = record {
    all = refl;
    nodes = λ node below. absurd (omega (arith, below));
    drawn_are = refl;
    seated = All-nil (λ (seat : Seat). table_of seat ≡ table);
    counted = All-nil (λ (seat : Seat). seats_of seat ≡ seat_count);
    each = λ n. let zero = none_below_zero n in omega (arith, zero);
    kept = λ part among. inr among;
  }

  pub one_more_taken : (count : ℕ) (journals more : List (List JournalEntry)) (seats others : List Seat) (left fewer : List PartView) (part : PartView) (entries : List JournalEntry) (seat : Seat)
      → AreTaken config table seat_count parts count journals seats left → part.node ≡ count → IsWithout left part fewer → entries ≡ part.entries → IsOfNode config part.node part.entries → drawn seat ≡ tickets_of part.entries
      → table_of seat ≡ table → seats_of seat ≡ seat_count → more ≡ journals ++ entries ∷ [] → others ≡ seats ++ seat ∷ [] → AreTaken config table seat_count parts (count + 1) more others fewer
  one_more_taken count journals more seats others left fewer part entries seat are at without entries_are of draws of_table of_count grown seated_too =
      subst (λ (ss : List Seat). AreTaken config table seat_count parts (count + 1) more ss fewer) (sym seated_too)
      (subst (λ (js : List (List JournalEntry)). AreTaken config table seat_count parts (count + 1) js (seats ++ seat ∷ []) fewer) (sym grown)
      (subst (λ (es : List JournalEntry). AreTaken config table seat_count parts (count + 1) (journals ++ es ∷ []) (seats ++ seat ∷ []) fewer) (sym entries_are) taken))
    where
      here : journal_of (journals ++ part.entries ∷ []) count ≡ part.entries
      here = ap (journal_of (journals ++ part.entries ∷ [])) (sym are.all) ∙ last_journal journals part.entries

      node_is : (node : ℕ) → node < count + 1 → IsOfNode config node (journal_of (journals ++ part.entries ∷ []) node)
      node_is node below =
          elim (cases_eq node count) [
            | inl same ↦
                subst (λ (n : ℕ). IsOfNode config n (journal_of (journals ++ part.entries ∷ []) n)) (sym same)
                (subst (IsOfNode config count) (sym here) (subst (λ (n : ℕ). IsOfNode config n part.entries) at of))
            | inr apart ↦
                let below_all : node < length journals = omega (arith, below, apart, are.all) in
                subst (IsOfNode config node) (sym (former_journal journals part.entries node below_all)) (are.nodes node (omega (arith, below, apart)))
          ]

      times_are : (n : ℕ) → times n (nodes_of parts) ≡ once_below n (count + 1) + times n (nodes_of fewer)
      times_are n =
          let before = are.each n in
          let gone = without_times n without.place left part without.within without.at in
          let same : one_if (n == part.node) ≡ one_if (n == count) = ap (λ (m : ℕ). one_if (n == m)) at in
          let next = one_more_below n count in
          let rest : times n (nodes_of fewer) ≡ times n (nodes_of (remove left without.place)) = ap (λ (ps : List PartView). times n (nodes_of ps)) without.is in
          omega (arith, before, gone, same, next, rest)

      kept_so : (other : PartView) → Contains parts other → IsTaken (count + 1) (journals ++ part.entries ∷ []) other ⊎ Contains fewer other
      kept_so other among =
          elim (are.kept other among) [
            | inl was ↦
                let within = was.below in
                inl (record { below = omega (arith, within); is = former_journal journals part.entries other.node (omega (arith, within, are.all)) ∙ was.is })
            | inr there ↦
                elim (without_others without.place left part other without.within without.at there) [
                  | inl same ↦
                      let node : other.node ≡ count = ap (λ (p : PartView). p.node) (sym same) ∙ at in
                      inl (record { below = omega (arith, node); is = ap (journal_of (journals ++ part.entries ∷ [])) node ∙ here ∙ ap (λ (p : PartView). p.entries) same })
                  | inr still ↦ inr (subst (λ (ps : List PartView). Contains ps other) (sym without.is) still)
                ]
          ]

      taken : AreTaken config table seat_count parts (count + 1) (journals ++ part.entries ∷ []) (seats ++ seat ∷ []) fewer
      taken = record {
        all = length_pushed journals part.entries ∙ ap (λ (n : ℕ). n + 1) are.all;
        nodes = node_is;
        drawn_are = map_pushed drawn seats seat ∙ ap (λ (ns : List (List ℕ)). ns ++ drawn seat ∷ []) are.drawn_are ∙ ap (λ (ns : List ℕ). map tickets_of journals ++ ns ∷ []) draws
            ∙ sym (map_pushed tickets_of journals part.entries);
        seated = All-push (λ (s : Seat). table_of s ≡ table) seats seat are.seated of_table;
        counted = All-push (λ (s : Seat). seats_of s ≡ seat_count) seats seat are.counted of_count;
        each = times_are;
        kept = kept_so;
      }

  -- a node that isn't there
  pub one_missing : (count number : ℕ) (journals : List (List JournalEntry)) (seats : List Seat) (left : List PartView) → AreTaken config table seat_count parts number journals seats left → number < count
      → times number (nodes_of left) ≡ 0 → AreEachOnce count (nodes_of parts) → ⊥
  one_missing count number journals seats left are below none once =
      let each = are.each number in
      let here : once_below number number ≡ 0 = ap one_if (not_below number) in
      let wanted : once_below number count ≡ 1 = ap one_if (lt-ltb number count below) in
      let one = once number in
      omega (arith, each, here, wanted, one, none)
    where
      not_below : (n : ℕ) → nat_lt n n ≡ false
      not_below n = by_test (nat_lt n n) refl
        where
          by_test : (test : Bool) → nat_lt n n ≡ test → test ≡ false
          by_test true is = let less = ltb-true n n is in absurd (omega (arith, less))
          by_test false is = refl

  -- a part that is left
  pub one_left : (count : ℕ) (journals : List (List JournalEntry)) (seats : List Seat) (first : PartView) (left : List PartView) → AreTaken config table seat_count parts count journals seats (first ∷ left)
      → AreEachOnce count (nodes_of parts) → ⊥
  one_left count journals seats first left are once =
      let each = are.each first.node in
      let one = once first.node in
      let here : one_if (first.node == first.node) ≡ 1 = ap one_if (eq-eqb first.node first.node refl) in
      omega (arith, each, one, here)

  -- all are taken where none is left
  pub all_taken : (count number : ℕ) (journals : List (List JournalEntry)) (seats : List Seat) (left : List PartView) → AreTaken config table seat_count parts number journals seats left → number ≡ count → length left ≡ 0
      → AreTaken config table seat_count parts count journals seats []
  all_taken count number journals seats [] are same none = subst (λ (n : ℕ). AreTaken config table seat_count parts n journals seats []) same are
  all_taken count number journals seats (first ∷ left) are same none = absurd (omega (arith, none))

  some_left : (count : ℕ) (journals : List (List JournalEntry)) (seats : List Seat) (left : List PartView) → AreTaken config table seat_count parts count journals seats left → 0 < length left
      → AreEachOnce count (nodes_of parts) → ⊥
  some_left count journals seats [] are some once = omega (arith, some)
  some_left count journals seats (first ∷ left) are some once = one_left count journals seats first left are once

  pub too_many : (count number : ℕ) (journals : List (List JournalEntry)) (seats : List Seat) (left : List PartView) → AreTaken config table seat_count parts number journals seats left → number ≡ count → 0 < length left
      → AreEachOnce count (nodes_of parts) → ⊥
  too_many count number journals seats left are same some =
      some_left count journals seats left (subst (λ (n : ℕ). AreTaken config table seat_count parts n journals seats left) same are) some
