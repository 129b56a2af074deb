-- Journals are merged entry by entry.
use Rattle.std.proofs.Common.{◌≡◌, ◌≢◌, ◌<◌, ◌+◌, ◌==◌, ℕ, List, [], ◌∷◌, Some, length, All, refl, sym, ap, subst, ◌∙◌, inl, inr, arith}
use Rattle.std.proofs.lemmas.Bool.{cases_eq, cond-true, cond-false, eq-eqb, ne_eqb}
use Rattle.std.proofs.lemmas.List.Elements.{All-head, All-tail}
use Rattle.std.proofs.lemmas.List.FromFn.{get_or-range_with_len, length-range_with_len}
use Rattle.std.proofs.lemmas.Option.{slice_get-get_or, slice_get-map}
use Rattle.std.specs.List.{range_with_len}
use Rattle.std.specs.Prelude.{option_map, slice_get, slice_set}
use Rattle.cluster_config.specs.Config.{ClusterConfig}
use Rattle.node_step.specs.State.{NodeState, first_state}
use Rattle.world_run.specs.Run.{Deed, Entry, Goes, Leads, WorldStep, first_nodes}
use Rattle.world_run.specs.Run.Deed.{Made, Skipped}
use Rattle.single_keyspace.proofs.Seen.{no_some, same_some, set_apart, set_here}
use Rattle.single_keyspace.proofs.Start.{first_node}
use Rattle.merged_run.specs.Merged.{AllWereSent, IsJournalFrom, MayHappenIn, MergedJournalsAreARun, Steps, entries_of}

-- an entry of the node stands first in its part, and one of another node isn't there
own_first : (n : ℕ) (entry : Entry) (entries : List Entry) → entry.node ≡ n → entries_of n (entry ∷ entries) ≡ entry ∷ entries_of n entries
own_first n entry entries is = cond-true (entry.node == n) (entry ∷ entries_of n entries) (entries_of n entries) (eq-eqb entry.node n is)

not_first : (n : ℕ) (entry : Entry) (entries : List Entry) → entry.node ≢ n → entries_of n (entry ∷ entries) ≡ entries_of n entries
not_first n entry entries other = cond-false (entry.node == n) (entry ∷ entries_of n entries) (entries_of n entries) (ne_eqb entry.node n other)

leads_by : (past : List Entry) (ticket : ℕ) (before : NodeState) (deed : Deed) (after : NodeState) → MayHappenIn past deed → Steps ticket before deed after → Leads past ticket before deed after
leads_by past ticket before (Made event outputs) after happens step = (happens, step)
leads_by past ticket before Skipped after happens step = step

at_first : (config : ClusterConfig) (number : ℕ) → number < length config.nodes → slice_get (first_nodes config) number ≡ Some (first_state config number)
at_first config number below =
    let numbers : List ℕ = range_with_len 0 (length config.nodes) in
    let all : length numbers ≡ length config.nodes = length-range_with_len 0 (length config.nodes) in
    let within : number < length numbers = omega (arith, all, below) in
    let counted : 0 + number ≡ number = omega arith in
    slice_get-map (first_state config) numbers number ∙ ap (option_map (first_state config)) (slice_get-get_or numbers number 0 within ∙ ap Some (get_or-range_with_len 0 (length config.nodes) number 0 below ∙ counted))

-- each node has a state, in which its part of the entries begins
record Stands (count : ℕ) (nodes : List NodeState) (entries : List Entry) : Type 0 where
  pub there : (number : ℕ) → number < count → (before : NodeState) × (slice_get nodes number ≡ Some before)
  pub journals : (number : ℕ) (before : NodeState) → slice_get nodes number ≡ Some before → IsJournalFrom before (entries_of number entries)

-- one entry, of a node that has it first in its part
record Begins (nodes : List NodeState) (past : List Entry) (entry : Entry) (entries : List Entry) : Type 0 where
  pub before : NodeState
  pub was : slice_get nodes entry.node ≡ Some before
  pub next : NodeState
  pub step : Steps entry.ticket before entry.deed next
  pub rest : IsJournalFrom next (entries_of entry.node entries)

begins : (count : ℕ) (nodes : List NodeState) (past : List Entry) (entry : Entry) (entries : List Entry) → entry.node < count → Stands count nodes (entry ∷ entries) → Begins nodes past entry entries
begins count nodes past entry entries below stands =
    let found = stands.there entry.node below in
    let journal : IsJournalFrom found.0 (entry ∷ entries_of entry.node entries) =
    subst (IsJournalFrom found.0) (own_first entry.node entry entries refl) (stands.journals entry.node found.0 found.1) in
    record { before = found.0; was = found.1; next = journal.leads.0; step = journal.leads.1; rest = record { last = journal.last; leads = journal.leads.2 } }

stands_after : (count : ℕ) (nodes : List NodeState) (past : List Entry) (entry : Entry) (entries : List Entry) → Stands count nodes (entry ∷ entries) → (begun : Begins nodes past entry entries)
    → Stands count (slice_set nodes entry.node begun.next) entries
stands_after count nodes past entry entries stands begun = record {
  there = λ number below.
      elim (cases_eq number entry.node) [
        | inl same ↦ (begun.next, ap (slice_get (slice_set nodes entry.node begun.next)) same ∙ set_here nodes entry.node begun.before begun.next begun.was)
        | inr apart ↦ let found = stands.there number below in (found.0, set_apart nodes entry.node begun.next number apart ∙ found.1)
      ];
  journals = λ number before is.
      elim (cases_eq number entry.node) [
        | inl same ↦
            let state_is : begun.next ≡ before =
            same_some (set_here nodes entry.node begun.before begun.next begun.was) (ap (slice_get (slice_set nodes entry.node begun.next)) (sym same) ∙ is) in
            subst (λ (m : ℕ). IsJournalFrom before (entries_of m entries)) (sym same) (subst (λ (s : NodeState). IsJournalFrom s (entries_of entry.node entries)) state_is begun.rest)
        | inr apart ↦
            subst (IsJournalFrom before) (not_first number entry entries (λ same. apart (sym same)))
            (stands.journals number before (sym (set_apart nodes entry.node begun.next number apart) ∙ is))
      ];
}

merged : (count : ℕ) (past : List Entry) (nodes : List NodeState) (entries : List Entry) → All (λ (entry : Entry). entry.node < count) entries → AllWereSent past entries → Stands count nodes entries
    → (last : List NodeState) × Goes past nodes entries last
merged count past nodes [] below sent stands = (nodes, refl)
merged count past nodes (entry ∷ entries) below sent stands =
    let begun : Begins nodes past entry entries = begins count nodes past entry entries (All-head (λ (e : Entry). e.node < count) entry entries below) stands in
    let next : List NodeState = slice_set nodes entry.node begun.next in
    let step : WorldStep past nodes entry next = record {
      before = begun.before;
      after = begun.next;
      was = begun.was;
      leads = leads_by past entry.ticket begun.before entry.deed begun.next sent.0 begun.step;
      is = refl;
    } in
    let rest = merged count (entry ∷ past) next entries (All-tail (λ (e : Entry). e.node < count) entry entries below) sent.1 (stands_after count nodes past entry entries stands begun) in
    (rest.0, (next, step, rest.1))

pub merged_is_run : MergedJournalsAreARun
merged_is_run config entries are =
    let whole = merged (length config.nodes) [] (first_nodes config) entries are.nodes are.sent
    (record {
      there = λ number below.
          elim (first_node config number) [
            | inl found ↦ (first_state config number, found.1)
            | inr missing ↦ absurd (no_some missing (at_first config number below))
          ];
      journals = λ number before is.
          elim (first_node config number) [
            | inl found ↦ subst (λ (s : NodeState). IsJournalFrom s (entries_of number entries)) (same_some found.1 is) (are.journals number found.0)
            | inr missing ↦ absurd (no_some missing is)
          ];
    }) in
    record { last = whole.0; goes = whole.1 }
