-- The slots that a claim takes from a node.
use Rattle.std.proofs.Common.{◌≡◌, ◌≢◌, ◌<◌, ◌≤◌, ◌==◌, ◌&&◌, ℕ, Bool, true, false, not, List, [], ◌∷◌, length, filter, map, Option, Some, None, refl, sym, ap, subst, ◌∙◌, inl, inr, arith}
use Rattle.std.proofs.lemmas.Bool.{cases_lt, cases_Bool, cond-true, cond-false, eq-eqb, eqb-true, ne_eqb}
use Rattle.std.proofs.lemmas.List.{get_or_past}
use Rattle.std.proofs.lemmas.List.Folds.{list_any_at}
use Rattle.std.proofs.lemmas.List.FromFn.{get_or-range_with_len, length-range_with_len}
use Rattle.std.proofs.lemmas.Map.Views.{any-filter_same}
use Rattle.std.specs.FinMap as fin_map
use Rattle.std.specs.List.{list_any, range_with_len}
use Rattle.command_table.specs.declared.error_line.ErrorLine.TheVariants as line
use Rattle.connections.specs.Connections.{all_freed, waiting}
use Rattle.key_slot.specs.Slot.{hash_slot}
use Rattle.key_slot.specs.SlotRange.{is_in}
use Rattle.migrate.specs.Losing.{after_loss}
use Rattle.resp_values.specs.declared.reply.Reply.{Reply}
use Rattle.slot_table.proofs.MergeLemmas.{merged_at, taken_changes}
use Rattle.slot_table.specs.Claims.{changed, claimed, greater, is_above, is_taken, merged, taken}
use Rattle.slot_table.specs.Table.{entry_at, owner_at, owner_in}
use Rattle.slot_table.specs.declared.entry.SlotEntry.{SlotEntry}
use Rattle.slot_table.specs.declared.runs.Run.{Run}
use Rattle.bus.specs.declared.message.Body.{Body}
use Rattle.node_parts.specs.Becomes.{losing}
use Rattle.node_parts.specs.Drafts.{Drafts}
use Rattle.node_parts.specs.declared.draft.Draft.{Draft}
use Rattle.node_step.specs.Claiming.{claim, claimed_by, is_lost, is_owner}
use Rattle.node_step.specs.Outcome.{Outcome, error, release, silent}
use Rattle.node_step.specs.State.{NodeState}
use Rattle.node_step.specs.declared.outputs.Release.{Release}

and_not_itself : (b : Bool) → (b && false) ≡ (b && not b)
and_not_itself true = refl
and_not_itself false = refl

-- a claim is that of its owner
claim_owner : (runs : List (Run ℕ)) (owner slot : ℕ) (entry : SlotEntry) → claimed runs owner slot ≡ Some entry → entry.owner ≡ owner
claim_owner [] owner slot entry is = absurd (cc)
claim_owner (run ∷ runs) owner slot entry is =
    elim (cases_Bool (is_in run.slots slot)) [
      | inl here ↦
          let one : Some (record { epoch = run.value; owner = owner }) ≡ Some entry = sym (cond-true (is_in run.slots slot) (Some (record { epoch = run.value; owner = owner })) (claimed runs owner slot) here) ∙ is in
          let same : ◌≡◌ {A = SlotEntry} (record { epoch = run.value; owner = owner }) entry = cc in
          ap (λ (e : SlotEntry). e.owner) (sym same)
      | inr apart ↦ claim_owner runs owner slot entry (sym (cond-false (is_in run.slots slot) (Some (record { epoch = run.value; owner = owner })) (claimed runs owner slot) apart) ∙ is)
    ]

-- where no claim is the node's, a slot of the node is taken exactly if another node has it then
taken_from : (known claim : Option SlotEntry) (number : ℕ) → ((entry : SlotEntry) → claim ≡ Some entry → entry.owner ≢ number)
    → (is_owner (owner_in known) number && is_taken known claim) ≡ (is_owner (owner_in known) number && not (is_owner (owner_in (greater known claim)) number))
taken_from known None number other = and_not_itself (is_owner (owner_in known) number)
taken_from known (Some claim) number other =
    elim (cases_Bool (is_above claim known)) [
      | inl above ↦
          let now : greater known (Some claim) ≡ Some claim = cond-true (is_above claim known) (Some claim) known above in
          let gone : is_owner (owner_in (greater known (Some claim))) number ≡ false = ap (λ e. is_owner (owner_in e) number) now ∙ ne_eqb claim.owner number (other claim refl) in
          ap (λ b. is_owner (owner_in known) number && b) (above ∙ sym (ap not gone))
      | inr below ↦
          let now : greater known (Some claim) ≡ known = cond-false (is_above claim known) (Some claim) known below in
          ap (λ b. is_owner (owner_in known) number && b) below ∙ and_not_itself (is_owner (owner_in known) number)
          ∙ sym (ap (λ e. is_owner (owner_in known) number && not (is_owner (owner_in e) number)) now)
    ]

-- a number below the bound is among those below it
in_range : (n slot : ℕ) → slot < n → list_any (λ other. other == slot) (range_with_len 0 n) ≡ true
in_range n slot below =
    let within : slot < length (range_with_len 0 n) = omega (arith, length-range_with_len 0 n) in
    list_any_at (λ other. other == slot) (range_with_len 0 n) slot 0 within (eq-eqb _ slot (get_or-range_with_len 0 n slot 0 below ∙ omega arith))

and-true : (b : Bool) → (b && true) ≡ b
and-true true = refl
and-true false = refl

module _ (table : List (Option SlotEntry)) (runs : List (Run ℕ)) (from number slot : ℕ) (whole : length table ≡ 16384) (other : from ≢ number) where
  abbrev mine : ℕ → Bool
  mine s = is_owner (owner_at table s) number

  abbrev takes : ℕ → Bool
  takes s = is_taken (entry_at table s) (claimed runs from s)

  abbrev stays : ℕ → Bool
  stays s = is_owner (owner_at (merged table runs from) s) number

  below_bound : slot < 16384 → (mine slot && (takes slot && list_any (λ s. s == slot) (range_with_len 0 16384))) ≡ (mine slot && not (stays slot))
  below_bound below =
      ap (λ b. mine slot && (takes slot && b)) (in_range 16384 slot below) ∙ ap (λ b. mine slot && b) (and-true (takes slot))
      ∙ taken_from (entry_at table slot) (claimed runs from slot) number (λ entry is same. other (sym (claim_owner runs from slot entry is) ∙ same))
      ∙ sym (ap (λ e. mine slot && not (is_owner (owner_in e) number)) (merged_at table runs from slot below))

  past_bound : 16384 ≤ slot → (mine slot && (takes slot && list_any (λ s. s == slot) (range_with_len 0 16384))) ≡ (mine slot && not (stays slot))
  past_bound past =
      let out : length table ≤ slot = omega (arith, whole, past) in
      let none : mine slot ≡ false = ap (λ e. is_owner (owner_in e) number) (get_or_past table slot None out) in
      ap (λ b. b && (takes slot && list_any (λ s. s == slot) (range_with_len 0 16384))) none ∙ sym (ap (λ b. b && not (stays slot)) none)

  taken_are_lost : list_any (λ s. s == slot) (filter mine (taken table runs from)) ≡ (mine slot && not (stays slot))
  unfolding taken
  taken_are_lost =
      any-filter_same (λ s. s == slot) mine (mine slot) (λ s is. ap mine (eqb-true s slot is)) (taken table runs from)
      ∙ ap (λ b. mine slot && b) (any-filter_same (λ s. s == slot) takes (takes slot) (λ s is. ap takes (eqb-true s slot is)) (range_with_len 0 16384))
      ∙ elim (cases_lt slot 16384) [ inl below ↦ below_bound below | inr past ↦ past_bound past ]

-- the slots of the node whose entries the claim changes are those that the node loses
pub changed_are_lost : (node : NodeState) (runs : List (Run ℕ)) (from : ℕ) → length node.table ≡ 16384 → from ≢ node.number → (slot : ℕ)
    → list_any (λ other. other == slot) (filter (λ s. is_owner (owner_at node.table s) node.number) (changed node.table (merged node.table runs from)))
    ≡ is_lost node (merged node.table runs from) slot
changed_are_lost node runs from whole other slot =
    ap (λ slots. list_any (λ s. s == slot) (filter (λ s. is_owner (owner_at node.table s) node.number) slots)) (sym (taken_changes node.table runs from))
    ∙ taken_are_lost node.table runs from node.number slot whole other

-- what becomes of a node that loses the slots of a test, and of those that wait for their copies
abbrev losing_by : NodeState → List (Option SlotEntry) → Reply → (ℕ → Bool) → Outcome
losing_by node table reply lost = record (silent (record node {
  table = table;
  keyspace = fin_map.retain_keys node.keyspace (λ key. not (lost (hash_slot key)));
  moves = after_loss node.moves lost;
  connections = all_freed node.connections (λ wait. lost wait.id.slot);
})) {
  released = map (release reply) (waiting node.connections (λ wait. lost wait.id.slot));
}

-- a claim of another node is taken by a draft that loses the slots that it takes
pub claim_drafted : (old : NodeState) (from : ℕ) (runs : List (Run ℕ)) (claimed : List (Run ℕ)) (lost first : List ℕ) (reply : Reply) (released : List Release) (bodies : List (ℕ × Body)) (draft : Draft) → (from == old.number) ≡ false
    → ((slot : ℕ) → list_any (λ other. other == slot) lost ≡ is_lost old (merged old.table runs from) slot) → first ≡ lost → reply ≡ error line.NotAcknowledged
    → released ≡ map (release reply) (waiting old.connections (λ wait. list_any (λ other. other == wait.id.slot) first))
    → claimed ≡ runs → bodies ≡ [] → Drafts old (record (silent (losing old claimed from lost)) { released = released; sent = bodies }) draft
    → Drafts old (claim old from runs) draft
claim_drafted old from runs claimed lost first reply released bodies draft other are same replies gives copied none drafts =
    let table = merged old.table runs from in
    let named : released ≡ map (release (error line.NotAcknowledged)) (waiting old.connections (λ wait. list_any (λ s. s == wait.id.slot) lost)) =
    gives ∙ ap (λ slots. map (release reply) (waiting old.connections (λ wait. list_any (λ s. s == wait.id.slot) slots))) same
    ∙ ap (λ r. map (release r) (waiting old.connections (λ wait. list_any (λ s. s == wait.id.slot) lost))) replies in
    let outcome : losing_by old table (error line.NotAcknowledged) (λ slot. list_any (λ s. s == slot) lost) ≡ claim old from runs =
    ap (losing_by old table (error line.NotAcknowledged)) (λ j slot. are slot j)
    ∙ sym (cond-false (from == old.number) (silent old) (claimed_by old table) other) in
    subst (λ (o : Outcome). Drafts old o draft) outcome
    (subst (λ (r : List Release). Drafts old (record (silent (losing old runs from lost)) { released = r; sent = [] }) draft) named
    (subst (λ (b : List (ℕ × Body)). Drafts old (record (silent (losing old runs from lost)) { released = released; sent = b }) draft) none
    (subst (λ (c : List (Run ℕ)). Drafts old (record (silent (losing old c from lost)) { released = released; sent = bodies }) draft) copied drafts)))

-- a node's own claim tells it nothing
pub own_claim_drafted : (old : NodeState) (from : ℕ) (runs : List (Run ℕ)) (draft : Draft) → (from == old.number) ≡ true → Drafts old (silent old) draft
    → Drafts old (claim old from runs) draft
own_claim_drafted old from runs draft own drafts =
    subst (λ (o : Outcome). Drafts old o draft) (sym (cond-true (from == old.number) (silent old) (claimed_by old (merged old.table runs from)) own)) drafts
