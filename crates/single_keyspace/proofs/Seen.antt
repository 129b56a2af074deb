-- How a slot is seen when one node changes.
use Rattle.std.proofs.Common.{◌≡◌, ◌≢◌, ◌<◌, ℕ, Bool, List, true, false, Option, Some, None, sym, ap, subst, ◌∙◌, inl, inr}
use Rattle.std.proofs.lemmas.Bool.{cases_eq, cond-true, cond-false}
use Rattle.std.specs.Prelude.{slice_get, slice_set}
use Rattle.keyspace.specs.Keyspace.{Keyspace}
use Rattle.keyspace.specs.declared.value.Value.{Value}
use Rattle.slot_table.specs.declared.entry.SlotEntry.{SlotEntry}
use Rattle.one_slot.specs.View.{View, Views}
use Rattle.one_slot.specs.Slot.{Holds}
use Rattle.one_slot.specs.Events.{Changes, Keeps}
use Rattle.slot_state.specs.Moves.{last_move_of}
use Rattle.node_step.specs.State.{NodeState}
use Rattle.world_run.specs.Run.{Entry}
use Rattle.single_keyspace.specs.Slots.{if_out, is_hidden, nowhere, seen_out, values_in, view_of, view_at, views}
use Rattle.single_keyspace.specs.Stands.{IsTrueOf}
pub use Rattle.world_run.proofs.Nodes.{no_some, same_some, set_here, set_apart}

module _ (first : SlotEntry) (slot : ℕ) where
  -- a node is seen, hidden, or out
  pub seen_so : (out : Bool) (node : NodeState) → out ≡ false → is_hidden node ≡ false → view_at first slot out (Some node) ≡ view_of node slot
  seen_so out node is_in is = cond-false (is_hidden node) (nowhere first) (if_out out (view_of node slot)) is ∙ ap (λ (b : Bool). if_out b (view_of node slot)) is_in

  pub hidden_so : (out : Bool) (node : NodeState) → is_hidden node ≡ true → view_at first slot out (Some node) ≡ nowhere first
  hidden_so out node is = cond-true (is_hidden node) (nowhere first) (if_out out (view_of node slot)) is

  pub out_so : (out : Bool) (node : NodeState) → out ≡ true → is_hidden node ≡ false → view_at first slot out (Some node) ≡ seen_out (view_of node slot)
  out_so out node is_out is = cond-false (is_hidden node) (nowhere first) (if_out out (view_of node slot)) is ∙ ap (λ (b : Bool). if_out b (view_of node slot)) is_out

  module _ (out : ℕ → Bool) (nodes : List NodeState) (n : ℕ) (before : NodeState) (was : slice_get nodes n ≡ Some before) where
    changes_to : (after : NodeState) (view : View Value) → view_at first slot (out n) (Some after) ≡ view → Changes (views first out nodes slot) (views first out (slice_set nodes n after) slot) n view
    changes_to after view is = record {
      here = ap (view_at first slot (out n)) (set_here nodes n before after was) ∙ is;
      there = λ other apart. ap (view_at first slot (out other)) (set_apart nodes n after other apart);
    }

    pub seen_here : out n ≡ false → is_hidden before ≡ false → views first out nodes slot n ≡ view_of before slot
    seen_here is_in is = ap (view_at first slot (out n)) was ∙ seen_so (out n) before is_in is

    pub seen_changes : (after : NodeState) → out n ≡ false → is_hidden after ≡ false → Changes (views first out nodes slot) (views first out (slice_set nodes n after) slot) n (view_of after slot)
    seen_changes after is_in is = changes_to after (view_of after slot) (seen_so (out n) after is_in is)

    pub hidden_here : is_hidden before ≡ true → views first out nodes slot n ≡ nowhere first
    hidden_here is = ap (view_at first slot (out n)) was ∙ hidden_so (out n) before is

    pub hidden_changes : (after : NodeState) → is_hidden after ≡ true → Changes (views first out nodes slot) (views first out (slice_set nodes n after) slot) n (nowhere first)
    hidden_changes after is = changes_to after (nowhere first) (hidden_so (out n) after is)

    -- of a node that is out nothing changes
    pub out_here : out n ≡ true → is_hidden before ≡ false → views first out nodes slot n ≡ seen_out (view_of before slot)
    out_here is_out is = ap (view_at first slot (out n)) was ∙ out_so (out n) before is_out is

    pub out_changes : (after : NodeState) → out n ≡ true → is_hidden after ≡ false → last_move_of after.moves slot ≡ last_move_of before.moves slot
        → Changes (views first out nodes slot) (views first out (slice_set nodes n after) slot) n (seen_out (view_of before slot))
    out_changes after is_out is last =
        changes_to after (seen_out (view_of before slot))
        (out_so (out n) after is_out is ∙ ap (λ (k : ℕ). record { entry = None; move = None; last = k; value = λ key. None }) last)

-- ---- views

pub same_view : {v w : View Value} → v.entry ≡ w.entry → v.move ≡ w.move → v.last ≡ w.last → v.value ≡ w.value → v ≡ w
same_view entry move last value = λ i. record { entry = entry i; move = move i; last = last i; value = value i }

pub same_values : {f g : List ℕ → Option Value} → ((key : List ℕ) → f key ≡ g key) → f ≡ g
same_values each = λ i key. each key i

-- a node that changes to what it was
unchanged : (old new : Views Value) (n : ℕ) (view : View Value) → old n ≡ view → Changes old new n view → new ≡ old
unchanged old new n view here changes = λ i j. each j i
  where
    each : (j : ℕ) → new j ≡ old j
    each j =
        elim (cases_eq j n) [
          | inl same ↦ ap new same ∙ changes.here ∙ sym here ∙ ap old (sym same)
          | inr apart ↦ changes.there j apart
        ]

pub holds_still : (top : SlotEntry) (old new : Views Value) (one : List ℕ → Option Value) (n : ℕ) (view : View Value) → Holds top old one → old n ≡ view → Changes old new n view → Keeps top top old new one
holds_still top old new one n view holds here changes =
    let still : Keeps top top old old one = record { holds = holds; sent = λ sent is. is } in
    subst (λ seen. Keeps top top old seen one) (sym (unchanged old new n view here changes)) still

-- ---- a slot before a step

pub record SlotWas (past : List Entry) (n : ℕ) (before : NodeState) (one : Keyspace) (slot : ℕ) : Type 0 where
  pub top : SlotEntry
  pub seen : Views Value
  pub holds : Holds top seen (values_in one slot)
  pub here : seen n ≡ view_of before slot
  pub history : IsTrueOf past top seen slot
  pub below : (j : ℕ) (entry : SlotEntry) → (seen j).move ≢ None → (seen j).entry ≡ Some entry → slot < 16384

-- the same where the node is another with the same slot
abbrev pub again : {past : List Entry} {n : ℕ} {before : NodeState} {one : Keyspace} {slot : ℕ} → SlotWas past n before one slot → (after : NodeState) → view_of after slot ≡ view_of before slot → SlotWas past n after one slot
again was after same = record { top = was.top; seen = was.seen; holds = was.holds; here = was.here ∙ sym same; history = was.history; below = was.below }

-- what holds of the slot after a step
pub record SlotHolds (old : Views Value) (top : SlotEntry) (new : Views Value) (next : List ℕ → Option Value) : Type 0 where
  pub newest : SlotEntry
  pub holds : Keeps top newest old new next

-- what holds of the slot stays true by a step that leads the node to the next state, and the one keyspace to the next one
abbrev pub HoldsAfter : {past : List Entry} {n : ℕ} {before : NodeState} {one : Keyspace} {slot : ℕ} → SlotWas past n before one slot → NodeState → Keyspace → Type 0
HoldsAfter {n = n} {slot = slot} was after next = (new : Views Value) → Changes was.seen new n (view_of after slot) → SlotHolds was.seen was.top new (values_in next slot)

module _ {past : List Entry} {n : ℕ} {before : NodeState} {one : Keyspace} where
  -- the slot stays as it is, at the node and in the one keyspace
  pub holds_untouched : {slot : ℕ} (was : SlotWas past n before one slot) (after : NodeState) (next : Keyspace) → view_of after slot ≡ view_of before slot → ((key : List ℕ) → values_in next slot key ≡ values_in one slot key) → HoldsAfter was after next
  holds_untouched {slot = slot} was after next same alike new changes =
      let stands : Keeps was.top was.top was.seen new (values_in one slot) = holds_still was.top was.seen new (values_in one slot) n (view_of after slot) was.holds (was.here ∙ sym same) changes in
      record { newest = was.top; holds = subst (Keeps was.top was.top was.seen new) (sym (same_values alike)) stands }

  -- one slot is touched, and the others stay
  pub holds_but : (was : (slot : ℕ) → SlotWas past n before one slot) (after : NodeState) (next : Keyspace) (touched : ℕ) → HoldsAfter (was touched) after next
      → ((slot : ℕ) → slot ≢ touched → view_of after slot ≡ view_of before slot) → ((slot : ℕ) → slot ≢ touched → (key : List ℕ) → values_in next slot key ≡ values_in one slot key)
      → (slot : ℕ) → HoldsAfter (was slot) after next
  holds_but was after next touched here same alike slot =
      elim (cases_eq slot touched) [
        | inl is ↦ subst (λ s. HoldsAfter (was s) after next) (sym is) here
        | inr apart ↦ holds_untouched (was slot) after next (same slot apart) (alike slot apart)
      ]
