-- What holds of a slot whose move begins, changes or ends.
use Rattle.std.proofs.Common.{◌≡◌, ◌≢◌, ◌<◌, ◌+◌, ℕ, List, true, cond, Option, Some, None, Contains, length, refl, sym, ap, subst, ◌∙◌, inl, inr, arith}
use Rattle.std.proofs.lemmas.Bool.{cases_eq, cases_Bool}
use Rattle.std.proofs.lemmas.List.{get_or-set_same, get_or-set_other}
use Rattle.std.specs.FinMap as map
use Rattle.std.specs.Map.{keys_of}
use Rattle.std.specs.Prelude.{slice_set}
use Rattle.keyspace.specs.Keyspace.{Keyspace}
use Rattle.keyspace.specs.declared.value.Value.{Value}
use Rattle.slot_store.specs.InSlot.{is_in_slot}
use Rattle.slot_table.specs.declared.entry.SlotEntry.{SlotEntry}
use Rattle.slot_table.specs.Table.{owner_at}
use Rattle.slot_state.specs.Moves.{move_of, last_move_of, begun, ended}
use Rattle.slot_state.specs.declared.running.Move.{Move}
use Rattle.slot_state.specs.declared.running.Move.TheVariants.{Leaves, Comes}
use Rattle.one_slot.specs.View.{View, Views}
use Rattle.one_slot.specs.Slot.{Holds, IsComing, IsCounted, IsFrozen, installed}
use Rattle.one_slot.specs.Sent.{IsSent}
use Rattle.one_slot.specs.Sent.Sent.{Drained, Copy, Ack}
use Rattle.one_slot.specs.Events.{Changes, CopyIsOrdered, Keeps, Puts, Removes}
use Rattle.one_slot.proofs.Sendings.{coming_apart, live_copy}
use Rattle.one_slot.proofs.ViewLemmas.{none_or_some, installed_here}
use Rattle.node_step.specs.State.{NodeState}
use Rattle.world_run.specs.Run.{Entry}
use Rattle.single_keyspace.specs.Slots.{values_in, view_of}
use Rattle.single_keyspace.proofs.Laws.{EventLaws, events_at}
use Rattle.single_keyspace.proofs.Maps.{gone_here, gone_apart}
use Rattle.single_keyspace.proofs.Moved.{with_move, begun_here, moved_here}
use Rattle.single_keyspace.proofs.Seen.{no_some, same_view, SlotWas, SlotHolds, HoldsAfter}

pub reached : {old new : Views Value} {n : ℕ} {v w : View Value} → Changes old new n v → v ≡ w → Changes old new n w
reached changes same = record { here = changes.here ∙ same; there = changes.there }

-- ---- keys on their way

-- the frozen keys are at their node
pub frozen_here : {top : SlotEntry} {seen : Views Value} {one : List ℕ → Option Value} → Holds top seen one → (n to number copies : ℕ) (keys : List (List ℕ))
    → (seen n).move ≡ Some (Leaves to number copies (Some keys)) → IsFrozen (seen n) copies keys
frozen_here {top = top} {seen = seen} holds n to number copies keys is =
    elim (cases_eq n top.owner) [
      | inl same ↦
          subst (λ (i : ℕ). (seen i).move ≡ Some (Leaves to number copies (Some keys)) → IsFrozen (seen i) copies keys) (sym same) (holds.holder.frozen to number copies keys) is
      | inr other ↦ absurd ((holds.others n other).thawed to number copies keys is)
    ]

-- the copy that comes next is of the keys that are frozen at the holder
pub arriving_are_there : {top : SlotEntry} {seen : Views Value} {one : List ℕ → Option Value} → Holds top seen one → (n from number copied : ℕ) (drained : Option ℕ) (pairs : List (List ℕ × Value))
    → (seen n).move ≡ Some (Comes from number copied drained) → IsSent top seen (Copy from n number (copied + 1) pairs)
    → (key : List ℕ) → Contains (keys_of pairs) key → (x : Value) × (one key ≡ Some x)
arriving_are_there {top = top} {seen = seen} holds n from number copied drained pairs is sent key among =
    let coming : IsComing (seen n) number = record { from = from; copied = copied; drained = drained; is = is } in
    let apart : n ≢ top.owner = coming_apart holds n number coming in
    let live = live_copy holds from n number (copied + 1) pairs coming sent in
    let here : installed (seen n).move top.owner number ≡ copied =
    ap (λ (m : Option Move). installed m top.owner number) is ∙ installed_here from number copied drained top.owner number live.source refl in
    let count : IsCounted live.copies live.frozen copied =
    subst (IsCounted live.copies live.frozen) here ((holds.others n apart).counted number live.copies live.frozen live.leaves) in
    let last_copy : copied + 1 ≡ live.copies = omega (arith, count.next, live.made) in
    elim (none_or_some live.frozen) [
      | inl none ↦ absurd (omega (arith, count.settled none, last_copy))
      | inr some ↦
          let newest = live.newest some.0 last_copy some.1 in
          let leaves : (seen top.owner).move ≡ Some (Leaves n number live.copies (Some (keys_of pairs))) =
          live.leaves ∙ ap (λ (f : Option (List (List ℕ))). Some (Leaves n number live.copies f)) (some.1 ∙ ap Some newest.0) in
          let there = (holds.holder.frozen n number live.copies (keys_of pairs) leaves).here key among in
          (there.0, holds.keys.here top.owner key there.0 there.1)
    ]

-- what has a value of the slot is in it
pub valued_in_slot : (keyspace : Keyspace) (slot : ℕ) (key : List ℕ) (x : Value) → values_in keyspace slot key ≡ Some x → is_in_slot slot key ≡ true
valued_in_slot keyspace slot key x is =
    elim (cases_Bool (is_in_slot slot key)) [
      | inl here ↦ here
      | inr outside ↦ absurd (no_some (ap (λ b. cond b (map.get keyspace key) None) outside) is)
    ]

-- ---- the end of an import

module _ (node : NodeState) (slot : ℕ) (entry : SlotEntry) (epoch : ℕ) where
  abbrev pub with_entry : NodeState
  with_entry = record node { table = slice_set node.table slot (Some entry); moves = ended node.moves slot; current_epoch = epoch }

  ended_here : slot < length node.table → view_of with_entry slot ≡ record (view_of node slot) { entry = Some entry; move = None }
  ended_here below = same_view (get_or-set_same node.table slot (Some entry) None below) (gone_here node.moves.running slot) refl refl

  pub ended_apart : (other : ℕ) → other ≢ slot → view_of with_entry other ≡ view_of node other
  ended_apart other apart = same_view (get_or-set_other node.table slot other (Some entry) None apart) (gone_apart node.moves.running slot other apart) refl refl

-- ---- the slot of the move

module _ {past : List Entry} {n : ℕ} {before : NodeState} {one : Keyspace} {slot : ℕ} (was : SlotWas past n before one slot) where
  laws : (new : Views Value) → EventLaws was.top was.seen new (values_in one slot) n (view_of before slot)
  laws new = events_at was.top was.seen new (values_in one slot) n (view_of before slot) was.holds was.here

  still : (new : Views Value) → Keeps was.top was.top was.seen new (values_in one slot) → SlotHolds was.seen was.top new (values_in one slot)
  still new holds = record { newest = was.top; holds = holds }

  moves_so : move_of before.moves slot ≡ (was.seen n).move
  moves_so = sym (ap (λ (v : View Value). v.move) was.here)

  pub import_begun_holds : (from number : ℕ) → move_of before.moves slot ≡ None → owner_at before.table slot ≡ Some from → from ≢ n → last_move_of before.moves slot < number
      → HoldsAfter was (record before { moves = begun before.moves slot number (Comes from number 0 None) }) one
  import_begun_holds from number idle owner other above =
      λ new changes.
      still new ((laws new).import_begins from number (record { idle = idle; owner = owner; other = other; above = above })
      (reached changes (begun_here before slot number (Comes from number 0 None))))

  pub migration_begun_holds : (to number : ℕ) → move_of before.moves slot ≡ None → owner_at before.table slot ≡ Some n → to ≢ n → last_move_of before.moves slot < number
      → HoldsAfter was (record before { moves = begun before.moves slot number (Leaves to number 0 None) }) one
  migration_begun_holds to number idle owner other above =
      λ new changes.
      still new ((laws new).migration_begins to number (record { idle = idle; owner = owner; other = other; above = above })
      (reached changes (begun_here before slot number (Leaves to number 0 None))))

  pub copy_ordered_holds : (to number copies : ℕ) (keys : List (List ℕ)) → CopyIsOrdered (view_of before slot) to number copies keys
      → HoldsAfter was (record before { moves = with_move before.moves slot (Leaves to number (copies + 1) (Some keys)) }) one
  copy_ordered_holds to number copies keys ordered =
      λ new changes.
      still new ((laws new).copy_ordered to number copies keys ordered
      (reached changes (moved_here before before.keyspace slot (Leaves to number (copies + 1) (Some keys)))))

  pub copy_installed_holds : (from number copied : ℕ) (drained : Option ℕ) (pairs : List (List ℕ × Value)) (keyspace : Keyspace) → move_of before.moves slot ≡ Some (Comes from number copied drained)
      → IsSent was.top was.seen (Copy from n number (copied + 1) pairs) → Puts (values_in before.keyspace slot) (values_in keyspace slot) pairs
      → HoldsAfter was (record before { keyspace = keyspace; moves = with_move before.moves slot (Comes from number (copied + 1) drained) }) one
  copy_installed_holds from number copied drained pairs keyspace move sent puts =
      λ new changes.
      still new ((laws new).copy_installed from number copied drained pairs (values_in keyspace slot) move sent puts
      (reached changes (moved_here before keyspace slot (Comes from number (copied + 1) drained))))

  pub copy_acknowledged_holds : (to number copies : ℕ) (keys : List (List ℕ)) (keyspace : Keyspace) → move_of before.moves slot ≡ Some (Leaves to number copies (Some keys))
      → IsSent was.top was.seen (Ack to n number copies) → Removes (values_in before.keyspace slot) (values_in keyspace slot) keys
      → HoldsAfter was (record before { keyspace = keyspace; moves = with_move before.moves slot (Leaves to number copies None) }) one
  copy_acknowledged_holds to number copies keys keyspace move sent removes =
      λ new changes.
      still new ((laws new).copy_acknowledged to number copies keys (values_in keyspace slot) move sent removes
      (reached changes (moved_here before keyspace slot (Leaves to number copies None))))

  pub drained_noted_holds : (from number copied : ℕ) (drained : Option ℕ) (epoch : ℕ) → move_of before.moves slot ≡ Some (Comes from number copied drained)
      → IsSent was.top was.seen (Drained from n number epoch) → HoldsAfter was (record before { moves = with_move before.moves slot (Comes from number copied (Some epoch)) }) one
  drained_noted_holds from number copied drained epoch move sent =
      λ new changes.
      still new ((laws new).drained_noted from number copied drained epoch move sent
      (reached changes (moved_here before before.keyspace slot (Comes from number copied (Some epoch)))))

  -- a slot that was drained for the node is one of the table's
  pub drained_below : (from number copied epoch : ℕ) → move_of before.moves slot ≡ Some (Comes from number copied (Some epoch)) → slot < 16384
  drained_below from number copied epoch move =
      let is : (was.seen n).move ≡ Some (Comes from number copied (Some epoch)) = sym moves_so ∙ move in
      let apart : n ≢ was.top.owner = coming_apart was.holds n number (record { from = from; copied = copied; drained = Some epoch; is = is }) in
      let leaving = ((was.holds.others n apart).drained from number copied epoch is).leaves in
      was.below was.top.owner was.top (λ none. no_some none leaving.is) was.holds.holder.entry

  pub import_ended_holds : (from number copied epoch newer : ℕ) → move_of before.moves slot ≡ Some (Comes from number copied (Some epoch)) → epoch < newer → length before.table ≡ 16384
      → HoldsAfter was (with_entry before slot (record { epoch = newer; owner = n }) newer) one
  import_ended_holds from number copied epoch newer move above whole =
      λ new changes.
      let below : slot < length before.table = omega (arith, drained_below from number copied epoch move, whole) in
      record {
        newest = record { epoch = newer; owner = n };
        holds = (laws new).import_ends from number copied epoch newer (record { move = move; above = above })
            (reached changes (ended_here before slot (record { epoch = newer; owner = n }) newer below));
      }
