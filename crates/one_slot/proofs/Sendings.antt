-- What a node sends or tells of a slot is true as it does so.
use Rattle.std.proofs.Common.{◌≡◌, ◌≢◌, ◌≤◌, ℕ, List, Option, Some, None, refl, sym, ap, subst, ◌∙◌, inl, inr, arith}
use Rattle.std.proofs.lemmas.Bool.{cases_eq}
use Rattle.std.specs.Map.{keys_of}
use Rattle.slot_table.specs.declared.entry.SlotEntry.{SlotEntry}
use Rattle.slot_state.specs.declared.running.Move.{Move}
use Rattle.slot_state.specs.declared.running.Move.TheVariants.{Leaves, Comes}
use Rattle.one_slot.specs.View.{Views}
use Rattle.one_slot.specs.Slot.{Holds, IsLeaving, IsComing, installed}
use Rattle.one_slot.specs.Sent.{HasAll, Drained, Copy, Ack, Claimed, Told, IsCopied, IsSent}
use Rattle.one_slot.specs.Events.{CopyIsSent, IsEmptied, IsAsked}
use Rattle.one_slot.proofs.ViewLemmas.{same_some, leaving_coming, installed_here}

module _ {X : Type 0} {top : SlotEntry} {views : Views X} {one : List ℕ → Option X} (holds : Holds top views one) where
  -- a node that a slot leaves is the holder, if it has a key
  pub leaving_holds : (n to number : ℕ) → IsLeaving (views n) to number → (key : List ℕ) (x : X) → (views n).value key ≡ Some x → n ≡ top.owner
  leaving_holds n to number leaving key x here =
      elim (cases_eq n top.owner) [
        | inl same ↦ same
        | inr other ↦ absurd (leaving_coming leaving ((holds.others n other).moving key x here).comes)
      ]

  -- a node that the slot comes to isn't the holder
  pub coming_apart : (n number : ℕ) → IsComing (views n) number → n ≢ top.owner
  coming_apart n number coming same = holds.holder.own number (subst (λ (i : ℕ). IsComing (views i) number) same coming)

  -- a slot that leaves the holder for a node comes to no node that holds it
  pub target_apart : (to number : ℕ) → IsLeaving (views top.owner) to number → to ≢ top.owner
  target_apart = holds.holder.other

  -- the copy of the frozen keys
  pub copy-is_sent : (n to number copies : ℕ) (pairs : List (List ℕ × X)) → CopyIsSent (views n) to number copies pairs → IsSent top views (Copy n to number copies pairs)
  copy-is_sent n to number copies pairs sending =
      let same : n ≡ top.owner = leaving_holds n to number (record { copies = copies; frozen = Some (keys_of pairs); is = sending.move }) sending.one (sending.each sending.one sending.among).0 (sending.each sending.one sending.among).1 in
      let leaves : (views top.owner).move ≡ Some (Leaves to number copies (Some (keys_of pairs))) = subst (λ (i : ℕ). (views i).move ≡ Some (Leaves to number copies (Some (keys_of pairs)))) same sending.move in
      inr (record {
        source = same;
        copies = copies;
        frozen = Some (keys_of pairs);
        leaves = leaves;
        first = (holds.holder.frozen to number copies (keys_of pairs) leaves).first;
        made = omega arith;
        newest = λ outstanding at is. (same_some is refl, subst (λ (i : ℕ). HasAll (views i).value pairs) same sending.here);
      })

  -- a slot that leaves has no key left
  pub drained-is_sent : (n to number epoch : ℕ) → IsEmptied (views n) to number epoch → IsSent top views (Drained n to number epoch)
  drained-is_sent n to number epoch emptied =
      elim (cases_eq n top.owner) [
        | inl same ↦
            let entry : (views top.owner).entry ≡ Some (record { epoch = epoch; owner = emptied.owner }) = subst (λ (i : ℕ). (views i).entry ≡ Some (record { epoch = epoch; owner = emptied.owner })) same emptied.entry in
            inr (record {
              source = same;
              leaves = subst (λ (i : ℕ). IsLeaving (views i) to number) same emptied.leaves;
              newest = ap (λ (e : SlotEntry). e.epoch) (same_some entry holds.holder.entry);
              empty = λ key. subst (λ (i : ℕ). (views i).value key ≡ None) same (emptied.empty key);
            })
        | inr other ↦ inl (holds.stale n other to number emptied.leaves)
      ]

  -- a claim to a slot that the table has as the node's own
  pub claim-is_sent : (n epoch : ℕ) → (views n).entry ≡ Some (record { epoch = epoch; owner = n }) → IsSent top views (Claimed n epoch)
  claim-is_sent n epoch is = holds.newest n (record { epoch = epoch; owner = n }) is

  -- the answer ASK to a command of whose keys none is there
  pub told-is_sent : (n to number : ℕ) (keys : List (List ℕ)) → IsAsked (views n) to number keys → IsSent top views (Told n to number keys)
  told-is_sent n to number keys asked =
      elim (cases_eq n top.owner) [
        | inl same ↦
            inr (record {
              teller = same;
              leaves = subst (λ (i : ℕ). IsLeaving (views i) to number) same asked.leaves;
              none = λ key among. subst (λ (i : ℕ). (views i).value key ≡ None) same (asked.none key among);
            })
        | inr other ↦ inl (holds.stale n other to number asked.leaves)
      ]

  -- a copy that comes to a node importing under its number is of the move that goes on
  pub live_copy : (from n number count : ℕ) (pairs : List (List ℕ × X)) → IsComing (views n) number → IsSent top views (Copy from n number count pairs)
      → IsCopied top (views top.owner) from n number count pairs
  live_copy from n number count pairs coming sent =
      elim sent [
        | inl over ↦ absurd (over.ended coming)
        | inr live ↦ live
      ]

  -- the acknowledgement of a copy that is installed
  pub ack-is_sent : (n from number count copied : ℕ) (drained : Option ℕ) (pairs : List (List ℕ × X)) → (views n).move ≡ Some (Comes from number copied drained) → count ≤ copied
      → IsSent top views (Copy from n number count pairs) → IsSent top views (Ack n from number count)
  ack-is_sent n from number count copied drained pairs is old sent =
      let live = live_copy from n number count pairs (record { from = from; copied = copied; drained = drained; is = is }) sent in
      let leaving : IsLeaving (views top.owner) n number = record { copies = live.copies; frozen = live.frozen; is = live.leaves } in
      let number_is : number ≡ (views from).last = subst (λ (i : ℕ). number ≡ (views i).last) (sym live.source) (holds.holder.last n number leaving) in
      record {
        last = omega arith;
        got = λ same going.
            let all : installed (views n).move top.owner number ≡ copied = ap (λ (m : Option Move). installed m top.owner number) is ∙ installed_here from number copied drained top.owner number live.source refl in
            omega arith;
      }
