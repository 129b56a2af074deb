-- A holder hands its slot to a node that was not seen, and is seen no more from then on; a node comes to sight without a slot, or is seen no
-- more.
use Rattle.std.proofs.Common.{◌≡◌, ◌≢◌, ◌≤◌, ◌<◌, ℕ, List, Option, Some, refl, sym, ap, subst, ◌∙◌, inl, inr, arith}
use Rattle.std.proofs.lemmas.Bool.{cases_eq}
use Rattle.slot_table.specs.declared.entry.SlotEntry.{SlotEntry}
use Rattle.slot_table.specs.Table.{owner_in}
use Rattle.slot_state.specs.declared.running.Move.{Move}
use Rattle.one_slot.specs.View.{View, Views}
use Rattle.one_slot.specs.Slot.{Holds, IsAtMost, IsOver, IsLeaving, IsCounted, IsHolder, IsElsewhere, installed}
use Rattle.one_slot.specs.Sent.{Sent, Drained, Copy, Ack, Claimed, Told, IsSent}
use Rattle.one_slot.specs.Events.{Changes, Keeps, HandsOver, ChangesBoth, Settles}
use Rattle.one_slot.proofs.ViewLemmas.{no_some, same_some, idle_leaves, idle_comes}
use Rattle.one_slot.proofs.Frames.{at_most_itself, still_shared, StaysAside, keeps_aside}

-- what holds of both new views and of the old ones elsewhere holds everywhere
module _ {X : Type 0} {old new : Views X} {n m : ℕ} {v w : View X} (changes : ChangesBoth old new n v m w) where
  at_places : (P : ℕ → View X → Type 0) → P n v → P m w → ((j : ℕ) → j ≢ n → j ≢ m → P j (old j)) → (j : ℕ) → P j (new j)
  at_places P one other rest j =
      elim (cases_eq j n) [
        | inl same ↦ subst (λ (i : ℕ). P i (new i)) (sym same) (subst (P n) (sym changes.one) one)
        | inr apart ↦
            elim (cases_eq j m) [
              | inl same ↦ subst (λ (i : ℕ). P i (new i)) (sym same) (subst (P m) (sym changes.other) other)
              | inr aside ↦ subst (P j) (sym (changes.rest j apart aside)) (rest j apart aside)
            ]
      ]

module _ {X : Type 0} {top : SlotEntry} {old new : Views X} {one : List ℕ → Option X} (holds : Holds top old one) where
  module _ (r newer : ℕ) (v w : View X) (hands : HandsOver (old top.owner) (old r) v r w newer) (apart : r ≢ top.owner) (above : top.epoch < newer)
      (changes : ChangesBoth old new top.owner v r w) where
    abbrev entry : SlotEntry
    entry = record { epoch = newer; owner = r }

    over_after : (node k : ℕ) → IsOver (old node) k → IsOver (new node) k
    over_after node k =
        at_places changes (λ (j : ℕ) (u : View X). IsOver (old j) k → IsOver u k)
        (λ over. record { reached = omega (arith, over.reached, hands.last_from); ended = λ coming. idle_comes hands.gone coming })
        (λ over. record { reached = omega (arith, over.reached, hands.last_to); ended = λ coming. idle_comes hands.rests coming })
        (λ j far away over. over) node

    last_after : (node : ℕ) → (old node).last ≤ (new node).last
    last_after = at_places changes (λ (j : ℕ) (u : View X). (old j).last ≤ u.last) (omega (arith, hands.last_from)) hands.last_to (λ j far away. omega arith)

    at_most_after : (e : SlotEntry) → IsAtMost top e → IsAtMost entry e
    at_most_after e was = record { epoch = omega (arith, was.epoch, above); owner = λ same. absurd (omega (arith, was.epoch, above, same)) }

    elsewhere_after : (j : ℕ) → j ≢ r → IsElsewhere entry w j (new j)
    elsewhere_after j other =
        at_places changes (λ (i : ℕ) (u : View X). i ≢ r → IsElsewhere entry w i u)
        (λ far. record {
          owned = λ named none. no_some (ap owner_in hands.hidden) named;
          foreign = λ k coming. absurd (idle_comes hands.gone coming);
          last = λ k coming. absurd (idle_comes hands.gone coming);
          thawed = λ to k c q is. no_some hands.gone is;
          moving = λ q x here. absurd (no_some (hands.empty q) here);
          both = λ k c f source count d q x z going comes here there. absurd (no_some hands.rests going);
          arrived = λ k c keys d q x going comes among here. absurd (no_some hands.rests going);
          counted = λ k c f going. absurd (no_some hands.rests going);
          copied = λ source k c d comes first. absurd (no_some hands.gone comes);
          drained = λ source k c e comes. absurd (no_some hands.gone comes);
        })
        (λ far. absurd (far refl))
        (λ i far away not_r.
        let was = holds.others i far in
        record {
          owned = was.owned;
          foreign = was.foreign;
          last = was.last;
          thawed = was.thawed;
          moving = λ q x here. absurd (idle_leaves hands.idle (was.moving q x here).leaves);
          both = λ k c f source count d q x z going comes here there. absurd (no_some hands.rests going);
          arrived = λ k c keys d q x going comes among here. absurd (no_some hands.rests going);
          counted = λ k c f going. absurd (no_some hands.rests going);
          copied = λ source k c d comes first. absurd (idle_leaves hands.idle (was.copied source k c d comes first).1);
          drained = λ source k c e comes. absurd (idle_leaves hands.idle (was.drained source k c e comes).leaves);
        }) j other

    stale_after : (j : ℕ) → j ≢ r → (to k : ℕ) → IsLeaving (new j) to k → IsOver (new to) k
    stale_after j other to k leaving =
        at_places changes (λ (i : ℕ) (u : View X). i ≢ r → IsLeaving u to k → IsOver (new to) k)
        (λ far leaves. absurd (idle_leaves hands.gone leaves)) (λ far leaves. absurd (far refl))
        (λ i far away not_r leaves. over_after to k (holds.stale i far to k leaves)) j other leaving

    sent_after : (s : Sent X) → IsSent top old s → IsSent entry new s
    sent_after (Drained a b k e) was = elim was [ inl over ↦ inl (over_after b k over) | inr live ↦ absurd (idle_leaves hands.idle live.leaves) ]
    sent_after (Copy a b k c pairs) was = elim was [ inl over ↦ inl (over_after b k over) | inr live ↦ absurd (no_some hands.idle live.leaves) ]
    sent_after (Ack a b k c) was = record {
      last = omega (arith, was.last, last_after b);
      got = λ same leaving. absurd (idle_leaves hands.rests (subst (λ (h : View X). IsLeaving h a k) changes.other leaving));
    }
    sent_after (Claimed a e) was = at_most_after (record { epoch = e; owner = a }) was
    sent_after (Told a b k keys) was = elim was [ inl over ↦ inl (over_after b k over) | inr live ↦ absurd (idle_leaves hands.idle live.leaves) ]

    value_of_new : (q : List ℕ) (x : X) → w.value q ≡ Some x → (new r).value q ≡ Some x
    value_of_new q x is = ap (λ (u : View X). u.value q) changes.other ∙ is

    -- the holder hands the slot over
    pub handed_over-keeps : Keeps top entry old new one
    handed_over-keeps = record {
      holds = record {
        newest = at_places changes (λ (j : ℕ) (u : View X). (e : SlotEntry) → u.entry ≡ Some e → IsAtMost entry e)
            (λ e named. absurd (no_some hands.hidden named)) (λ e named. subst (IsAtMost entry) (same_some hands.entry named) (at_most_itself entry))
            (λ j far away e named. at_most_after e (holds.newest j e named));
        holder = subst (IsHolder entry) (sym changes.other) (record {
          entry = hands.entry;
          own = λ k coming. idle_comes hands.rests coming;
          other = λ to k leaving. absurd (idle_leaves hands.rests leaving);
          last = λ to k leaving. absurd (idle_leaves hands.rests leaving);
          frozen = λ to k c q leaves. absurd (no_some hands.rests leaves);
        });
        others = λ j other. subst (λ (h : View X). IsElsewhere entry h j (new j)) (sym changes.other) (elsewhere_after j other);
        stale = λ j other to k leaving. stale_after j other to k leaving;
        keys = record {
          here = at_places changes (λ (j : ℕ) (u : View X). (q : List ℕ) (x : X) → u.value q ≡ Some x → one q ≡ Some x)
              (λ q x here. absurd (no_some (hands.empty q) here))
              (λ q x here. holds.keys.here top.owner q x (sym (hands.same q) ∙ here)) (λ j far away. holds.keys.here j);
          there = λ q x is.
              let found = holds.keys.there q x is in
              elim (cases_eq found.0 top.owner) [
                | inl same ↦ (r, value_of_new q x (hands.same q ∙ subst (λ (i : ℕ). (old i).value q ≡ Some x) same found.1))
                | inr far ↦
                    elim (cases_eq found.0 r) [
                      | inl same ↦ absurd (no_some (hands.nothing q) (subst (λ (i : ℕ). (old i).value q ≡ Some x) same found.1))
                      | inr away ↦ (found.0, ap (λ (u : View X). u.value q) (changes.rest found.0 far away) ∙ found.1)
                    ]
              ];
        };
      };
      sent = sent_after;
    }

  -- a node without a move and without keys of the slot, which isn't the holder, is seen otherwise, still so
  pub settled-keeps : (n : ℕ) (v : View X) → n ≢ top.owner → Settles top n (old n) v → Changes old new n v → Keeps top top old new one
  settled-keeps n v apart settles changes =
      let was = holds.others n apart in
      let none : (k : ℕ) → installed (old n).move top.owner k ≡ installed v.move top.owner k = λ k. ap (λ (m : Option Move). installed m top.owner k) (settles.idle ∙ sym settles.rests) in
      let aside : StaysAside top (old top.owner) (old n) v n = record {
        over = λ k over. record { reached = omega (arith, over.reached, settles.last); ended = λ coming. idle_comes settles.rests coming };
        last = settles.last;
        got = λ k leaving. omega (arith, none k);
        leaves = λ to k leaving. absurd (idle_leaves settles.rests leaving);
        newest = settles.newest;
        fine = record {
          owned = λ named idle. settles.foreign named;
          foreign = λ k coming. absurd (idle_comes settles.rests coming);
          last = λ k coming. absurd (idle_comes settles.rests coming);
          thawed = λ to k c q leaves. no_some settles.rests leaves;
          moving = λ q x here. absurd (no_some (settles.empty q) here);
          both = λ k c f source count d q x z leaves comes here there. absurd (no_some settles.rests comes);
          arrived = λ k c keys d q x leaves comes among here. absurd (no_some settles.rests comes);
          counted = λ k c f leaves. subst (IsCounted c f) (none k) (was.counted k c f leaves);
          copied = λ source k count d comes first. absurd (no_some settles.rests comes);
          drained = λ source k count e comes. absurd (no_some settles.rests comes);
        };
      } in
      keeps_aside holds changes apart aside
      (still_shared changes holds.keys (λ q x here. absurd (no_some (settles.empty q) here)) (λ q x here. absurd (no_some (settles.nothing q) here)))
