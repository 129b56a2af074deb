-- An import hears that the other node has no key left, and ends; a claim arrives.
use Rattle.std.proofs.Common.{◌≡◌, ◌≢◌, ◌≤◌, ◌==◌, ◌&&◌, ℕ, true, List, Option, Some, None, refl, sym, ap, subst, ◌∙◌, inl, inr, arith}
use Rattle.std.proofs.lemmas.Bool.{and_parts, cases_eq, eqb-true, ltb-true, or_cases}
use Rattle.std.specs.Prelude.{nat_lt}
use Rattle.slot_table.specs.declared.entry.SlotEntry.{SlotEntry}
use Rattle.slot_table.specs.Table.{owner_in}
use Rattle.slot_table.specs.Claims.{is_above}
use Rattle.slot_state.specs.declared.running.Move.{Move}
use Rattle.slot_state.specs.declared.running.Move.TheVariants.{Leaves, Comes}
use Rattle.one_slot.specs.View.{View, Views}
use Rattle.one_slot.specs.Slot.{Holds, IsAtMost, IsOver, IsLeaving, IsComing, IsHolder, IsElsewhere, IsDrained, IsCounted, installed}
use Rattle.one_slot.specs.Sent.{Sent, Drained, Copy, Ack, Claimed, Told, IsSent}
use Rattle.one_slot.specs.Events.{Changes, Keeps, drained_noted, ImportEnds, import_ended, ClaimIsTaken}
use Rattle.one_slot.proofs.ViewLemmas.{no_some, same_some, named_or_not, leaves_comes, same_comes, one_target, one_number, leaving_coming, idle_leaves, idle_comes}
use Rattle.one_slot.proofs.Frames.{at_most_itself, at_place, over_kept, last_kept, still_shared, StaysAside, keeps_aside}
use Rattle.one_slot.proofs.Sendings.{coming_apart}

module _ {X : Type 0} {top : SlotEntry} {old : Views X} {one : List ℕ → Option X} (holds : Holds top old one) where
  module _ {new : Views X} (n from number copied epoch : ℕ) (drained : Option ℕ) (is : (old n).move ≡ Some (Comes from number copied drained))
      (sent : IsSent top old (Drained from n number epoch)) (changes : Changes old new n (drained_noted (old n) from number copied epoch)) where
    abbrev noted : View X
    noted = drained_noted (old n) from number copied epoch

    comes_undrained : IsComing (old n) number
    comes_undrained = record { from = from; copied = copied; drained = drained; is = is }

    hearer : n ≢ top.owner
    hearer = coming_apart holds n number comes_undrained

    live_drained : IsDrained top (old top.owner) from n number epoch
    live_drained =
        elim sent [
          | inl over ↦ absurd (over.ended comes_undrained)
          | inr live ↦ live
        ]

    back_noted : (k : ℕ) → IsComing noted k → IsComing (old n) k
    back_noted k coming = subst (IsComing (old n)) (same_comes refl coming.is).number comes_undrained

    comes_before : (source k count : ℕ) (d : Option ℕ) → noted.move ≡ Some (Comes source k count d) → (old n).move ≡ Some (Comes source k count drained)
    comes_before source k count d comes = let same = same_comes refl comes in let move = is in cc

    comes_after : (k : ℕ) → IsComing (old n) k → IsComing noted k
    comes_after k coming = record { from = from; copied = copied; drained = Some epoch; is = ap (λ (j : ℕ). Some (Comes from j copied (Some epoch))) (same_comes is coming.is).number }

    noted_aside : StaysAside top (old top.owner) (old n) noted n
    noted_aside =
        let was = holds.others n hearer in
        record {
          over = λ k over. record { reached = over.reached; ended = λ coming. over.ended (back_noted k coming) };
          last = omega arith;
          got = λ k leaving. subst (λ (m : Option Move). installed m top.owner k ≤ installed noted.move top.owner k) (sym is) (omega arith);
          leaves = λ to k leaving. absurd (leaves_comes leaving.is refl);
          newest = holds.newest n;
          fine = record {
            owned = λ named none. no_some none refl;
            foreign = λ k coming. was.foreign k (back_noted k coming);
            last = λ k coming. was.last k (back_noted k coming);
            thawed = λ to k c q leaves. leaves_comes leaves refl;
            moving = λ q x here. let moving = was.moving q x here in record { number = moving.number; leaves = moving.leaves; comes = comes_after moving.number moving.comes };
            both = λ k c f source count d q x z leaves comes here there. was.both k c f source count drained q x z leaves (comes_before source k count d comes) here there;
            arrived = λ k c keys d q x leaves comes among here. was.arrived k c keys drained q x leaves (comes_before top.owner k c d comes) among here;
            counted = λ k c f leaves. subst (λ (m : Option Move). IsCounted c f (installed m top.owner k)) is (was.counted k c f leaves);
            copied = λ source k count d comes first. was.copied source k count drained (comes_before source k count d comes) first;
            drained = λ source k count e comes.
                let same = same_comes refl comes in
                record {
                  source = sym same.source ∙ live_drained.source;
                  leaves = subst (IsLeaving (old top.owner) n) same.number live_drained.leaves;
                  newest = sym (same_some refl same.drained) ∙ live_drained.newest;
                  empty = live_drained.empty;
                };
          };
        }

    -- an import hears that the other node has no key left
    pub drained_noted-keeps : Keeps top top old new one
    drained_noted-keeps =
        keeps_aside holds changes hearer noted_aside
        (still_shared changes holds.keys (holds.keys.here n) (λ q x here. inl here))

  module _ {new : Views X} (n from number copied epoch newer : ℕ) (ends : ImportEnds (old n) from number copied epoch newer)
      (changes : Changes old new n (import_ended (old n) (record { epoch = newer; owner = n }))) where
    abbrev entry : SlotEntry
    entry = record { epoch = newer; owner = n }

    abbrev ended : View X
    ended = import_ended (old n) entry

    comes_to_end : IsComing (old n) number
    comes_to_end = record { from = from; copied = copied; drained = Some epoch; is = ends.move }

    taker : n ≢ top.owner
    taker = coming_apart holds n number comes_to_end

    all_here : IsDrained top (old top.owner) from n number epoch
    all_here = (holds.others n taker).drained from number copied epoch ends.move

    reached_end : number ≡ (old n).last
    reached_end = (holds.others n taker).last number comes_to_end

    over_end : (node k : ℕ) → IsOver (old node) k → IsOver (new node) k
    over_end = over_kept changes (λ k over. record { reached = over.reached; ended = λ coming. idle_comes refl coming })

    -- the move that went on is over now
    move_over : (to k : ℕ) → IsLeaving (old top.owner) to k → IsOver (new to) k
    move_over to k leaving =
        subst (λ (i : ℕ). IsOver (new i) k) (one_target all_here.leaves leaving)
        (subst (λ (w : View X). IsOver w k) (sym changes.here)
        (record { reached = omega (arith, reached_end, one_number all_here.leaves leaving); ended = λ coming. idle_comes refl coming }))

    at_most_after : (e : SlotEntry) → IsAtMost top e → IsAtMost entry e
    at_most_after e was = record { epoch = omega (arith, was.epoch, ends.above, all_here.newest); owner = λ same. absurd (omega (arith, was.epoch, ends.above, all_here.newest, same)) }

    new_holder : IsHolder entry ended
    new_holder = record {
      entry = refl;
      own = λ k coming. idle_comes refl coming;
      other = λ to k leaving. absurd (idle_leaves refl leaving);
      last = λ to k leaving. absurd (idle_leaves refl leaving);
      frozen = λ to k c q leaves. absurd (no_some refl leaves);
    }

    -- the old holder's move is over, and it has no key
    old_holder : n ≢ top.owner → IsElsewhere entry ended top.owner (old top.owner)
    old_holder other =
        let leaves = all_here.leaves in
        record {
          owned = λ named none. idle_leaves none leaves;
          foreign = λ k coming. absurd (leaving_coming leaves coming);
          last = λ k coming. absurd (leaving_coming leaves coming);
          thawed = λ to k c q is. let frozen = holds.holder.frozen to k c q is in no_some (all_here.empty frozen.one) (frozen.here frozen.one frozen.among).1;
          moving = λ q x here. absurd (no_some (all_here.empty q) here);
          both = λ k c f source count d q x z going comes here there. absurd (no_some refl going);
          arrived = λ k c keys d q x going comes among here. absurd (no_some refl going);
          counted = λ k c f going. absurd (no_some refl going);
          copied = λ source k c d comes first. absurd (leaves_comes leaves.is comes);
          drained = λ source k c e comes. absurd (leaves_comes leaves.is comes);
        }

    -- no other node is in the move that ended
    other_node : (j : ℕ) → j ≢ n → j ≢ top.owner → IsElsewhere entry ended j (old j)
    other_node j apart other =
        let was = holds.others j other in
        record {
          owned = was.owned;
          foreign = was.foreign;
          last = was.last;
          thawed = was.thawed;
          moving = λ q x here. absurd (apart (sym (one_target all_here.leaves (was.moving q x here).leaves)));
          both = λ k c f source count d q x z going comes here there. absurd (no_some refl going);
          arrived = λ k c keys d q x going comes among here. absurd (no_some refl going);
          counted = λ k c f going. absurd (no_some refl going);
          copied = λ source k c d comes first. absurd (apart (sym (one_target all_here.leaves (was.copied source k c d comes first).1)));
          drained = λ source k c e comes. absurd (apart (sym (one_target all_here.leaves (was.drained source k c e comes).leaves)));
        }

    each_other : (j : ℕ) → j ≢ n → IsElsewhere entry ended j (old j)
    each_other j apart =
        elim (cases_eq j top.owner) [
          | inl same ↦ subst (λ (i : ℕ). IsElsewhere entry ended i (old i)) (sym same) (old_holder taker)
          | inr other ↦ other_node j apart other
        ]

    stale_before : (j to k : ℕ) → IsLeaving (old j) to k → IsOver (new to) k
    stale_before j to k leaving =
        elim (cases_eq j top.owner) [
          | inl same ↦ move_over to k (subst (λ (i : ℕ). IsLeaving (old i) to k) same leaving)
          | inr other ↦ over_end to k (holds.stale j other to k leaving)
        ]

    sent_end : (s : Sent X) → IsSent top old s → IsSent entry new s
    sent_end (Drained a b k e) was = elim was [ inl over ↦ inl (over_end b k over) | inr live ↦ inl (move_over b k live.leaves) ]
    sent_end (Copy a b k c pairs) was =
        elim was [
          | inl over ↦ inl (over_end b k over)
          | inr live ↦ inl (move_over b k (record { copies = live.copies; frozen = live.frozen; is = live.leaves }))
        ]
    sent_end (Ack a b k c) was = record {
      last = let grows : (old b).last ≤ (new b).last = last_kept changes (omega arith) b in omega (arith, was.last);
      got = λ same leaving. absurd (idle_leaves refl (subst (λ (h : View X). IsLeaving h a k) changes.here leaving));
    }
    sent_end (Claimed a e) was = at_most_after (record { epoch = e; owner = a }) was
    sent_end (Told a b k keys) was = elim was [ inl over ↦ inl (over_end b k over) | inr live ↦ inl (move_over b k live.leaves) ]

    -- an import ends, and its node is the holder
    pub import_ends-keeps : Keeps top entry old new one
    import_ends-keeps = record {
      holds = record {
        newest = at_place changes (λ (j : ℕ) (w : View X). (e : SlotEntry) → w.entry ≡ Some e → IsAtMost entry e)
            (λ e named. subst (IsAtMost entry) (same_some refl named) (at_most_itself entry)) (λ j other e named. at_most_after e (holds.newest j e named));
        holder = subst (IsHolder entry) (sym changes.here) new_holder;
        others = λ j other.
            subst (λ (h : View X). IsElsewhere entry h j (new j)) (sym changes.here)
            (subst (IsElsewhere entry ended j) (sym (changes.there j other)) (each_other j other));
        stale = λ j other to k leaving. stale_before j to k (subst (λ (w : View X). IsLeaving w to k) (changes.there j other) leaving);
        keys = still_shared changes holds.keys (holds.keys.here n) (λ q x here. inl here);
      };
      sent = sent_end;
    }

  -- nothing sent is above the holder's entry
  not_above : (claim : SlotEntry) → IsAtMost top claim → is_above claim (Some top) ≡ true → ⊥
  not_above claim most above =
      elim (or_cases (nat_lt top.epoch claim.epoch) (top.epoch == claim.epoch && nat_lt top.owner claim.owner) above) [
        | inl newer ↦ omega (arith, ltb-true top.epoch claim.epoch newer, most.epoch)
        | inr both ↦
            let parts = and_parts (top.epoch == claim.epoch) (nat_lt top.owner claim.owner) both in
            omega (arith, most.owner (sym (eqb-true top.epoch claim.epoch parts.0)), ltb-true top.owner claim.owner parts.1)
      ]

  module _ {new : Views X} (n : ℕ) (claim : SlotEntry) (v : View X) (most : IsAtMost top claim) (taken : ClaimIsTaken n (old n) claim v) (changes : Changes old new n v) where
    loser : n ≢ top.owner
    loser same = not_above claim most (ap (is_above claim) (sym (subst (λ (i : ℕ). (old i).entry ≡ Some top) (sym same) holds.holder.entry)) ∙ taken.above)

    was_elsewhere : IsElsewhere top (old top.owner) n (old n)
    was_elsewhere = holds.others n loser

    named_other : owner_in v.entry ≢ Some n
    named_other named = taken.other (same_some (ap owner_in taken.entry) named)

    newest_claimed : (known : SlotEntry) → v.entry ≡ Some known → IsAtMost top known
    newest_claimed known is = subst (IsAtMost top) (same_some taken.entry is) most

    -- a slot that is lost was leaving, and has no move then
    lost_by_move : (m : Option Move) → (old n).move ≡ m → owner_in (old n).entry ≡ Some n → (v.move ≡ None) × ((k : ℕ) → installed (old n).move top.owner k ≡ 0)
    lost_by_move None is named = absurd (was_elsewhere.owned named is)
    lost_by_move (Some (Leaves to k c f)) is named =
        (taken.lost named to k (record { copies = c; frozen = f; is = is }), λ j. ap (λ (m : Option Move). installed m top.owner j) is)
    lost_by_move (Some (Comes from k c d)) is named = absurd (was_elsewhere.foreign k (record { from = from; copied = c; drained = d; is = is }) named)

    module _ (named : owner_in (old n).entry ≡ Some n) where
      gone : v.move ≡ None
      gone = (lost_by_move (old n).move refl named).0

      none_before : (k : ℕ) → installed (old n).move top.owner k ≡ 0
      none_before = (lost_by_move (old n).move refl named).1

      lost_aside : StaysAside top (old top.owner) (old n) v n
      lost_aside = record {
        over = λ k over. record { reached = omega (arith, over.reached, taken.last); ended = λ coming. idle_comes gone coming };
        last = omega (arith, taken.last);
        got = λ k leaving. omega (arith, none_before k);
        leaves = λ to k leaving. absurd (idle_leaves gone leaving);
        newest = newest_claimed;
        fine = record {
          owned = λ own idle. named_other own;
          foreign = λ k coming. absurd (idle_comes gone coming);
          last = λ k coming. absurd (idle_comes gone coming);
          thawed = λ to k c q leaves. no_some gone leaves;
          moving = λ q x here. absurd (no_some (taken.deleted named q) here);
          both = λ k c f source count d q x z leaves comes here there. absurd (no_some gone comes);
          arrived = λ k c keys d q x leaves comes among here. absurd (no_some gone comes);
          counted = λ k c f leaves. subst (IsCounted c f) (none_before k ∙ sym (ap (λ (m : Option Move). installed m top.owner k) gone)) (was_elsewhere.counted k c f leaves);
          copied = λ source k count d comes first. absurd (no_some gone comes);
          drained = λ source k count e comes. absurd (no_some gone comes);
        };
      }

    module _ (other : owner_in (old n).entry ≢ Some n) where
      move_stays : v.move ≡ (old n).move
      move_stays = taken.move other

      value_stays : (key : List ℕ) → v.value key ≡ (old n).value key
      value_stays key = ap (λ (g : List ℕ → Option X). g key) (taken.value other)

      back_claimed : (k : ℕ) → IsComing v k → IsComing (old n) k
      back_claimed k coming = record { from = coming.from; copied = coming.copied; drained = coming.drained; is = sym move_stays ∙ coming.is }

      kept_aside : StaysAside top (old top.owner) (old n) v n
      kept_aside = record {
        over = λ k over. record { reached = omega (arith, over.reached, taken.last); ended = λ coming. over.ended (back_claimed k coming) };
        last = omega (arith, taken.last);
        got = λ k leaving. subst (λ (m : Option Move). installed (old n).move top.owner k ≤ installed m top.owner k) (sym move_stays) (omega arith);
        leaves = λ to k leaving. record { copies = leaving.copies; frozen = leaving.frozen; is = sym move_stays ∙ leaving.is };
        newest = newest_claimed;
        fine = record {
          owned = λ own idle. named_other own;
          foreign = λ k coming own. named_other own;
          last = λ k coming. was_elsewhere.last k (back_claimed k coming) ∙ sym taken.last;
          thawed = λ to k c q leaves. was_elsewhere.thawed to k c q (sym move_stays ∙ leaves);
          moving = λ q x here.
              let moving = was_elsewhere.moving q x (sym (value_stays q) ∙ here) in
              let comes = moving.comes in
              record { number = moving.number; leaves = moving.leaves; comes = record { from = comes.from; copied = comes.copied; drained = comes.drained; is = move_stays ∙ comes.is } };
          both = λ k c f source count d q x z leaves comes here there. was_elsewhere.both k c f source count d q x z leaves (sym move_stays ∙ comes) (sym (value_stays q) ∙ here) there;
          arrived = λ k c keys d q x leaves comes among here. value_stays q ∙ was_elsewhere.arrived k c keys d q x leaves (sym move_stays ∙ comes) among here;
          counted = λ k c f leaves. subst (λ (m : Option Move). IsCounted c f (installed m top.owner k)) (sym move_stays) (was_elsewhere.counted k c f leaves);
          copied = λ source k count d comes first. was_elsewhere.copied source k count d (sym move_stays ∙ comes) first;
          drained = λ source k count e comes. was_elsewhere.drained source k count e (sym move_stays ∙ comes);
        };
      }

    -- a claim that counts arrives
    pub claim_taken-keeps : Keeps top top old new one
    claim_taken-keeps =
        elim (named_or_not (owner_in (old n).entry) n) [
          | inl named ↦
              keeps_aside holds changes loser (lost_aside named)
              (still_shared changes holds.keys (λ q x here. absurd (no_some (taken.deleted named q) here))
              (λ q x here. let moving = was_elsewhere.moving q x here in absurd (was_elsewhere.foreign moving.number moving.comes named)))
          | inr other ↦
              keeps_aside holds changes loser (kept_aside other)
              (still_shared changes holds.keys (λ q x here. holds.keys.here n q x (sym (value_stays other q) ∙ here)) (λ q x here. inl (value_stays other q ∙ here)))
        ]
