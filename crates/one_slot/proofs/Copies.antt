-- A copy is ordered, arrives, and is acknowledged.
use Rattle.std.proofs.Common.{◌≡◌, ◌≢◌, ◌≤◌, ◌+◌, ℕ, List, Option, Some, None, Contains, refl, sym, ap, subst, ◌∙◌, inl, inr, arith}
use Rattle.std.proofs.lemmas.Bool.{cases_eq}
use Rattle.std.specs.Map.{keys_of}
use Rattle.slot_table.specs.declared.entry.SlotEntry.{SlotEntry}
use Rattle.slot_state.specs.declared.running.Move.{Move}
use Rattle.slot_state.specs.declared.running.Move.TheVariants.{Leaves, Comes}
use Rattle.one_slot.specs.View.{View, Views}
use Rattle.one_slot.specs.Slot.{Freezes, Holds, IsLeaving, IsComing, IsCounted, IsFrozen, installed}
use Rattle.one_slot.specs.Sent.{HasAll, Copy, Ack, IsCopied, IsSent}
use Rattle.one_slot.specs.Events.{Changes, Keeps, Puts, Removes, CopyIsOrdered, copy_ordered, copy_installed, copy_acknowledged}
use Rattle.one_slot.proofs.KeyLemmas.{among_or_not}
use Rattle.one_slot.proofs.ViewLemmas.{no_some, same_some, none_or_some, leaves_comes, same_leaves, same_comes, installed_here, installed_grows, installed_some}
use Rattle.one_slot.proofs.Frames.{still_shared, StaysAside, keeps_aside, StaysAhead, keeps_ahead}
use Rattle.one_slot.proofs.Sendings.{leaving_holds, coming_apart, live_copy}

module _ {X : Type 0} {top : SlotEntry} {old : Views X} {one : List ℕ → Option X} (holds : Holds top old one) where
  abbrev before : View X
  before = old top.owner

  module _ {new : Views X} (to number copies : ℕ) (keys : List (List ℕ)) (ordered : CopyIsOrdered before to number copies keys)
      (changes : Changes old new top.owner (copy_ordered before to number copies keys)) where
    abbrev after_order : View X
    after_order = copy_ordered before to number copies keys

    one_here : (x : X) × (before.value ordered.one ≡ Some x)
    one_here = ordered.here ordered.one ordered.among

    -- where the slot leaves for after the order it left for before
    left_before : (target k c : ℕ) (f : Option (List (List ℕ))) → after_order.move ≡ Some (Leaves target k c f) → before.move ≡ Some (Leaves target k copies None)
    left_before target k c f is = let same = same_leaves refl is in let move = ordered.move in cc

    back_order : (target k : ℕ) → IsLeaving after_order target k → IsLeaving before target k
    back_order target k leaving = record { copies = copies; frozen = None; is = left_before target k leaving.copies leaving.frozen leaving.is }

    left_after : (target k c : ℕ) (f : Option (List (List ℕ))) → before.move ≡ Some (Leaves target k c f) → after_order.move ≡ Some (Leaves target k (copies + 1) (Some keys))
    left_after target k c f is = let same = same_leaves ordered.move is in cc

    forth_order : (target k : ℕ) → IsLeaving before target k → IsLeaving after_order target k
    forth_order target k leaving = record { copies = copies + 1; frozen = Some keys; is = left_after target k leaving.copies leaving.frozen leaving.is }

    -- all earlier copies are installed
    order_counted : (j : ℕ) → j ≢ top.owner → (k c : ℕ) (f : Option (List (List ℕ))) → after_order.move ≡ Some (Leaves j k c f) → installed (old j).move top.owner k ≡ copies
    order_counted j other k c f is = ((holds.others j other).counted k copies None (left_before j k c f is)).settled refl

    order_ahead : StaysAhead top before after_order old
    order_ahead = record {
      holder = record {
        entry = holds.holder.entry;
        own = λ k coming. leaves_comes refl coming.is;
        other = λ target k leaving. holds.holder.other target k (back_order target k leaving);
        last = λ target k leaving. holds.holder.last target k (back_order target k leaving);
        frozen = λ target k c outstanding is.
            let same = same_leaves refl is in
            let all : keys ≡ outstanding = same_some refl same.frozen in
            record {
              first = omega (arith, same.copies);
              one = ordered.one;
              among = subst (λ (ks : List (List ℕ)). Contains ks ordered.one) all ordered.among;
              here = λ q among. ordered.here q (subst (λ (ks : List (List ℕ)). Contains ks q) (sym all) among);
            };
      };
      last = omega arith;
      others = λ j other.
          let was = holds.others j other in
          record {
            owned = was.owned;
            foreign = was.foreign;
            last = was.last;
            thawed = was.thawed;
            moving = λ q x is. let moving = was.moving q x is in record { number = moving.number; leaves = forth_order j moving.number moving.leaves; comes = moving.comes };
            both = λ k c f from copied drained q x z leaves comes here there.
                absurd (was.both k copies None from copied drained q x z (left_before j k c f leaves) comes here there).2;
            arrived = λ k c outstanding drained q x leaves comes among here.
                let same = same_leaves refl leaves in
                let all = order_counted j other k c (Some outstanding) leaves in
                let now : installed (old j).move top.owner k ≡ c = ap (λ (m : Option Move). installed m top.owner k) comes ∙ installed_here top.owner k c drained top.owner k refl refl in
                absurd (omega (arith, all, now, same.copies));
            counted = λ k c f leaves.
                let same = same_leaves refl leaves in
                let all = order_counted j other k c f leaves in
                record { made = omega (arith, all, same.copies); next = omega (arith, all, same.copies); settled = λ none. absurd (no_some none (sym same.frozen)) };
            copied = λ from k copied drained is first. let copied_so = was.copied from k copied drained is first in (copied_so.0, forth_order j k copied_so.1);
            drained = λ from k copied epoch is. absurd (no_some ((was.drained from k copied epoch is).empty ordered.one) one_here.1);
          };
      leaves = forth_order;
      earlier = λ target k leaving reached. back_order target k leaving;
      empty = λ target k leaving none. absurd (no_some (none ordered.one) one_here.1);
      copied = λ from target k count pairs live.
          let same = same_leaves ordered.move live.leaves in
          record {
            source = live.source;
            copies = copies + 1;
            frozen = Some keys;
            leaves = left_after target k live.copies live.frozen live.leaves;
            first = live.first;
            made = omega (arith, live.made, same.copies);
            newest = λ outstanding at is. absurd (omega (arith, live.made, same.copies, at));
          };
      told = λ target k leaving others none. none;
    }

    order_at_holder : Keeps top top old new one
    order_at_holder = keeps_ahead holds changes order_ahead (still_shared changes holds.keys (holds.keys.here top.owner) (λ q x is. inl is))

  -- a copy is ordered
  pub copy_ordered-keeps : {new : Views X} (n to number copies : ℕ) (keys : List (List ℕ)) → CopyIsOrdered (old n) to number copies keys
      → Changes old new n (copy_ordered (old n) to number copies keys) → Keeps top top old new one
  copy_ordered-keeps {new = new} n to number copies keys ordered changes =
      let here = ordered.here ordered.one ordered.among in
      subst (λ (i : ℕ). CopyIsOrdered (old i) to number copies keys → Changes old new i (copy_ordered (old i) to number copies keys) → Keeps top top old new one)
      (sym (leaving_holds holds n to number (record { copies = copies; frozen = None; is = ordered.move }) ordered.one here.0 here.1))
      (order_at_holder to number copies keys) ordered changes

  module _ {new : Views X} (n from number copied : ℕ) (drained : Option ℕ) (pairs : List (List ℕ × X)) (values : List ℕ → Option X)
      (is : (old n).move ≡ Some (Comes from number copied drained)) (sent : IsSent top old (Copy from n number (copied + 1) pairs))
      (puts : Puts (old n).value values pairs) (changes : Changes old new n (copy_installed (old n) from number copied drained values)) where
    abbrev after_copy : View X
    after_copy = copy_installed (old n) from number copied drained values

    comes_before : IsComing (old n) number
    comes_before = record { from = from; copied = copied; drained = drained; is = is }

    importer : n ≢ top.owner
    importer = coming_apart holds n number comes_before

    live : IsCopied top before from n number (copied + 1) pairs
    live = live_copy holds from n number (copied + 1) pairs comes_before sent

    -- it is the last copy that was made
    count_before : IsCounted live.copies live.frozen copied
    count_before =
        let here : installed (old n).move top.owner number ≡ copied = ap (λ (m : Option Move). installed m top.owner number) is ∙ installed_here from number copied drained top.owner number live.source refl in
        subst (IsCounted live.copies live.frozen) here ((holds.others n importer).counted number live.copies live.frozen live.leaves)

    last_copy : copied + 1 ≡ live.copies
    last_copy = omega (arith, count_before.next, live.made)

    frozen_now : (live.frozen ≡ Some (keys_of pairs)) × HasAll before.value pairs
    frozen_now =
        elim (none_or_some live.frozen) [
          | inl none ↦ absurd (omega (arith, count_before.settled none, last_copy))
          | inr some ↦ let newest = live.newest some.0 last_copy some.1 in (some.1 ∙ ap Some newest.0, newest.1)
        ]

    leaves_now : before.move ≡ Some (Leaves n number (copied + 1) (Some (keys_of pairs)))
    leaves_now = let move = live.leaves in let frozen = frozen_now.0 in let count = last_copy in cc

    leaving_now : IsLeaving before n number
    leaving_now = record { copies = copied + 1; frozen = Some (keys_of pairs); is = leaves_now }

    frozen_keys : IsFrozen before (copied + 1) (keys_of pairs)
    frozen_keys = holds.holder.frozen n number (copied + 1) (keys_of pairs) leaves_now

    -- a key that is installed has the holder's value
    put : (q : List ℕ) → Contains (keys_of pairs) q → values q ≡ before.value q
    put q among = let at = puts.at q among in at.2 ∙ sym (frozen_now.1 q at.0 at.1)

    back_copy : (k : ℕ) → IsComing after_copy k → IsComing (old n) k
    back_copy k coming = subst (IsComing (old n)) (same_comes refl coming.is).number comes_before

    copy_aside : StaysAside top before (old n) after_copy n
    copy_aside =
        let was = holds.others n importer in
        record {
          over = λ k over. record { reached = over.reached; ended = λ coming. over.ended (back_copy k coming) };
          last = omega arith;
          got = λ k leaving.
              subst (λ (m : Option Move). installed m top.owner k ≤ installed after_copy.move top.owner k) (sym is) (installed_grows from number copied drained top.owner k);
          leaves = λ target k leaving. absurd (leaves_comes leaving.is refl);
          newest = holds.newest n;
          fine = record {
            owned = λ named none. no_some none refl;
            foreign = λ k coming. was.foreign k (back_copy k coming);
            last = λ k coming. was.last k (back_copy k coming);
            thawed = λ target k c q leaves. leaves_comes leaves refl;
            moving = λ q x here. record { number = number; leaves = leaving_now; comes = record { from = from; copied = copied + 1; drained = drained; is = refl } };
            both = λ k c f source count d q x z leaves comes here there.
                let same = same_leaves leaves_now leaves in
                let coming = same_comes refl comes in
                elim (among_or_not (keys_of pairs) q) [
                  | inl among ↦ (sym coming.source ∙ live.source, omega (arith, coming.copied, same.copies), subst (λ (g : Option (List (List ℕ))). Freezes g q) same.frozen among)
                  | inr not_among ↦
                      let far = was.both number (copied + 1) (Some (keys_of pairs)) from copied drained q x z leaves_now is (sym (puts.rest q not_among) ∙ here) there in
                      absurd (omega (arith, far.1))
                ];
            arrived = λ k c outstanding d q x leaves comes among here.
                let all : keys_of pairs ≡ outstanding = same_some refl (same_leaves leaves_now leaves).frozen in
                put q (subst (λ (ks : List (List ℕ)). Contains ks q) (sym all) among) ∙ here;
            counted = λ k c f leaves.
                let same = same_leaves leaves_now leaves in
                let here : installed after_copy.move top.owner k ≡ copied + 1 = installed_here from number (copied + 1) drained top.owner k live.source same.number in
                record { made = omega (arith, here, same.copies); next = omega (arith, here, same.copies); settled = λ none. omega (arith, here, same.copies) };
            copied = λ source k c d comes first.
                let coming = same_comes refl comes in
                (sym coming.source ∙ live.source, subst (IsLeaving before n) coming.number leaving_now);
            drained = λ source k c epoch comes.
                let noted : drained ≡ Some epoch = (same_comes refl comes).drained in
                let before_it : (old n).move ≡ Some (Comes from number copied (Some epoch)) = is ∙ ap (λ (d : Option ℕ). Some (Comes from number copied d)) noted in
                absurd (no_some ((was.drained from number copied epoch before_it).empty frozen_keys.one) (frozen_keys.here frozen_keys.one frozen_keys.among).1);
          };
        }

    value_copied : (q : List ℕ) → Contains (keys_of pairs) q → one q ≡ values q
    value_copied q among = let here = frozen_keys.here q among in holds.keys.here top.owner q here.0 here.1 ∙ sym here.1 ∙ sym (put q among)

    -- the copy that comes next is installed
    pub copy_installed-keeps : Keeps top top old new one
    copy_installed-keeps =
        keeps_aside holds changes importer copy_aside
        (still_shared changes holds.keys
        (λ q x here.
        elim (among_or_not (keys_of pairs) q) [
          | inl among ↦ value_copied q among ∙ here
          | inr not_among ↦ holds.keys.here n q x (sym (puts.rest q not_among) ∙ here)
        ])
        (λ q x here.
        elim (among_or_not (keys_of pairs) q) [
          | inl among ↦ inl (sym (value_copied q among) ∙ holds.keys.here n q x here)
          | inr not_among ↦ inl (puts.rest q not_among ∙ here)
        ]))

  module _ {new : Views X} (to number copies : ℕ) (keys : List (List ℕ)) (values : List ℕ → Option X)
      (is : before.move ≡ Some (Leaves to number copies (Some keys))) (sent : IsSent top old (Ack to top.owner number copies))
      (removes : Removes before.value values keys) (changes : Changes old new top.owner (copy_acknowledged before to number copies values)) where
    abbrev after_ack : View X
    after_ack = copy_acknowledged before to number copies values

    leaving_before : IsLeaving before to number
    leaving_before = record { copies = copies; frozen = Some keys; is = is }

    frozen_before : IsFrozen before copies keys
    frozen_before = holds.holder.frozen to number copies keys is

    target : to ≢ top.owner
    target = holds.holder.other to number leaving_before

    left_before_ack : (other k c : ℕ) (f : Option (List (List ℕ))) → after_ack.move ≡ Some (Leaves other k c f) → before.move ≡ Some (Leaves other k c (Some keys))
    left_before_ack other k c f leaves = let same = same_leaves refl leaves in let move = is in cc

    back_ack : (other k : ℕ) → IsLeaving after_ack other k → IsLeaving before other k
    back_ack other k leaving = record { copies = leaving.copies; frozen = Some keys; is = left_before_ack other k leaving.copies leaving.frozen leaving.is }

    left_after_ack : (other k c : ℕ) (f : Option (List (List ℕ))) → before.move ≡ Some (Leaves other k c f) → after_ack.move ≡ Some (Leaves other k c None)
    left_after_ack other k c f leaves = let same = same_leaves is leaves in cc

    forth_ack : (other k : ℕ) → IsLeaving before other k → IsLeaving after_ack other k
    forth_ack other k leaving = record { copies = leaving.copies; frozen = None; is = left_after_ack other k leaving.copies leaving.frozen leaving.is }

    -- all copies are installed at the other node
    all_installed : installed (old to).move top.owner number ≡ copies
    all_installed =
        let got : copies ≤ installed (old to).move top.owner number = sent.got refl leaving_before in
        omega (arith, got, ((holds.others to target).counted number copies (Some keys) is).made)

    one_frozen : (x : X) × (before.value frozen_before.one ≡ Some x)
    one_frozen = frozen_before.here frozen_before.one frozen_before.among

    key_moved : (key : List ℕ) (x : X) → Contains keys key → before.value key ≡ Some x → (old to).value key ≡ Some x
    key_moved key x among here =
        let first : 1 ≤ copies = frozen_before.first in
        let all = all_installed in
        let some = installed_some (old to).move top.owner number (omega arith) in
        let comes : (old to).move ≡ Some (Comes top.owner number copies some.0) = some.1 ∙ ap (λ (c : ℕ). Some (Comes top.owner number c some.0)) all in
        (holds.others to target).arrived number copies keys some.0 key x is comes among here

    ack_ahead : StaysAhead top before after_ack old
    ack_ahead = record {
      holder = record {
        entry = holds.holder.entry;
        own = λ k coming. leaves_comes refl coming.is;
        other = λ other k leaving. holds.holder.other other k (back_ack other k leaving);
        last = λ other k leaving. holds.holder.last other k (back_ack other k leaving);
        frozen = λ other k c outstanding leaves. absurd (no_some refl (same_leaves refl leaves).frozen);
      };
      last = omega arith;
      others = λ j other.
          let was = holds.others j other in
          record {
            owned = was.owned;
            foreign = was.foreign;
            last = was.last;
            thawed = was.thawed;
            moving = λ q x here. let moving = was.moving q x here in record { number = moving.number; leaves = forth_ack j moving.number moving.leaves; comes = moving.comes };
            both = λ k c f from count d q x z leaves comes here there.
                elim (among_or_not keys q) [
                  | inl among ↦ absurd (no_some (removes.at q among) there)
                  | inr not_among ↦ absurd (not_among (was.both k c (Some keys) from count d q x z (left_before_ack j k c f leaves) comes here (sym (removes.rest q not_among) ∙ there)).2)
                ];
            arrived = λ k c outstanding d q x leaves comes among here. absurd (no_some refl (same_leaves refl leaves).frozen);
            counted = λ k c f leaves.
                let same = same_leaves refl leaves in
                let all : installed (old j).move top.owner k ≡ copies =
                subst (λ (i : ℕ). installed (old i).move top.owner k ≡ copies) same.target
                (subst (λ (q : ℕ). installed (old to).move top.owner q ≡ copies) same.number all_installed) in
                record { made = omega (arith, all, same.copies); next = omega (arith, all, same.copies); settled = λ none. omega (arith, all, same.copies) };
            copied = λ from k count d comes first. let copied_so = was.copied from k count d comes first in (copied_so.0, forth_ack j k copied_so.1);
            drained = λ from k count epoch comes. absurd (no_some ((was.drained from k count epoch comes).empty frozen_before.one) one_frozen.1);
          };
      leaves = forth_ack;
      earlier = λ other k leaving reached. back_ack other k leaving;
      empty = λ other k leaving none. absurd (no_some (none frozen_before.one) one_frozen.1);
      copied = λ from other k count pairs live.
          record {
            source = live.source;
            copies = live.copies;
            frozen = None;
            leaves = left_after_ack other k live.copies live.frozen live.leaves;
            first = live.first;
            made = live.made;
            newest = λ outstanding at none. absurd (no_some refl none);
          };
      told = λ other k leaving others none q told.
          elim (among_or_not keys q) [
            | inl among ↦ removes.at q among
            | inr not_among ↦ removes.rest q not_among ∙ none q told
          ];
    }

    ack_at_holder : Keeps top top old new one
    ack_at_holder =
        keeps_ahead holds changes ack_ahead
        (still_shared changes holds.keys
        (λ q x here.
        elim (among_or_not keys q) [
          | inl among ↦ absurd (no_some (removes.at q among) here)
          | inr not_among ↦ holds.keys.here top.owner q x (sym (removes.rest q not_among) ∙ here)
        ])
        (λ q x here.
        elim (among_or_not keys q) [
          | inl among ↦ inr (to, target, key_moved q x among here)
          | inr not_among ↦ inl (removes.rest q not_among ∙ here)
        ]))

  -- the acknowledgement of the outstanding copy arrives
  pub copy_acknowledged-keeps : {new : Views X} (n to number copies : ℕ) (keys : List (List ℕ)) (values : List ℕ → Option X) → (old n).move ≡ Some (Leaves to number copies (Some keys))
      → IsSent top old (Ack to n number copies) → Removes (old n).value values keys
      → Changes old new n (copy_acknowledged (old n) to number copies values) → Keeps top top old new one
  copy_acknowledged-keeps {new = new} n to number copies keys values is sent removes changes =
      elim (cases_eq n top.owner) [
        | inl same ↦
            subst (λ (i : ℕ). (old i).move ≡ Some (Leaves to number copies (Some keys)) → IsSent top old (Ack to i number copies) → Removes (old i).value values keys
            → Changes old new i (copy_acknowledged (old i) to number copies values) → Keeps top top old new one)
            (sym same) (ack_at_holder to number copies keys values) is sent removes changes
        | inr other ↦ absurd ((holds.others n other).thawed to number copies keys is)
      ]
