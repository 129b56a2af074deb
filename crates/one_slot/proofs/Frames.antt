-- What stays of a slot where its view changes at one node: at another node than the holder, and at the holder.
use Rattle.std.proofs.Common.{◌≡◌, ◌≢◌, ◌≤◌, ◌⊎◌, ℕ, List, Option, Some, None, Contains, refl, sym, ap, subst, ◌∙◌, inl, inr, arith}
use Rattle.std.proofs.lemmas.Bool.{cases_eq}
use Rattle.slot_table.specs.declared.entry.SlotEntry.{SlotEntry}
use Rattle.one_slot.specs.View.{View, Views}
use Rattle.one_slot.specs.Slot.{Holds, IsAtMost, IsOver, IsLeaving, IsHolder, IsElsewhere, IsDrained, IsShared, installed}
use Rattle.one_slot.specs.Sent.{Sent, Drained, Copy, Ack, Claimed, Told, IsCopied, IsTold, IsAcknowledged, IsSent}
use Rattle.one_slot.specs.Events.{Changes, Keeps}
use Rattle.one_slot.proofs.ViewLemmas.{same_some}

pub either : {A B C D : Type 0} → (A → C) → (B → D) → A ⊎ B → C ⊎ D
either f g (inl a) = inl (f a)
either f g (inr b) = inr (g b)

pub at_most_itself : (top : SlotEntry) → IsAtMost top top
at_most_itself top = record { epoch = omega arith; owner = λ same. refl }

-- what holds of the new view and of the old ones elsewhere holds everywhere
module _ {X : Type 0} {old new : Views X} {n : ℕ} {v : View X} (changes : Changes old new n v) where
  pub at_place : (P : ℕ → View X → Type 0) → P n v → ((j : ℕ) → j ≢ n → P j (old j)) → (j : ℕ) → P j (new j)
  at_place P here there j =
      elim (cases_eq j n) [
        | inl same ↦ subst (λ (i : ℕ). P i (new i)) (sym same) (subst (P n) (sym changes.here) here)
        | inr other ↦ subst (P j) (sym (changes.there j other)) (there j other)
      ]

  pub over_kept : ((number : ℕ) → IsOver (old n) number → IsOver v number) → (node number : ℕ) → IsOver (old node) number → IsOver (new node) number
  over_kept here node number = at_place (λ (j : ℕ) (w : View X). IsOver (old j) number → IsOver w number) (here number) (λ j other was. was) node

  pub last_kept : (old n).last ≤ v.last → (node : ℕ) → (old node).last ≤ (new node).last
  last_kept here = at_place (λ (j : ℕ) (w : View X). (old j).last ≤ w.last) here (λ j other. omega arith)

  pub value_here : (key : List ℕ) (x : X) → v.value key ≡ Some x → (new n).value key ≡ Some x
  value_here key x is = ap (λ (w : View X). w.value key) changes.here ∙ is

  pub value_there : (j : ℕ) (key : List ℕ) (x : X) → j ≢ n → (old j).value key ≡ Some x → (new j).value key ≡ Some x
  value_there j key x other is = ap (λ (w : View X). w.value key) (changes.there j other) ∙ is

  -- the one keyspace still has just what the nodes have, where a value that the view loses is at another node
  pub still_shared : {one : List ℕ → Option X} → IsShared old one → ((key : List ℕ) (x : X) → v.value key ≡ Some x → one key ≡ Some x)
      → ((key : List ℕ) (x : X) → (old n).value key ≡ Some x → (v.value key ≡ Some x) ⊎ ((j : ℕ) × (j ≢ n) × ((old j).value key ≡ Some x)))
      → IsShared new one
  still_shared {one} was here still = record {
    here = at_place (λ (j : ℕ) (w : View X). (key : List ℕ) (x : X) → w.value key ≡ Some x → one key ≡ Some x) here (λ j other. was.here j);
    there = λ key x is.
        let found = was.there key x is in
        elim (cases_eq found.0 n) [
          | inl same ↦
              elim (still key x (subst (λ (i : ℕ). (old i).value key ≡ Some x) same found.1)) [
                | inl stays ↦ (n, value_here key x stays)
                | inr moved ↦ (moved.0, value_there moved.0 key x moved.1 moved.2)
              ]
          | inr other ↦ (found.0, value_there found.0 key x other found.1)
        ];
  }

-- the view of another node than the holder changes, and no move of the slot begins to leave it
pub record StaysAside {X : Type 0} (top : SlotEntry) (holder before after : View X) (n : ℕ) : Type 0 where
  pub over : (number : ℕ) → IsOver before number → IsOver after number
  pub last : before.last ≤ after.last
  pub got : (number : ℕ) → IsLeaving holder n number → installed before.move top.owner number ≤ installed after.move top.owner number
  pub leaves : (to number : ℕ) → IsLeaving after to number → IsLeaving before to number
  pub newest : (entry : SlotEntry) → after.entry ≡ Some entry → IsAtMost top entry
  pub fine : IsElsewhere top holder n after

module _ {X : Type 0} {top : SlotEntry} {old new : Views X} {one : List ℕ → Option X} {n : ℕ} {v : View X}
    (holds : Holds top old one) (changes : Changes old new n v) (apart : n ≢ top.owner) (aside : StaysAside top (old top.owner) (old n) v n) where
  same_holder : new top.owner ≡ old top.owner
  same_holder = changes.there top.owner (λ same. apart (sym same))

  over_aside : (node number : ℕ) → IsOver (old node) number → IsOver (new node) number
  over_aside = over_kept changes aside.over

  got_aside : (from number : ℕ) → IsLeaving (old top.owner) from number → installed (old from).move top.owner number ≤ installed (new from).move top.owner number
  got_aside from number =
      at_place changes (λ (j : ℕ) (w : View X). IsLeaving (old top.owner) j number → installed (old j).move top.owner number ≤ installed w.move top.owner number)
      (aside.got number) (λ j other leaving. omega arith) from

  sent_aside : (sent : Sent X) → IsSent top old sent → IsSent top new sent
  sent_aside (Drained from to number epoch) was = either (over_aside to number) (subst (λ (h : View X). IsDrained top h from to number epoch) (sym same_holder)) was
  sent_aside (Copy from to number count pairs) was = either (over_aside to number) (subst (λ (h : View X). IsCopied top h from to number count pairs) (sym same_holder)) was
  sent_aside (Ack from to number count) was = record {
    last = let grows : (old to).last ≤ (new to).last = last_kept changes aside.last to in omega (arith, was.last);
    got = λ is leaving.
        let before : IsLeaving (old top.owner) from number = subst (λ (h : View X). IsLeaving h from number) same_holder leaving in
        omega (arith, was.got is before, got_aside from number before);
  }
  sent_aside (Claimed from epoch) was = was
  sent_aside (Told by to number keys) was = either (over_aside to number) (subst (λ (h : View X). IsTold top h by to number keys) (sym same_holder)) was

  pub keeps_aside : {next : List ℕ → Option X} → IsShared new next → Keeps top top old new next
  keeps_aside shared = record {
    holds = record {
      newest = at_place changes (λ (j : ℕ) (w : View X). (entry : SlotEntry) → w.entry ≡ Some entry → IsAtMost top entry) aside.newest (λ j other. holds.newest j);
      holder = subst (IsHolder top) (sym same_holder) holds.holder;
      others = λ j other.
          subst (λ (h : View X). IsElsewhere top h j (new j)) (sym same_holder)
          (at_place changes (λ (i : ℕ) (w : View X). i ≢ top.owner → IsElsewhere top (old top.owner) i w) (λ is. aside.fine) (λ i is. holds.others i) j other);
      stale = λ j other to number leaving.
          over_aside to number
          (at_place changes (λ (i : ℕ) (w : View X). i ≢ top.owner → IsLeaving w to number → IsOver (old to) number)
          (λ is leaves. holds.stale n apart to number (aside.leaves to number leaves)) (λ i is away. holds.stale i away to number) j other leaving);
      keys = shared;
    };
    sent = sent_aside;
  }

-- the holder's view changes, and it stays the holder
pub record StaysAhead {X : Type 0} (top : SlotEntry) (before after : View X) (views : Views X) : Type 0 where
  pub holder : IsHolder top after
  pub last : before.last ≤ after.last
  pub others : (node : ℕ) → node ≢ top.owner → IsElsewhere top after node (views node)
  pub leaves : (to number : ℕ) → IsLeaving before to number → IsLeaving after to number
  pub earlier : (to number : ℕ) → IsLeaving after to number → number ≤ before.last → IsLeaving before to number
  pub empty : (to number : ℕ) → IsLeaving before to number → ((key : List ℕ) → before.value key ≡ None) → (key : List ℕ) → after.value key ≡ None
  pub copied : (from to number count : ℕ) (pairs : List (List ℕ × X)) → IsCopied top before from to number count pairs → IsCopied top after from to number count pairs
  pub told : (to number : ℕ) → IsLeaving before to number → (keys : List (List ℕ))
      → ((key : List ℕ) → Contains keys key → before.value key ≡ None) → (key : List ℕ) → Contains keys key → after.value key ≡ None

module _ {X : Type 0} {top : SlotEntry} {old new : Views X} {one : List ℕ → Option X} {v : View X}
    (holds : Holds top old one) (changes : Changes old new top.owner v) (ahead : StaysAhead top (old top.owner) v old) where
  over_ahead : (node number : ℕ) → IsOver (old node) number → IsOver (new node) number
  over_ahead =
      over_kept changes (λ number over.
      let last : (old top.owner).last ≤ v.last = ahead.last in
      record { reached = omega (arith, over.reached); ended = ahead.holder.own number })

  drained_ahead : (from to number epoch : ℕ) → IsDrained top (old top.owner) from to number epoch → IsDrained top v from to number epoch
  drained_ahead from to number epoch was = record {
    source = was.source;
    leaves = ahead.leaves to number was.leaves;
    newest = was.newest;
    empty = ahead.empty to number was.leaves was.empty;
  }

  told_ahead : (by to number : ℕ) (keys : List (List ℕ)) → IsTold top (old top.owner) by to number keys → IsTold top v by to number keys
  told_ahead by to number keys was = record {
    teller = was.teller;
    leaves = ahead.leaves to number was.leaves;
    none = ahead.told to number was.leaves keys was.none;
  }

  got_ahead : (from to number count : ℕ) → IsAcknowledged top (old top.owner) (old from) (old to).last from to number count
      → to ≡ top.owner → IsLeaving (new top.owner) from number → count ≤ installed (new from).move top.owner number
  got_ahead from to number count was is leaving =
      let after : IsLeaving v from number = subst (λ (h : View X). IsLeaving h from number) changes.here leaving in
      let reached : number ≤ (old top.owner).last = subst (λ (i : ℕ). number ≤ (old i).last) is was.last in
      subst (λ (w : View X). count ≤ installed w.move top.owner number) (sym (changes.there from (ahead.holder.other from number after)))
      (was.got is (ahead.earlier from number after reached))

  sent_ahead : (sent : Sent X) → IsSent top old sent → IsSent top new sent
  sent_ahead (Drained from to number epoch) was = either (over_ahead to number) (λ live. subst (λ (h : View X). IsDrained top h from to number epoch) (sym changes.here) (drained_ahead from to number epoch live)) was
  sent_ahead (Copy from to number count pairs) was = either (over_ahead to number) (λ live. subst (λ (h : View X). IsCopied top h from to number count pairs) (sym changes.here) (ahead.copied from to number count pairs live)) was
  sent_ahead (Ack from to number count) was = record {
    last = let grows : (old to).last ≤ (new to).last = last_kept changes ahead.last to in omega (arith, was.last);
    got = got_ahead from to number count was;
  }
  sent_ahead (Claimed from epoch) was = was
  sent_ahead (Told by to number keys) was = either (over_ahead to number) (λ live. subst (λ (h : View X). IsTold top h by to number keys) (sym changes.here) (told_ahead by to number keys live)) was

  newest_ahead : (entry : SlotEntry) → v.entry ≡ Some entry → IsAtMost top entry
  newest_ahead entry is = subst (IsAtMost top) (same_some ahead.holder.entry is) (at_most_itself top)

  pub keeps_ahead : {next : List ℕ → Option X} → IsShared new next → Keeps top top old new next
  keeps_ahead shared = record {
    holds = record {
      newest = at_place changes (λ (j : ℕ) (w : View X). (entry : SlotEntry) → w.entry ≡ Some entry → IsAtMost top entry) newest_ahead (λ j other. holds.newest j);
      holder = subst (IsHolder top) (sym changes.here) ahead.holder;
      others = λ j other.
          subst (λ (h : View X). IsElsewhere top h j (new j)) (sym changes.here)
          (subst (IsElsewhere top v j) (sym (changes.there j other)) (ahead.others j other));
      stale = λ j other to number leaving.
          over_ahead to number (holds.stale j other to number (subst (λ (w : View X). IsLeaving w to number) (changes.there j other) leaving));
      keys = shared;
    };
    sent = sent_ahead;
  }
