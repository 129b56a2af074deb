-- A command is served as the one keyspace serves it: by the owner, and by a node that the slot comes to.
use Rattle.std.proofs.Common.{◌≡◌, ◌≢◌, ℕ, List, Option, Some, None, Contains, sym, ap, subst, ◌∙◌, inl, inr, arith}
use Rattle.std.proofs.lemmas.Bool.{cases_eq}
use Rattle.slot_table.specs.declared.entry.SlotEntry.{SlotEntry}
use Rattle.slot_state.specs.declared.running.Move.TheVariants.{Leaves}
use Rattle.one_slot.specs.View.{View, Views}
use Rattle.one_slot.specs.Slot.{Freezes, Holds, IsLeaving, IsComing, IsShared}
use Rattle.one_slot.specs.Sent.{Told, IsTold, IsSent}
use Rattle.one_slot.specs.Events.{Changes, Keeps, IsServed, served, OwnerServes, LeavingServes}
use Rattle.one_slot.proofs.KeyLemmas.{among_or_not, Contains-keys}
use Rattle.one_slot.proofs.ViewLemmas.{no_some, none_or_some, same_leaves, one_target, idle_leaves}
use Rattle.one_slot.proofs.Frames.{at_place, value_here, value_there, StaysAside, keeps_aside, StaysAhead, keeps_ahead}
use Rattle.one_slot.proofs.Beginnings.{owner_holds}
use Rattle.one_slot.proofs.Sendings.{leaving_holds, coming_apart}

module _ {X : Type 0} {old : Views X} {one : List ℕ → Option X} (shared : IsShared old one) (n : ℕ) (keys : List (List ℕ))
    (alone : (other : ℕ) → other ≢ n → (key : List ℕ) (x : X) → Contains keys key → (old other).value key ≢ Some x) where
  -- what the one keyspace has at the keys is what this node has
  pub one-here : (key : List ℕ) → Contains keys key → one key ≡ (old n).value key
  one-here key among =
      elim (none_or_some ((old n).value key)) [
        | inl none ↦
            elim (none_or_some (one key)) [
              | inl nothing ↦ nothing ∙ sym none
              | inr some ↦
                  let found = shared.there key some.0 some.1 in
                  elim (cases_eq found.0 n) [
                    | inl same ↦ absurd (no_some none (subst (λ (i : ℕ). (old i).value key ≡ Some some.0) same found.1))
                    | inr other ↦ absurd (alone found.0 other key some.0 among found.1)
                  ]
            ]
        | inr some ↦ shared.here n key some.0 some.1 ∙ sym some.1
      ]

  module _ {new : Views X} {next values : List ℕ → Option X} (serves : IsServed (old n).value values one next keys) (changes : Changes old new n (served (old n) values)) where
    pub served_shared : IsShared new next
    served_shared = record {
      here = at_place changes (λ (j : ℕ) (w : View X). (key : List ℕ) (x : X) → w.value key ≡ Some x → next key ≡ Some x)
          (λ key x here.
          elim (among_or_not keys key) [
            | inl among ↦ serves.inside key among ∙ here
            | inr not_among ↦ serves.rest_one key not_among ∙ shared.here n key x (sym (serves.rest key not_among) ∙ here)
          ])
          (λ j other key x here.
          elim (among_or_not keys key) [
            | inl among ↦ absurd (alone j other key x among here)
            | inr not_among ↦ serves.rest_one key not_among ∙ shared.here j key x here
          ]);
      there = λ key x is.
          elim (among_or_not keys key) [
            | inl among ↦ (n, value_here changes key x (sym (serves.inside key among) ∙ is))
            | inr not_among ↦
                let found = shared.there key x (sym (serves.rest_one key not_among) ∙ is) in
                elim (cases_eq found.0 n) [
                  | inl same ↦ (n, value_here changes key x (serves.rest key not_among ∙ subst (λ (i : ℕ). (old i).value key ≡ Some x) same found.1))
                  | inr other ↦ (found.0, value_there changes found.0 key x other found.1)
                ]
          ];
    }

module _ {X : Type 0} {top : SlotEntry} {old : Views X} {one : List ℕ → Option X} (holds : Holds top old one) where
  -- no other node has a key of the slot, where the holder has no move
  pub owner_alone : (n : ℕ) → OwnerServes n (old n) → (keys : List (List ℕ)) (other : ℕ) → other ≢ n → (key : List ℕ) (x : X) → Contains keys key → (old other).value key ≢ Some x
  owner_alone n owner keys other apart key x among here =
      let same : n ≡ top.owner = owner_holds holds n owner.idle owner.owner in
      idle_leaves (subst (λ (i : ℕ). (old i).move ≡ None) same owner.idle)
      ((holds.others other (λ is. apart (is ∙ sym same))).moving key x here).leaves

  -- a node with a key that the slot leaves is the holder
  pub leaving_owner : (n : ℕ) (keys : List (List ℕ)) → LeavingServes (old n) keys → n ≡ top.owner
  leaving_owner n keys serves =
      let first = serves.free.here serves.first serves.among in
      leaving_holds holds n serves.to serves.number (record { copies = serves.copies; frozen = serves.frozen; is = serves.move }) serves.first first.0 first.1

  free_alone : (keys : List (List ℕ)) → LeavingServes (old top.owner) keys
      → (other : ℕ) → other ≢ top.owner → (key : List ℕ) (x : X) → Contains keys key → (old other).value key ≢ Some x
  free_alone keys serves other apart key x among here =
      let was = holds.others other apart in
      let moving = was.moving key x here in
      let leaves = moving.leaves in
      let comes = moving.comes in
      let there = serves.free.here key among in
      let both = was.both moving.number leaves.copies leaves.frozen comes.from comes.copied comes.drained key x there.0 leaves.is comes.is here there.1 in
      serves.free.thawed key (subst (λ (f : Option (List (List ℕ))). Freezes f key) (sym (same_leaves serves.move leaves.is).frozen) both.2) among

  -- no other node has one of the keys, where the slot leaves a node that has them all, none frozen
  pub leaving_alone : (n : ℕ) (keys : List (List ℕ)) → LeavingServes (old n) keys
      → (other : ℕ) → other ≢ n → (key : List ℕ) (x : X) → Contains keys key → (old other).value key ≢ Some x
  leaving_alone n keys serves =
      subst (λ (i : ℕ). LeavingServes (old i) keys → (other : ℕ) → other ≢ i → (key : List ℕ) (x : X) → Contains keys key → (old other).value key ≢ Some x)
      (sym (leaving_owner n keys serves)) (free_alone keys) serves

  -- what such a node has at the keys is what the one keyspace has
  pub owner-has : (n : ℕ) → OwnerServes n (old n) → (keys : List (List ℕ)) (key : List ℕ) → Contains keys key → one key ≡ (old n).value key
  owner-has n owner keys = one-here holds.keys n keys (owner_alone n owner keys)

  pub leaving-has : (n : ℕ) (keys : List (List ℕ)) → LeavingServes (old n) keys → (key : List ℕ) → Contains keys key → one key ≡ (old n).value key
  leaving-has n keys serves = one-here holds.keys n keys (leaving_alone n keys serves)

  module _ {new : Views X} {next values : List ℕ → Option X} (keys : List (List ℕ))
      (serves : IsServed (old top.owner).value values one next keys) (changes : Changes old new top.owner (served (old top.owner) values))
      (alone : (other : ℕ) → other ≢ top.owner → (key : List ℕ) (x : X) → Contains keys key → (old other).value key ≢ Some x)
      (all : (to number : ℕ) → IsLeaving (old top.owner) to number → (key : List ℕ) → Contains keys key → (x : X) × ((old top.owner).value key ≡ Some x))
      (thawed : (to number copies : ℕ) (outstanding : List (List ℕ)) → (old top.owner).move ≡ Some (Leaves to number copies (Some outstanding)) → (key : List ℕ) → Contains outstanding key → ¬ Contains keys key) where
    abbrev before : View X
    before = old top.owner

    abbrev after : View X
    after = served before values

    back : (to k : ℕ) → IsLeaving after to k → IsLeaving before to k
    back to k leaving = record { copies = leaving.copies; frozen = leaving.frozen; is = leaving.is }

    forth : (to k : ℕ) → IsLeaving before to k → IsLeaving after to k
    forth to k leaving = record { copies = leaving.copies; frozen = leaving.frozen; is = leaving.is }

    -- a frozen key keeps its value, and a key that isn't there, where the slot leaves, stays so
    frozen_stays : (to k c : ℕ) (outstanding : List (List ℕ)) → before.move ≡ Some (Leaves to k c (Some outstanding)) → (q : List ℕ) → Contains outstanding q → values q ≡ before.value q
    frozen_stays to k c outstanding leaves q among = serves.rest q (thawed to k c outstanding leaves q among)

    none_stays : (to k : ℕ) → IsLeaving before to k → (q : List ℕ) → before.value q ≡ None → values q ≡ None
    none_stays to k leaving q none =
        elim (among_or_not keys q) [
          | inl among ↦ absurd (no_some none (all to k leaving q among).1)
          | inr not_among ↦ serves.rest q not_among ∙ none
        ]

    serve_ahead : StaysAhead top before after old
    serve_ahead = record {
      holder = record {
        entry = holds.holder.entry;
        own = λ k coming. holds.holder.own k (record { from = coming.from; copied = coming.copied; drained = coming.drained; is = coming.is });
        other = λ to k leaving. holds.holder.other to k (back to k leaving);
        last = λ to k leaving. holds.holder.last to k (back to k leaving);
        frozen = λ to k c outstanding leaves.
            let frozen = holds.holder.frozen to k c outstanding leaves in
            record {
              first = frozen.first;
              one = frozen.one;
              among = frozen.among;
              here = λ q among. let here = frozen.here q among in (here.0, frozen_stays to k c outstanding leaves q among ∙ here.1);
            };
      };
      last = omega arith;
      others = λ j other.
          let was = holds.others j other in
          record {
            owned = was.owned;
            foreign = was.foreign;
            last = was.last;
            thawed = was.thawed;
            moving = λ q x here. let moving = was.moving q x here in record { number = moving.number; leaves = forth j moving.number moving.leaves; comes = moving.comes };
            both = λ k c f from count d q x z leaves comes here there.
                elim (among_or_not keys q) [
                  | inl among ↦ absurd (alone j other q x among here)
                  | inr not_among ↦ was.both k c f from count d q x z leaves comes here (sym (serves.rest q not_among) ∙ there)
                ];
            arrived = λ k c outstanding d q x leaves comes among here. was.arrived k c outstanding d q x leaves comes among (sym (frozen_stays j k c outstanding leaves q among) ∙ here);
            counted = was.counted;
            copied = λ from k count d comes first. let copied_so = was.copied from k count d comes first in (copied_so.0, forth j k copied_so.1);
            drained = λ from k count epoch comes.
                let drained = was.drained from k count epoch comes in
                record {
                  source = drained.source;
                  leaves = forth j k drained.leaves;
                  newest = drained.newest;
                  empty = λ q. none_stays j k drained.leaves q (drained.empty q);
                };
          };
      leaves = forth;
      earlier = λ to k leaving reached. back to k leaving;
      empty = λ to k leaving none q. none_stays to k leaving q (none q);
      copied = λ from to k count pairs live. record {
        source = live.source;
        copies = live.copies;
        frozen = live.frozen;
        leaves = live.leaves;
        first = live.first;
        made = live.made;
        newest = λ outstanding at is.
            let newest = live.newest outstanding at is in
            let leaves = live.leaves ∙ ap (λ (f : Option (List (List ℕ))). Some (Leaves to k live.copies f)) is in (
              newest.0,
              λ q x among.
                  frozen_stays to k live.copies outstanding leaves q (subst (λ (ks : List (List ℕ)). Contains ks q) (sym newest.0) (Contains-keys pairs q x among)) ∙ newest.1 q x among,
            );
      };
      told = λ to k leaving others none q among. none_stays to k leaving q (none q among);
    }

    serve_at_holder : Keeps top top old new next
    serve_at_holder = keeps_ahead holds changes serve_ahead (served_shared holds.keys top.owner keys alone serves changes)

  module _ {new : Views X} {next values : List ℕ → Option X} (n : ℕ) (keys : List (List ℕ))
      (serves : IsServed (old n).value values one next keys) (changes : Changes old new n (served (old n) values)) where
    -- the owner serves a command
    pub owner_serves-keeps : OwnerServes n (old n) → Keeps top top old new next
    owner_serves-keeps owner =
        subst (λ (i : ℕ). OwnerServes i (old i) → IsServed (old i).value values one next keys → Changes old new i (served (old i) values) → Keeps top top old new next)
        (sym (owner_holds holds n owner.idle owner.owner))
        (λ own serve change.
        serve_at_holder keys serve change (owner_alone top.owner own keys)
        (λ to k leaving. absurd (idle_leaves own.idle leaving)) (λ to k c outstanding leaves. absurd (no_some own.idle leaves)))
        owner serves changes

    -- a node that the slot leaves serves a command whose keys it has, none of them frozen
    pub leaving_serves-keeps : LeavingServes (old n) keys → Keeps top top old new next
    leaving_serves-keeps leaves =
        subst (λ (i : ℕ). LeavingServes (old i) keys → IsServed (old i).value values one next keys → Changes old new i (served (old i) values) → Keeps top top old new next)
        (sym (leaving_owner n keys leaves))
        (λ own serve change.
        serve_at_holder keys serve change (free_alone keys own)
        (λ to k leaving. own.free.here) (λ to k c outstanding move q among. own.free.thawed q (subst (λ (f : Option (List (List ℕ))). Freezes f q) (sym (same_leaves own.move move).frozen) among)))
        leaves serves changes

  -- a node that the slot comes to, after an answer ASK to a command with the same keys
  module _ (n by number : ℕ) (keys : List (List ℕ)) (coming : IsComing (old n) number) (sent : IsSent top old (Told by n number keys)) where
    asked_apart : n ≢ top.owner
    asked_apart = coming_apart holds n number coming

    live_told : IsTold top (old top.owner) by n number keys
    live_told =
        elim sent [
          | inl over ↦ absurd (over.ended coming)
          | inr live ↦ live
        ]

    -- no other node has one of the keys
    pub coming_alone : (other : ℕ) → other ≢ n → (key : List ℕ) (x : X) → Contains keys key → (old other).value key ≢ Some x
    coming_alone other apart key x among here =
        elim (cases_eq other top.owner) [
          | inl same ↦ no_some (live_told.none key among) (subst (λ (i : ℕ). (old i).value key ≡ Some x) same here)
          | inr elsewhere ↦ apart (one_target ((holds.others other elsewhere).moving key x here).leaves live_told.leaves)
        ]

    -- what this node has at the keys is what the one keyspace has
    pub coming-has : (key : List ℕ) → Contains keys key → one key ≡ (old n).value key
    coming-has = one-here holds.keys n keys coming_alone

    module _ {new : Views X} {next values : List ℕ → Option X} (serves : IsServed (old n).value values one next keys) (changes : Changes old new n (served (old n) values)) where
      abbrev imported : View X
      imported = served (old n) values

      back_import : (k : ℕ) → IsComing imported k → IsComing (old n) k
      back_import k comes = record { from = comes.from; copied = comes.copied; drained = comes.drained; is = comes.is }

      serve_aside : StaysAside top (old top.owner) (old n) imported n
      serve_aside =
          let was = holds.others n asked_apart in
          record {
            over = λ k over. record { reached = over.reached; ended = λ comes. over.ended (back_import k comes) };
            last = omega arith;
            got = λ k leaving. omega arith;
            leaves = λ to k leaving. record { copies = leaving.copies; frozen = leaving.frozen; is = leaving.is };
            newest = holds.newest n;
            fine = record {
              owned = was.owned;
              foreign = λ k comes. was.foreign k (back_import k comes);
              last = λ k comes. was.last k (back_import k comes);
              thawed = was.thawed;
              moving = λ q x here. record {
                number = number;
                leaves = live_told.leaves;
                comes = record { from = coming.from; copied = coming.copied; drained = coming.drained; is = coming.is };
              };
              both = λ k c f from count d q x z leaves comes here there.
                  elim (among_or_not keys q) [
                    | inl among ↦ absurd (no_some (live_told.none q among) there)
                    | inr not_among ↦ was.both k c f from count d q x z leaves comes (sym (serves.rest q not_among) ∙ here) there
                  ];
              arrived = λ k c outstanding d q x leaves comes frozen here.
                  elim (among_or_not keys q) [
                    | inl among ↦ absurd (no_some (live_told.none q among) here)
                    | inr not_among ↦ serves.rest q not_among ∙ was.arrived k c outstanding d q x leaves comes frozen here
                  ];
              counted = was.counted;
              copied = was.copied;
              drained = was.drained;
            };
          }

      -- a node that the slot comes to serves the command
      pub coming_serves-keeps : Keeps top top old new next
      coming_serves-keeps = keeps_aside holds changes asked_apart serve_aside (served_shared holds.keys n keys coming_alone serves changes)
