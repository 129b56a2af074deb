-- The start of a slot, and the begin of an import and of a migration.
use Rattle.std.proofs.Common.{◌≡◌, ◌≢◌, ◌≤◌, ℕ, List, Option, Some, None, refl, sym, ap, subst, ◌∙◌, inl, inr, arith}
use Rattle.std.proofs.lemmas.Bool.{cases_eq}
use Rattle.slot_table.specs.declared.entry.SlotEntry.{SlotEntry}
use Rattle.slot_table.specs.Table.{owner_in}
use Rattle.slot_state.specs.declared.running.Move.{Move}
use Rattle.one_slot.specs.View.{Views}
use Rattle.one_slot.specs.Slot.{Holds, IsAtMost, IsHolder, IsElsewhere, IsCounted, installed}
use Rattle.one_slot.specs.Events.{Changes, Keeps, Starts, ImportBegins, import_begun, MigrationBegins, migration_begun}
use Rattle.one_slot.proofs.ViewLemmas.{no_some, same_some, named_entry, leaves_comes, same_leaves, same_comes, idle_leaves, idle_comes, installed_first, installed_some}
use Rattle.one_slot.proofs.Frames.{at_most_itself, still_shared, StaysAside, keeps_aside, StaysAhead, keeps_ahead}

-- the holder's table names it
pub holder_named : {X : Type 0} {top : SlotEntry} {views : Views X} {one : List ℕ → Option X} {n : ℕ} → Holds top views one → n ≡ top.owner → owner_in (views n).entry ≡ Some n
holder_named {top = top} {views = views} holds same =
    ap owner_in (subst (λ (i : ℕ). (views i).entry ≡ Some top) (sym same) holds.holder.entry) ∙ ap Some (sym same)

module _ {X : Type 0} {first : SlotEntry} {views : Views X} {one : List ℕ → Option X} (starts : Starts first views one) where
  first_here : IsHolder first (views first.owner)
  first_here =
      let each = starts.each first.owner in
      record {
        entry = starts.owner;
        own = λ number coming. idle_comes each.move coming;
        other = λ to number leaving. absurd (idle_leaves each.move leaving);
        last = λ to number leaving. absurd (idle_leaves each.move leaving);
        frozen = λ to number copies keys is. absurd (no_some each.move is);
      }

  first_there : (n : ℕ) → n ≢ first.owner → IsElsewhere first (views first.owner) n (views n)
  first_there n other =
      let each = starts.each n in
      record {
        owned = λ named none.
            let entry = named_entry (views n).entry n named in
            other (sym entry.2 ∙ ap (λ (e : SlotEntry). e.owner) (each.entry entry.0 entry.1));
        foreign = λ number coming. absurd (idle_comes each.move coming);
        last = λ number coming. absurd (idle_comes each.move coming);
        thawed = λ to number copies key is. no_some each.move is;
        moving = λ key x is. absurd (no_some (each.value key) is);
        both = λ number copies frozen from copied drained key x z leaves comes here there. absurd (no_some each.move comes);
        arrived = λ number copies keys drained key x leaves comes among here. absurd (no_some each.move comes);
        counted = λ number copies frozen leaves. absurd (no_some (starts.each first.owner).move leaves);
        copied = λ from number copied drained is first. absurd (no_some each.move is);
        drained = λ from number copied epoch is. absurd (no_some each.move is);
      }

  -- a slot with an owner begins so
  pub starts-holds : Holds first views one
  starts-holds = record {
    newest = λ node entry is. subst (IsAtMost first) (sym ((starts.each node).entry entry is)) (at_most_itself first);
    holder = first_here;
    others = first_there;
    stale = λ node other to number leaving. absurd (idle_leaves (starts.each node).move leaving);
    keys = record {
      here = λ node key x is. absurd (no_some ((starts.each node).value key) is);
      there = λ key x is. absurd (no_some (starts.nothing key) is);
    };
  }

module _ {X : Type 0} {top : SlotEntry} {old : Views X} {one : List ℕ → Option X} (holds : Holds top old one) where
  module _ {new : Views X} (n from number : ℕ) (begins : ImportBegins n (old n) from number) (changes : Changes old new n (import_begun (old n) from number)) where
    importer_apart : n ≢ top.owner
    importer_apart same = begins.other (same_some begins.owner (holder_named holds same))

    import_aside : StaysAside top (old top.owner) (old n) (import_begun (old n) from number) n
    import_aside =
        let was = holds.others n importer_apart in
        let none : (other : ℕ) → installed (old n).move top.owner other ≡ 0 = λ other. ap (λ (m : Option Move). installed m top.owner other) begins.idle in
        record {
          over = λ k over. record {
            reached = omega (arith, over.reached, begins.above);
            ended = λ coming. let same = same_comes refl coming.is in omega (arith, over.reached, begins.above, same.number);
          };
          last = omega (arith, begins.above);
          got = λ k leaving. omega (arith, none k);
          leaves = λ to k leaving. absurd (leaves_comes leaving.is refl);
          newest = holds.newest n;
          fine = record {
            owned = λ named idle. no_some idle refl;
            foreign = λ k coming named. begins.other (same_some begins.owner named);
            last = λ k coming. sym (same_comes refl coming.is).number;
            thawed = λ to k copies key is. leaves_comes is refl;
            moving = λ key x is. absurd (idle_comes begins.idle (was.moving key x is).comes);
            both = λ k copies frozen source copied drained key x z leaves comes here there. absurd (idle_comes begins.idle (was.moving key x here).comes);
            arrived = λ k copies keys drained key x leaves comes among here.
                let first : 1 ≤ copies = (holds.holder.frozen n k copies keys leaves).first in
                let same = same_comes refl comes in
                absurd (omega (arith, first, same.copied));
            counted = λ k copies frozen leaves.
                subst (IsCounted copies frozen) (none k ∙ sym (installed_first from number top.owner k None)) (was.counted k copies frozen leaves);
            copied = λ source k copied drained is first. let same = same_comes refl is in absurd (omega (arith, first, same.copied));
            drained = λ source k copied epoch is. absurd (no_some refl (same_comes refl is).drained);
          };
        }

    -- an import begins
    pub import_begins-keeps : Keeps top top old new one
    import_begins-keeps =
        keeps_aside holds changes importer_apart import_aside
        (still_shared changes holds.keys (holds.keys.here n) (λ key x is. inl is))

  -- a node without a move whose table names it is the holder
  pub owner_holds : (n : ℕ) → (old n).move ≡ None → owner_in (old n).entry ≡ Some n → n ≡ top.owner
  owner_holds n idle named =
      elim (cases_eq n top.owner) [
        | inl same ↦ same
        | inr other ↦ absurd ((holds.others n other).owned named idle)
      ]

  module _ {new : Views X} (to number : ℕ) (begins : MigrationBegins top.owner (old top.owner) to number) (changes : Changes old new top.owner (migration_begun (old top.owner) to number)) where
    nothing_installed : (j : ℕ) → j ≢ top.owner → (k : ℕ) → installed (old j).move top.owner k ≡ 0
    nothing_installed j other k =
        elim (cases_eq (installed (old j).move top.owner k) 0) [
          | inl none ↦ none
          | inr some ↦
              let first : 1 ≤ installed (old j).move top.owner k = omega arith in
              let comes = installed_some (old j).move top.owner k first in
              absurd (idle_leaves begins.idle ((holds.others j other).copied top.owner k _ comes.0 comes.1 first).1)
        ]

    migration_ahead : StaysAhead top (old top.owner) (migration_begun (old top.owner) to number) old
    migration_ahead =
        record {
          holder = record {
            entry = holds.holder.entry;
            own = λ k coming. leaves_comes refl coming.is;
            other = λ target k leaving is. begins.other ((same_leaves refl leaving.is).target ∙ is);
            last = λ target k leaving. sym (same_leaves refl leaving.is).number;
            frozen = λ target k copies key is. absurd (no_some refl (same_leaves refl is).frozen);
          };
          last = omega (arith, begins.above);
          others = λ j other.
              let was = holds.others j other in
              record {
                owned = was.owned;
                foreign = was.foreign;
                last = was.last;
                thawed = was.thawed;
                moving = λ key x is. absurd (idle_leaves begins.idle (was.moving key x is).leaves);
                both = λ k copies frozen from copied drained key x z leaves comes here there. absurd (idle_leaves begins.idle (was.moving key x here).leaves);
                arrived = λ k copies keys drained key x leaves comes among here. absurd (no_some refl (same_leaves refl leaves).frozen);
                counted = λ k copies frozen leaves.
                    let same = same_leaves refl leaves in
                    let none = nothing_installed j other k in
                    record { made = omega (arith, none); next = omega (arith, none, same.copies); settled = λ is. omega (arith, none, same.copies) };
                copied = λ from k copied drained is first. absurd (idle_leaves begins.idle (was.copied from k copied drained is first).1);
                drained = λ from k copied epoch is. absurd (idle_leaves begins.idle (was.drained from k copied epoch is).leaves);
              };
          leaves = λ target k leaving. absurd (idle_leaves begins.idle leaving);
          earlier = λ target k leaving reached. let same = same_leaves refl leaving.is in absurd (omega (arith, begins.above, reached, same.number));
          empty = λ target k leaving. absurd (idle_leaves begins.idle leaving);
          copied = λ from target k count pairs live. absurd (no_some begins.idle live.leaves);
          told = λ target k leaving. absurd (idle_leaves begins.idle leaving);
        }

    migration_at_holder : Keeps top top old new one
    migration_at_holder =
        keeps_ahead holds changes migration_ahead
        (still_shared changes holds.keys (holds.keys.here top.owner) (λ key x is. inl is))

  -- a migration begins
  pub migration_begins-keeps : {new : Views X} (n to number : ℕ) → MigrationBegins n (old n) to number → Changes old new n (migration_begun (old n) to number) → Keeps top top old new one
  migration_begins-keeps {new = new} n to number begins changes =
      subst (λ (i : ℕ). MigrationBegins i (old i) to number → Changes old new i (migration_begun (old i) to number) → Keeps top top old new one)
      (sym (owner_holds n begins.idle begins.owner)) (migration_at_holder to number) begins changes
