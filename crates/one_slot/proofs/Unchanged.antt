-- What isn't touched stays: views that are the same, and a slot that has no owner.
use Rattle.std.proofs.Common.{◌≡◌, ◌≢◌, ℕ, List, Option, Some, sym, ap, subst}
use Rattle.slot_table.specs.declared.entry.SlotEntry.{SlotEntry}
use Rattle.slot_table.specs.Table.{owner_in}
use Rattle.one_slot.specs.View.{View, Views}
use Rattle.one_slot.specs.Slot.{Holds, IsLeaving, IsComing, IsUnowned}
use Rattle.one_slot.specs.Events.{Keeps}
use Rattle.one_slot.proofs.ViewLemmas.{no_some, idle_leaves, idle_comes}

-- views with the same parts are the same
pub same_view : {X : Type 0} (v w : View X) → v.entry ≡ w.entry → v.move ≡ w.move → v.last ≡ w.last → ((key : List ℕ) → v.value key ≡ w.value key) → v ≡ w
same_view v w entry move last value = λ i. record { entry = entry i; move = move i; last = last i; value = λ key. value key i }

module _ {X : Type 0} {old new : Views X} {one next : List ℕ → Option X} (views : (node : ℕ) → new node ≡ old node) (keys : (key : List ℕ) → next key ≡ one key) where
  same_views : old ≡ new
  same_views = sym (λ i node. views node i)

  same_keys : one ≡ next
  same_keys = sym (λ i key. keys key i)

  -- a slot at which nothing happens
  pub unchanged-keeps : {top : SlotEntry} → Holds top old one → Keeps top top old new next
  unchanged-keeps {top} holds =
      subst (λ (after : Views X). Keeps top top old after next) same_views
      (subst (λ (after : List ℕ → Option X). Keeps top top old old after) same_keys (record { holds = holds; sent = λ sent was. was }))

  -- a slot without an owner at which nothing happens
  pub unchanged-unowned : IsUnowned old one → IsUnowned new next
  unchanged-unowned unowned =
      subst (λ (after : Views X). IsUnowned after next) same_views (subst (IsUnowned old) same_keys unowned)

module _ {X : Type 0} {views : Views X} {one : List ℕ → Option X} (unowned : IsUnowned views one) where
  -- no table names a node, so no node has the slot as its own, or hears of a claim of it, and no move of it begins
  pub nobody_owns : (n owner : ℕ) → owner_in (views n).entry ≢ Some owner
  nobody_owns n owner named = no_some (ap owner_in (unowned.entry n)) named

  pub nothing_leaves : (n to number : ℕ) → ¬ IsLeaving (views n) to number
  nothing_leaves n to number leaving = idle_leaves (unowned.move n) leaving

  pub nothing_comes : (n number : ℕ) → ¬ IsComing (views n) number
  nothing_comes n number coming = idle_comes (unowned.move n) coming
