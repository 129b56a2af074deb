-- A node has one part in a move of the slot, or none, and the copies of an import are counted.
use Rattle.std.proofs.Common.{◌≡◌, ◌≢◌, ◌≤◌, ◌+◌, ◌==◌, ◌&&◌, ◌⊎◌, ℕ, Bool, true, false, cond, List, Option, Some, None, refl, ap, ap₂, inl, inr, arith}
use Rattle.std.proofs.lemmas.Bool.{cases_Bool, cases_eq, and_parts, eqb-true, eq-eqb}
use Rattle.slot_table.specs.declared.entry.SlotEntry.{SlotEntry}
use Rattle.slot_table.specs.Table.{owner_in}
use Rattle.slot_state.specs.declared.running.Move.{Move}
use Rattle.slot_state.specs.declared.running.Move.TheVariants.{Leaves, Comes}
use Rattle.one_slot.specs.View.{View}
use Rattle.one_slot.specs.Slot.{IsLeaving, IsComing, installed}

pub no_some : {A : Type 0} {o : Option A} {x : A} → o ≡ None → o ≡ Some x → ⊥
no_some none some = cc

pub none_or_some : {A : Type 0} (o : Option A) → (o ≡ None) ⊎ ((x : A) × (o ≡ Some x))
none_or_some None = inl refl
none_or_some (Some x) = inr (x, refl)

pub same_some : {A : Type 0} {o : Option A} {x y : A} → o ≡ Some x → o ≡ Some y → x ≡ y
same_some one two = cc

-- a table names a node or not
pub named_or_not : (o : Option ℕ) (n : ℕ) → (o ≡ Some n) ⊎ (o ≢ Some n)
named_or_not None n = inr (λ is. no_some refl is)
named_or_not (Some m) n =
    elim (cases_eq m n) [
      | inl same ↦ inl (ap Some same)
      | inr other ↦ inr (λ is. other (same_some refl is))
    ]

-- an entry that names a node
pub named_entry : (o : Option SlotEntry) (n : ℕ) → owner_in o ≡ Some n → (entry : SlotEntry) × (o ≡ Some entry) × (entry.owner ≡ n)
named_entry None n named = absurd (no_some refl named)
named_entry (Some entry) n named = (entry, refl, same_some refl named)

pub leaves_comes : {m : Option Move} {to a b from c d : ℕ} {f : Option (List (List ℕ))} {g : Option ℕ} → m ≡ Some (Leaves to a b f) → m ≡ Some (Comes from c d g) → ⊥
leaves_comes leaves comes = cc

-- the parts of a move that leaves
pub record SameLeaves (to a b : ℕ) (f : Option (List (List ℕ))) (other c d : ℕ) (g : Option (List (List ℕ))) : Type 0 where
  pub target : to ≡ other
  pub number : a ≡ c
  pub copies : b ≡ d
  pub frozen : f ≡ g

pub same_leaves : {m : Option Move} {to a b other c d : ℕ} {f g : Option (List (List ℕ))} → m ≡ Some (Leaves to a b f) → m ≡ Some (Leaves other c d g) → SameLeaves to a b f other c d g
same_leaves one two = record { target = cc; number = cc; copies = cc; frozen = cc }

-- the parts of a move that comes
pub record SameComes (from a b : ℕ) (f : Option ℕ) (other c d : ℕ) (g : Option ℕ) : Type 0 where
  pub source : from ≡ other
  pub number : a ≡ c
  pub copied : b ≡ d
  pub drained : f ≡ g

pub same_comes : {m : Option Move} {from a b other c d : ℕ} {f g : Option ℕ} → m ≡ Some (Comes from a b f) → m ≡ Some (Comes other c d g) → SameComes from a b f other c d g
same_comes one two = record { source = cc; number = cc; copied = cc; drained = cc }

module _ {X : Type 0} {v : View X} where
  pub idle_leaves : {to k : ℕ} → v.move ≡ None → IsLeaving v to k → ⊥
  idle_leaves idle leaving = no_some idle leaving.is

  pub idle_comes : {k : ℕ} → v.move ≡ None → IsComing v k → ⊥
  idle_comes idle coming = no_some idle coming.is

  pub leaving_coming : {to k j : ℕ} → IsLeaving v to k → IsComing v j → ⊥
  leaving_coming leaving coming = leaves_comes leaving.is coming.is

  pub one_target : {to other k j : ℕ} → IsLeaving v to k → IsLeaving v other j → to ≡ other
  one_target one two = (same_leaves one.is two.is).target

  pub one_number : {to other k j : ℕ} → IsLeaving v to k → IsLeaving v other j → k ≡ j
  one_number one two = (same_leaves one.is two.is).number

  pub one_import : {k j : ℕ} → IsComing v k → IsComing v j → k ≡ j
  one_import one two = (same_comes one.is two.is).number

-- what is installed in an import from that node under that number
pub installed_here : (from number copied : ℕ) (drained : Option ℕ) (source other : ℕ) → from ≡ source → number ≡ other → installed (Some (Comes from number copied drained)) source other ≡ copied
installed_here from number copied drained source other same numbered =
    ap₂ (λ (b c : Bool). cond (b && c) copied 0) (eq-eqb from source same) (eq-eqb number other numbered)

cond_same : (b : Bool) (n : ℕ) → cond b n n ≡ n
cond_same true n = refl
cond_same false n = refl

-- an import begins with nothing installed
pub installed_first : (from number source other : ℕ) (drained : Option ℕ) → installed (Some (Comes from number 0 drained)) source other ≡ 0
installed_first from number source other drained = cond_same (from == source && number == other) 0

cond_grows : (b : Bool) (n : ℕ) → cond b n 0 ≤ cond b (n + 1) 0
cond_grows true n = omega arith
cond_grows false n = omega arith

pub installed_grows : (from number copied : ℕ) (drained : Option ℕ) (source other : ℕ) → installed (Some (Comes from number copied drained)) source other ≤ installed (Some (Comes from number (copied + 1) drained)) source other
installed_grows from number copied drained source other = cond_grows (from == source && number == other) copied

-- where something is installed, the import is from that node under that number
comes_at : (from number copied : ℕ) (drained : Option ℕ) (source other : ℕ) → 1 ≤ cond (from == source && number == other) copied 0
    → Some (Comes from number copied drained) ≡ Some (Comes source other (cond (from == source && number == other) copied 0) drained)
comes_at from number copied drained source other first =
    elim (cases_Bool (from == source && number == other)) [
      | inl all ↦
          let parts = and_parts (from == source) (number == other) all in
          let same : from ≡ source = eqb-true from source parts.0 in
          let numbered : number ≡ other = eqb-true number other parts.1 in
          let is : cond (from == source && number == other) copied 0 ≡ copied = ap (λ (b : Bool). cond b copied 0) all in
          cc
      | inr some ↦
          let is : cond (from == source && number == other) copied 0 ≡ 0 = ap (λ (b : Bool). cond b copied 0) some in
          absurd (omega arith)
    ]

pub installed_some : (m : Option Move) (source number : ℕ) → 1 ≤ installed m source number → (drained : Option ℕ) × (m ≡ Some (Comes source number (installed m source number) drained))
installed_some None source number first = absurd (omega arith)
installed_some (Some (Leaves to other copies frozen)) source number first = absurd (omega arith)
installed_some (Some (Comes from other copied drained)) source number first = (drained, comes_at from other copied drained source number first)
