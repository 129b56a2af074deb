-- The runs of the slots below a bound, which grows until it has passed the last slot.
use Rattle.std.proofs.Common.{◌≡◌, ◌≢◌, sym, ◌∙◌, ap, ap₂, subst, inl, inr, Bool, ◌&&◌, ℕ, ◌+◌, ◌-◌, ◌<◌, ◌≤◌, List, [], ◌∷◌, ◌++◌, Option, Some, None, All, arith, length-append}
use Rattle.std.specs.Prelude.{IsTrue, nat_le}
use Rattle.std.specs.List.{Any}
use Rattle.std.proofs.lemmas.Bool.{and_parts, cases_lt, le-leb, leb-true}
use Rattle.std.proofs.lemmas.List.{get_or_append_left}
use Rattle.std.proofs.lemmas.List.Elements.{All-push}
use Rattle.std.proofs.lemmas.List.Quantifiers.{Any-push, all_pairs_push}
use Rattle.key_slot.specs.declared.slots.SlotRange.{SlotRange}
use Rattle.key_slot.specs.SlotRange.{is_in}
use Rattle.slot_table.specs.declared.runs.Run.{Run}
use Rattle.slot_table.specs.Runs.{IsRun, AreRunsBelow}

-- a slot from the first to the last is one of the range
pub in_range : (range : SlotRange) (slot : ℕ) → range.first ≤ slot → slot ≤ range.last → IsTrue (is_in range slot)
in_range range slot from to = ap₂ (λ (a : Bool) (b : Bool). a && b) (le-leb range.first slot from) (le-leb slot range.last to)

-- a slot of the range is not before the first
pub from_first : (range : SlotRange) (slot : ℕ) → IsTrue (is_in range slot) → range.first ≤ slot
from_first range slot is = leb-true range.first slot (and_parts (nat_le range.first slot) (nat_le slot range.last) is).0

-- a slot of the range is not behind the last
pub to_last : (range : SlotRange) (slot : ℕ) → IsTrue (is_in range slot) → slot ≤ range.last
to_last range slot is = leb-true slot range.last (and_parts (nat_le range.first slot) (nat_le slot range.last) is).1

-- the runs below the bound are whole: no run continues at the bound
pub record AreRunsUpTo {T : Type 0} (bound : ℕ) (value_at : ℕ → Option T) (runs : List (Run T)) : Type 0 where
  pub below : AreRunsBelow bound value_at runs
  pub passed : All (λ run. run.slots.last < bound) runs
  pub cut : (slot : ℕ) (value : T) → slot + 1 ≡ bound → value_at slot ≡ Some value → value_at bound ≢ Some value

pub up_to-zero : {T : Type 0} (value_at : ℕ → Option T) → AreRunsUpTo 0 value_at []
up_to-zero value_at = record {
  below = record {
    each = λ k d lt. absurd (omega arith);
    rising = λ i j d lt in_list. absurd (omega arith);
    complete = λ slot value lt is. absurd (omega arith);
  };
  passed = λ k d lt. absurd (omega arith);
  cut = λ slot value next is. absurd (omega arith);
}

-- no run holds a slot without a value
pub up_to-none : {T : Type 0} (bound : ℕ) (value_at : ℕ → Option T) (runs : List (Run T)) → AreRunsUpTo bound value_at runs → value_at bound ≡ None → AreRunsUpTo (bound + 1) value_at runs
up_to-none {T} bound value_at runs so_far none =
    let has_none : (slot : ℕ) (value : T) → slot ≡ bound → value_at slot ≡ Some value → ⊥ = λ slot value same is. cc in
    record {
      below = record {
        each = so_far.below.each;
        rising = so_far.below.rising;
        complete = λ slot value lt is.
            elim (cases_lt slot bound) [
              | inl before ↦ so_far.below.complete slot value before is
              | inr behind ↦ absurd (has_none slot value (omega arith) is)
            ];
      };
      passed = λ k d lt. omega (arith, so_far.passed k d lt);
      cut = λ slot value next is. absurd (has_none slot value (omega arith) is);
    }

pub Any-push_left : {X : Type 0} (P : X → Type 0) (xs : List X) (y : X) → Any P xs → Any P (xs ++ y ∷ [])
Any-push_left P xs y some = (
  some.0,
  some.1,
  omega (arith, length-append xs (y ∷ []), some.2),
  get_or_append_left xs (y ∷ []) some.1 some.0 some.2 ∙ some.3,
  some.4,
)

-- a run begins at the bound, and the bound moves behind it
pub up_to-run : {T : Type 0} (bound stop : ℕ) (value : T) (value_at : ℕ → Option T) (runs after : List (Run T)) (slots : SlotRange) → AreRunsUpTo bound value_at runs
    → slots ≡ record { first = bound; last = stop - 1 } → after ≡ runs ++ record { slots = slots; value = value } ∷ []
    → bound < stop → ((slot : ℕ) → bound ≤ slot → slot < stop → value_at slot ≡ Some value) → value_at stop ≢ Some value
    → AreRunsUpTo stop value_at after
up_to-run {T} bound stop value value_at runs after slots so_far is pushed lt inside stops =
    let first : slots.first ≡ bound = ap (λ (r : SlotRange). r.first) is in
    let last : slots.last ≡ stop - 1 = ap (λ (r : SlotRange). r.last) is in
    let behind : slots.last + 1 ≡ stop = omega arith in
    let run : Run T = record { slots = slots; value = value } in
    let whole : IsRun value_at run = record {
      some = omega arith;
      inside = λ slot has.
          let from = from_first slots slot has in
          let to = to_last slots slot has in
          inside slot (omega arith) (omega arith);
      before = λ slot next had. so_far.cut slot value (omega arith) had (inside bound (omega arith) lt);
      behind = λ on. stops (ap value_at (sym behind) ∙ on);
    } in
    subst (AreRunsUpTo stop value_at) (sym pushed) (record {
      below = record {
        each = All-push (IsRun value_at) runs run so_far.below.each whole;
        rising = all_pairs_push (λ r next. r.slots.last < next.slots.first) runs run so_far.below.rising (λ k d in_list. omega (arith, so_far.passed k d in_list));
        complete = λ slot v below has.
            elim (cases_lt slot bound) [
              | inl earlier ↦ Any-push_left (λ r. IsTrue (is_in r.slots slot)) runs run (so_far.below.complete slot v earlier has)
              | inr later ↦ Any-push (λ r. IsTrue (is_in r.slots slot)) runs run (in_range slots slot (omega arith) (omega arith))
            ];
      };
      passed = All-push (λ r. r.slots.last < stop) runs run (λ k d in_list. omega (arith, so_far.passed k d in_list)) (omega arith);
      cut = λ slot v next has on.
          let one : Some v ≡ Some value = sym has ∙ inside slot (omega arith) (omega arith) in
          stops (on ∙ one);
    })
