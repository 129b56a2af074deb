-- The parts of runs that lie between two bounds are added one by one.
use Rattle.std.proofs.Common.{◌≡◌, sym, ◌∙◌, ap, subst, refl, inl, inr, ℕ, ◌+◌, ◌-◌, ◌<◌, ◌≤◌, List, length, get_or, Option, Some, None, arith, max, min}
use Rattle.std.specs.Prelude.{IsTrue}
use Rattle.std.proofs.lemmas.Bool.{cases_lt, cases_eq}
use Rattle.std.proofs.lemmas.List.{get_or_default}
use Rattle.key_slot.specs.SlotRange.{is_in}
use Rattle.slot_table.specs.declared.runs.Run.{Run}
use Rattle.slot_table.specs.CutRuns.{AreRunsCutAt, AreNext}
use Rattle.slot_table.proofs.RunLemmas.{in_range, from_first, to_last}
use Rattle.slot_table.proofs.CutRunLemmas.{further_on}

-- the parts of the first runs are added: these are all slots with a value below a bound
pub record Reached (wanted : ℕ → Option ℕ) (start end : ℕ) (runs : List (Run ℕ)) (i : ℕ) (changed : List (Run ℕ)) : Type 0 where
  pub bound : ℕ
  pub from : start ≤ bound
  pub to : bound ≤ end
  pub are : AreRunsCutAt bound wanted changed
  pub passed : (j slot : ℕ) (d : Run ℕ) → j < i → bound ≤ slot → slot < end → IsTrue (is_in (get_or runs j d).slots slot) → ⊥
  pub ahead : (j : ℕ) (d : Run ℕ) → i ≤ j → j < length runs → start < bound → bound ≤ (get_or runs j d).slots.first

-- at first it is the start
pub reached_start : (wanted : ℕ → Option ℕ) (start end : ℕ) (runs changed : List (Run ℕ)) → start ≤ end → AreRunsCutAt start wanted changed → Reached wanted start end runs 0 changed
reached_start wanted start end runs changed some are = record {
  bound = start;
  from = omega arith;
  to = some;
  are = are;
  passed = λ j slot d before from below has. omega arith;
  ahead = λ j d from lt more. absurd (omega arith);
}

no_value : (own : Option ℕ) → ((value : ℕ) → own ≡ Some value → ⊥) → own ≡ None
no_value None none = refl
no_value (Some value) none = absurd (none value refl)

module _ (value_at wanted : ℕ → Option ℕ) (start end : ℕ) (runs : List (Run ℕ)) (are : AreRunsCutAt 16384 value_at runs) (same : (slot : ℕ) → start ≤ slot → slot < end → wanted slot ≡ value_at slot) (within : end ≤ 16384) where
  -- a slot before the later runs has no value
  free : (i : ℕ) (changed : List (Run ℕ)) (reached : Reached wanted start end runs i changed) (slot : ℕ) → reached.bound ≤ slot → slot < end
      → ((j : ℕ) (d : Run ℕ) → i ≤ j → j < length runs → slot < (get_or runs j d).slots.first) → wanted slot ≡ None
  free i changed reached slot from below later =
      same slot (let began = reached.from in omega arith) below
      ∙ no_value (value_at slot) (λ value has.
      let found = are.complete slot value (omega arith) has in
      let inside : IsTrue (is_in (get_or runs found.0 found.1).slots slot) = subst (λ (r : Run ℕ). IsTrue (is_in r.slots slot)) (sym found.3) found.4 in
      elim (cases_lt found.0 i) [
        | inl before ↦ reached.passed found.0 slot found.1 before from below inside
        | inr after ↦
            let first = from_first (get_or runs found.0 found.1).slots slot inside in
            let ahead = later found.0 found.1 after found.2 in
            omega arith
      ])

  -- behind the last run there is none
  pub reached_end : (i : ℕ) (changed : List (Run ℕ)) → length runs ≤ i → Reached wanted start end runs i changed → AreRunsCutAt end wanted changed
  reached_end i changed all reached =
      further_on reached.bound end wanted changed reached.to (λ slot from below. free i changed reached slot from below (λ j d after lt. absurd (omega arith))) reached.are

  module _ (i : ℕ) (run : Run ℕ) (lt : i < length runs) (is : run ≡ get_or runs i run) (first behind : ℕ) (begins : first ≡ max run.slots.first start) (ends : behind ≡ min (run.slots.last + 1) end) where
    -- the run of this place
    it : (j : ℕ) (d : Run ℕ) → j ≡ i → get_or runs j d ≡ run
    it j d at = ap (λ k. get_or runs k d) at ∙ sym (is ∙ get_or_default runs i run d lt)

    some : run.slots.first ≤ run.slots.last
    some = subst (λ (r : Run ℕ). r.slots.first ≤ r.slots.last) (it i run refl) (are.each i run lt).some

    -- the later runs are behind it
    later : (j : ℕ) (d : Run ℕ) → i < j → j < length runs → run.slots.last < (get_or runs j d).slots.first
    later j d after in_list = subst (λ (r : Run ℕ). r.slots.last < (get_or runs j d).slots.first) (it i d refl) (are.rising i j d after in_list)

    -- a run with no slot between the bounds is passed over
    pub reached_none : (changed : List (Run ℕ)) → behind ≤ first → Reached wanted start end runs i changed → Reached wanted start end runs (i + 1) changed
    reached_none changed none reached = record {
      bound = reached.bound;
      from = reached.from;
      to = reached.to;
      are = reached.are;
      passed = λ j slot d before from below has.
          elim (cases_eq j i) [
            | inl at ↦
                let inside : IsTrue (is_in run.slots slot) = subst (λ (r : Run ℕ). IsTrue (is_in r.slots slot)) (it j d at) has in
                let began = from_first run.slots slot inside in
                let ended = to_last run.slots slot inside in
                let started = reached.from in
                omega arith
            | inr other ↦ reached.passed j slot d (omega arith) from below has
          ];
      ahead = λ j d after in_list more. reached.ahead j d (omega arith) in_list more;
    }

    -- the part of a run between the bounds is next
    next_part : (changed : List (Run ℕ)) → first < behind → (reached : Reached wanted start end runs i changed) → AreNext reached.bound wanted (record { slots = record { first = first; last = behind - 1 }; value = run.value })
    next_part changed part reached = record {
      from =
          elim (cases_lt start reached.bound) [
            | inl more ↦
                let ahead : reached.bound ≤ run.slots.first = subst (λ (r : Run ℕ). reached.bound ≤ r.slots.first) (it i run refl) (reached.ahead i run (omega arith) lt more) in
                omega arith
            | inr at ↦ omega arith
          ];
      some = omega arith;
      between = λ slot from below. free i changed reached slot from (omega arith) (λ j d after in_list.
          let started = reached.from in
          elim (cases_eq j i) [
            | inl at ↦ let began = ap (λ (r : Run ℕ). r.slots.first) (it j d at) in omega arith
            | inr other ↦ let behind_it = later j d (omega arith) in_list in let full = some in omega arith
          ]);
      inside = λ slot has.
          let began = from_first (record { first = first; last = behind - 1 }) slot has in
          let ended = to_last (record { first = first; last = behind - 1 }) slot has in
          let own : value_at slot ≡ Some run.value =
          subst (λ (r : Run ℕ). value_at slot ≡ Some r.value) (it i run refl)
          ((are.each i run lt).inside slot (subst (λ (r : Run ℕ). IsTrue (is_in r.slots slot)) (sym (it i run refl)) (in_range run.slots slot (omega arith) (omega arith)))) in
          same slot (omega arith) (omega arith) ∙ own;
    }

    -- the part of a run between the bounds is added
    pub reached_part : (changed more : List (Run ℕ)) (part : Run ℕ) → first < behind → part ≡ record { slots = record { first = first; last = behind - 1 }; value = run.value }
        → ((bound : ℕ) (value_at : ℕ → Option ℕ) → AreRunsCutAt bound value_at changed → AreNext bound value_at part → AreRunsCutAt (part.slots.last + 1) value_at more)
        → Reached wanted start end runs i changed → Reached wanted start end runs (i + 1) more
    reached_part changed more part some_part is_part adds reached =
        let next = next_part changed some_part reached in
        let last : part.slots.last + 1 ≡ behind = ap (λ (r : Run ℕ). r.slots.last + 1) is_part ∙ omega arith in
        let added : AreRunsCutAt behind wanted more =
        subst (λ bound. AreRunsCutAt bound wanted more) last (adds reached.bound wanted reached.are (subst (AreNext reached.bound wanted) (sym is_part) next)) in
        record {
          bound = behind;
          from = omega arith;
          to = omega arith;
          are = added;
          passed = λ j slot d before from below has.
              elim (cases_eq j i) [
                | inl at ↦
                    let inside : IsTrue (is_in run.slots slot) = subst (λ (r : Run ℕ). IsTrue (is_in r.slots slot)) (it j d at) has in
                    let ended = to_last run.slots slot inside in
                    omega arith
                | inr other ↦ reached.passed j slot d (omega arith) (let began = next.from in omega arith) below has
              ];
          ahead = λ j d after in_list started. let behind_it = later j d (omega arith) in_list in omega arith;
        }
