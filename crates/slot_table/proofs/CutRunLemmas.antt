-- Runs that are cut off at a bound stay so as the bound moves on.
use Rattle.std.proofs.Common.{◌≡◌, ◌≢◌, sym, ◌∙◌, ap, subst, refl, inl, inr, Bool, ℕ, ◌+◌, ◌<◌, ◌≤◌, List, [], ◌∷◌, ◌++◌, length, get_or, set, Option, Some, None, All, arith, if◌then◌else◌}
use Rattle.std.specs.Prelude.{IsTrue}
use Rattle.std.proofs.lemmas.Bool.{cases_lt, cases_eq, eq-eqb, ne_eqb}
use Rattle.std.specs.List.{Any}
use Rattle.std.proofs.lemmas.List.{get_or_default, get_or-set_other, get_or-set_same, length-set}
use Rattle.std.proofs.lemmas.List.Elements.{All-push}
use Rattle.std.proofs.lemmas.List.Quantifiers.{Any-push, all_pairs_push}
use Rattle.key_slot.specs.SlotRange.{is_in}
use Rattle.slot_table.specs.declared.runs.Run.{Run}
use Rattle.slot_table.specs.Runs.{AreRunsOf}
use Rattle.slot_table.specs.CutRuns.{IsRunCutAt, AreRunsCutAt, AreNext, with_value}
use Rattle.slot_table.proofs.RunLemmas.{in_range, from_first, to_last, Any-push_left}
use Rattle.slot_table.proofs.RunsOfLemmas.{ends_below}

-- below slot 0 there are no runs
pub cut-zero : (value_at : ℕ → Option ℕ) → AreRunsCutAt 0 value_at []
cut-zero value_at = record {
  each = λ k d lt. absurd (omega arith);
  rising = λ i j d lt in_list. absurd (omega arith);
  complete = λ slot value lt is. absurd (omega arith);
}

-- a run ends where the bound has moved on, if the slot at the bound hasn't its value
moved : (bound more : ℕ) (value_at : ℕ → Option ℕ) (run : Run ℕ) → IsRunCutAt bound value_at run → bound ≤ more
    → (run.slots.last + 1 ≡ bound → bound < more → value_at bound ≢ Some run.value) → IsRunCutAt more value_at run
moved bound more value_at run is from ends =
    let within = is.within in
    record {
      some = is.some;
      within = omega arith;
      inside = is.inside;
      before = is.before;
      behind = λ below.
          elim (cases_lt (run.slots.last + 1) bound) [
            | inl earlier ↦ is.behind earlier
            | inr here ↦ λ has. ends (omega arith) (omega arith) (ap value_at (omega arith) ∙ has)
          ];
    }

-- the run that ends at the bound is the last one
touching : (bound : ℕ) (value_at : ℕ → Option ℕ) (runs : List (Run ℕ)) (k : ℕ) (d : Run ℕ) → AreRunsCutAt bound value_at runs → k < length runs → (get_or runs k d).slots.last + 1 ≡ bound → k + 1 ≡ length runs
touching bound value_at runs k d are lt ends =
    elim (cases_lt (k + 1) (length runs)) [
      | inl earlier ↦ absurd (
          let apart = are.rising k (k + 1) d (omega arith) earlier in
          let some = (are.each (k + 1) d earlier).some in
          let within = (are.each (k + 1) d earlier).within in
          omega arith
          )
      | inr last ↦ omega arith
    ]

-- the last run doesn't go on in the next slots
abbrev pub IsApart : List (Run ℕ) → Run ℕ → Type 0
IsApart runs next = (k : ℕ) (d : Run ℕ) → k + 1 ≡ length runs → (get_or runs k d).slots.last + 1 ≡ next.slots.first → (get_or runs k d).value ≢ next.value

-- then all runs end before them
still : (bound : ℕ) (value_at : ℕ → Option ℕ) (runs : List (Run ℕ)) (next : Run ℕ) → AreRunsCutAt bound value_at runs → AreNext bound value_at next → IsApart runs next
    → All (IsRunCutAt (next.slots.last + 1) value_at) runs
still bound value_at runs next are is apart = λ k d lt.
    let from = is.from in
    let some = is.some in
    moved bound (next.slots.last + 1) value_at (get_or runs k d) (are.each k d lt) (omega arith) (λ ends below has.
    elim (cases_lt bound next.slots.first) [
      | inl free ↦ let none : value_at bound ≡ None = is.between bound (omega arith) free in cc
      | inr here ↦
          let own : value_at bound ≡ Some next.value = is.inside bound (in_range next.slots bound (omega arith) (omega arith)) in
          let same : (get_or runs k d).value ≡ next.value = cc in
          apart k d (touching bound value_at runs k d are lt ends) (omega arith) same
    ])

-- the next slots are a run, if the last run doesn't go on in them
next_run : (bound : ℕ) (value_at : ℕ → Option ℕ) (runs : List (Run ℕ)) (next : Run ℕ) → AreRunsCutAt bound value_at runs → AreNext bound value_at next → IsApart runs next
    → IsRunCutAt (next.slots.last + 1) value_at next
next_run bound value_at runs next are is apart = record {
  some = is.some;
  within = omega arith;
  inside = is.inside;
  before = λ slot at has.
      let from = is.from in
      elim (cases_lt slot bound) [
        | inl earlier ↦
            let found = are.complete slot next.value earlier has in
            let run : IsRunCutAt bound value_at found.1 = subst (IsRunCutAt bound value_at) found.3 (are.each found.0 found.1 found.2) in
            let within = run.within in
            let to = to_last found.1.slots slot found.4 in
            let own : value_at slot ≡ Some found.1.value = run.inside slot found.4 in
            let same : (get_or runs found.0 found.1).value ≡ next.value = ap (λ (r : Run ℕ). r.value) found.3 ∙ cc in
            let ends : (get_or runs found.0 found.1).slots.last ≡ slot = ap (λ (r : Run ℕ). r.slots.last) found.3 ∙ omega arith in
            apart found.0 found.1 (touching bound value_at runs found.0 found.1 are found.2 (omega arith)) (omega arith) same
        | inr free ↦ let none : value_at slot ≡ None = is.between slot free (omega arith) in cc
      ];
  behind = λ below. absurd (omega arith);
}

-- they are added as a run of their own
pub pushed : (bound : ℕ) (value_at : ℕ → Option ℕ) (runs : List (Run ℕ)) (next : Run ℕ) → AreRunsCutAt bound value_at runs → AreNext bound value_at next → IsApart runs next
    → AreRunsCutAt (next.slots.last + 1) value_at (runs ++ next ∷ [])
pushed bound value_at runs next are is apart =
    let from = is.from in
    record {
      each = All-push (IsRunCutAt (next.slots.last + 1) value_at) runs next (still bound value_at runs next are is apart) (next_run bound value_at runs next are is apart);
      rising = all_pairs_push (λ r following. r.slots.last < following.slots.first) runs next are.rising (λ k d lt. let within = (are.each k d lt).within in omega arith);
      complete = λ slot value below has.
          elim (cases_lt slot bound) [
            | inl earlier ↦ Any-push_left (λ r. IsTrue (is_in r.slots slot)) runs next (are.complete slot value earlier has)
            | inr later ↦
                elim (cases_lt slot next.slots.first) [
                  | inl free ↦ absurd (let none : value_at slot ≡ None = is.between slot later free in cc)
                  | inr here ↦ Any-push (λ r. IsTrue (is_in r.slots slot)) runs next (in_range next.slots slot here (omega arith))
                ]
          ];
    }

-- the last run and the next slots together
abbrev pub longer : Run ℕ → Run ℕ → Run ℕ
longer run next = record { slots = record { first = run.slots.first; last = next.slots.last }; value = next.value }

-- the last run goes on in the next slots
longer_run : (bound : ℕ) (value_at : ℕ → Option ℕ) (run next : Run ℕ) → IsRunCutAt bound value_at run → AreNext bound value_at next → run.slots.last + 1 ≡ next.slots.first → run.value ≡ next.value
    → IsRunCutAt (next.slots.last + 1) value_at (longer run next)
longer_run bound value_at run next whole is ends same = record {
  some = let first = whole.some in let second = is.some in omega arith;
  within = omega arith;
  inside = λ slot has.
      let from = from_first (longer run next).slots slot has in
      let to = to_last (longer run next).slots slot has in
      elim (cases_lt run.slots.last slot) [
        | inl later ↦ is.inside slot (in_range next.slots slot (omega arith) to)
        | inr earlier ↦ whole.inside slot (in_range run.slots slot from earlier) ∙ ap Some same
      ];
  before = λ slot at has. whole.before slot at (has ∙ ap Some (sym same));
  behind = λ below. absurd (omega arith);
}

-- they are added to the last run
module _ (bound : ℕ) (value_at : ℕ → Option ℕ) (runs : List (Run ℕ)) (next : Run ℕ) (are : AreRunsCutAt bound value_at runs) (is : AreNext bound value_at next) (n : ℕ) (run : Run ℕ)
    (last : n + 1 ≡ length runs) (at : get_or runs n run ≡ run) (ends : run.slots.last + 1 ≡ next.slots.first) (same : run.value ≡ next.value) where
  -- what the changed list has there
  here : (d : Run ℕ) → get_or (set runs n (longer run next)) n d ≡ longer run next
  here d = get_or-set_same runs n (longer run next) d (omega arith)

  -- and elsewhere
  elsewhere : (k : ℕ) (d : Run ℕ) → k ≢ n → get_or (set runs n (longer run next)) k d ≡ get_or runs k d
  elsewhere k d other = get_or-set_other runs n k (longer run next) d other

  -- the last run as it was
  was : IsRunCutAt bound value_at run
  was = subst (IsRunCutAt bound value_at) at (are.each n run (omega arith))

  pub lengthened : AreRunsCutAt (next.slots.last + 1) value_at (set runs n (longer run next))
  lengthened =
      let many : length (set runs n (longer run next)) ≡ length runs = length-set runs n (longer run next) in
      let from = is.from in
      let some = is.some in
      record {
        each = λ k d lt.
            elim (cases_eq k n) [
              | inl it ↦ subst (IsRunCutAt (next.slots.last + 1) value_at) (sym (ap (λ j. get_or (set runs n (longer run next)) j d) it ∙ here d)) (longer_run bound value_at run next was is ends same)
              | inr other ↦ subst (IsRunCutAt (next.slots.last + 1) value_at) (sym (elsewhere k d other)) (
                  moved bound (next.slots.last + 1) value_at (get_or runs k d) (are.each k d (omega arith)) (omega arith) (λ touches below.
                  let it = touching bound value_at runs k d are (omega arith) touches in
                  absurd (other (omega arith)))
                  )
            ];
        rising = λ i j d lt in_list.
            let in_old : j < length runs = omega arith in
            let apart = are.rising i j d lt in_old in
            elim (cases_eq j n) [
              | inl it ↦
                  let first = ap (λ (r : Run ℕ). r.slots.first) (ap (λ k. get_or (set runs n (longer run next)) k d) it ∙ here d) in
                  let earlier = ap (λ (r : Run ℕ). r.slots.last) (elsewhere i d (λ same. omega arith)) in
                  let began = ap (λ (r : Run ℕ). r.slots.first) (ap (λ k. get_or runs k d) it ∙ sym (get_or_default runs n run d (omega arith)) ∙ at) in
                  omega arith
              | inr other ↦
                  let first = ap (λ (r : Run ℕ). r.slots.first) (elsewhere j d other) in
                  let earlier = ap (λ (r : Run ℕ). r.slots.last) (elsewhere i d (λ same. omega arith)) in
                  omega arith
            ];
        complete = λ slot value below has.
            let last_has : run.slots.first ≤ slot → Any (λ r. IsTrue (is_in r.slots slot)) (set runs n (longer run next)) = λ began.
            (n, longer run next, omega arith, here (longer run next), in_range (longer run next).slots slot began (omega arith)) in
            elim (cases_lt slot run.slots.first) [
              | inl earlier ↦
                  let found = are.complete slot value (let within = was.within in let whole = was.some in omega arith) has in
                  let other : found.0 ≢ n = λ it.
                  let first = ap (λ (r : Run ℕ). r.slots.first) (sym found.3 ∙ ap (λ k. get_or runs k found.1) it ∙ sym (get_or_default runs n run found.1 (omega arith)) ∙ at) in
                  let began = from_first found.1.slots slot found.4 in
                  omega arith in
                  (found.0, found.1, (let lt = found.2 in omega arith), elsewhere found.0 found.1 other ∙ found.3, found.4)
              | inr began ↦ last_has began
            ];
      }

-- the runs of the values, as runs cut off behind the last slot
pub cut_runs : (value_at : ℕ → Option ℕ) (runs : List (Run ℕ)) → ((slot : ℕ) → 16384 ≤ slot → value_at slot ≡ None) → AreRunsOf value_at runs → AreRunsCutAt 16384 value_at runs
cut_runs value_at runs bounded are = record {
  each = λ k d lt.
      let run = are.each k d lt in
      record {
        some = run.some;
        within = ends_below value_at runs are bounded k d lt;
        inside = run.inside;
        before = run.before;
        behind = λ below. run.behind;
      };
  rising = are.rising;
  complete = are.complete;
}

-- runs that are cut off behind the last slot are the runs of the values
pub whole_runs : (value_at : ℕ → Option ℕ) (runs : List (Run ℕ)) → value_at 16384 ≡ None → AreRunsCutAt 16384 value_at runs → AreRunsOf value_at runs
whole_runs value_at runs none are = record {
  each = λ k d lt.
      let run = are.each k d lt in
      let within = run.within in
      record {
        some = run.some;
        inside = run.inside;
        before = run.before;
        behind = λ has.
            elim (cases_lt ((get_or runs k d).slots.last + 1) 16384) [
              | inl below ↦ run.behind below has
              | inr at ↦ let nothing : value_at ((get_or runs k d).slots.last + 1) ≡ None = ap value_at (omega arith) ∙ none in cc
            ];
      };
  rising = are.rising;
  complete = are.complete;
}

-- only the values of the slots below the bound matter
pub with_same_values : (bound : ℕ) (value_at other_at : ℕ → Option ℕ) (runs : List (Run ℕ)) → ((slot : ℕ) → slot < bound → value_at slot ≡ other_at slot) → AreRunsCutAt bound value_at runs → AreRunsCutAt bound other_at runs
with_same_values bound value_at other_at runs same are = record {
  each = λ k d lt.
      let run = are.each k d lt in
      let some = run.some in
      let within = run.within in
      record {
        some = run.some;
        within = run.within;
        inside = λ slot has. sym (same slot (let to = to_last (get_or runs k d).slots slot has in omega arith)) ∙ run.inside slot has;
        before = λ slot at has. run.before slot at (same slot (omega arith) ∙ has);
        behind = λ below has. run.behind below (same ((get_or runs k d).slots.last + 1) below ∙ has);
      };
  rising = are.rising;
  complete = λ slot value below has. are.complete slot value below (same slot below ∙ has);
}

-- the bound passes slots without a value
pub further_on : (bound more : ℕ) (value_at : ℕ → Option ℕ) (runs : List (Run ℕ)) → bound ≤ more → ((slot : ℕ) → bound ≤ slot → slot < more → value_at slot ≡ None) → AreRunsCutAt bound value_at runs → AreRunsCutAt more value_at runs
further_on bound more value_at runs from free are = record {
  each = λ k d lt. moved bound more value_at (get_or runs k d) (are.each k d lt) from (λ ends below has.
      let none : value_at bound ≡ None = free bound (omega arith) below in
      cc);
  rising = are.rising;
  complete = λ slot value below has.
      elim (cases_lt slot bound) [
        | inl earlier ↦ are.complete slot value earlier has
        | inr later ↦ absurd (let none : value_at slot ≡ None = free slot later below in cc)
      ];
}

-- a slot with a value at the bound is next
pub one_next : (slot value : ℕ) (value_at : ℕ → Option ℕ) → value_at slot ≡ Some value → AreNext slot value_at (record { slots = record { first = slot; last = slot }; value = value })
one_next slot value value_at has = record {
  from = omega arith;
  some = omega arith;
  between = λ at from before. absurd (omega arith);
  inside = λ at in_it.
      let from = from_first (record { first = slot; last = slot }) at in_it in
      let to = to_last (record { first = slot; last = slot }) at in_it in
      ap value_at (omega arith) ∙ has;
}

-- a slot without a value at the bound is passed
pub none_next : (slot : ℕ) (value_at : ℕ → Option ℕ) (runs : List (Run ℕ)) → value_at slot ≡ None → AreRunsCutAt slot value_at runs → AreRunsCutAt (slot + 1) value_at runs
none_next slot value_at runs none are = further_on slot (slot + 1) value_at runs (omega arith) (λ at from below. ap value_at (omega arith) ∙ none) are

-- the slot has its own value
pub with_own : (value_at : ℕ → Option ℕ) (slot : ℕ) (own : Option ℕ) → with_value value_at slot own slot ≡ own
with_own value_at slot own = ap (λ (b : Bool). if b then own else value_at slot) (eq-eqb slot slot refl)

-- all others have theirs
pub with_others : (value_at : ℕ → Option ℕ) (slot : ℕ) (own : Option ℕ) (at : ℕ) → at ≢ slot → with_value value_at slot own at ≡ value_at at
with_others value_at slot own at other = ap (λ (b : Bool). if b then own else value_at at) (ne_eqb at slot other)
