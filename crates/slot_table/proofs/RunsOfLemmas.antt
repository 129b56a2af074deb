-- The runs are one list: their first and last slots are those at which a value begins and ends.
use Rattle.std.proofs.Common.{◌≡◌, ◌≢◌, sym, ◌∙◌, ap, ap₂, refl, subst, inl, inr, zero, suc, Bool, true, false, cond, ◌⊎◌, ℕ, ◌+◌, ◌-◌, ◌<◌, ◌≤◌, List, [], ◌∷◌, length, get_or, map, filter, zip, Option, Some, None, All, arith}
use Rattle.std.specs.Prelude.{unwrap_or}
use Rattle.std.specs.List.{Any, AllPairs, range_with_len}
use Rattle.std.proofs.lemmas.Bool.{cases_lt, cases_eq, cases_Bool, eq-eqb, ne_eqb, not_from_false, not_from_true}
use Rattle.std.proofs.lemmas.List.{get_or_past}
use Rattle.slot_table.specs.declared.entry.SlotEntry.{SlotEntry}
use Rattle.slot_table.specs.Table.{owner_at, owner_in, claim_at, epoch_in}
use Rattle.slot_table.specs.declared.runs.Run.{Run}
use Rattle.slot_table.specs.Runs.{IsRun, AreRunsOf, AreRunsBelow, is_edge, value_before, run_between, runs_of}
use Rattle.slot_table.proofs.RunLemmas.{AreRunsUpTo, up_to-zero, up_to-none, up_to-run, in_range, from_first, to_last}

-- some element is the first or one of the others
any_cases : {X : Type 0} (P : X → Type 0) (x : X) (xs : List X) → Any P (x ∷ xs) → P x ⊎ Any P xs
any_cases P x xs (zero, y, lt, is, has) = inl (subst P (sym is) has)
any_cases P x xs (suc k, y, lt, is, has) = inr (k, y, omega arith, is, has)

-- none of no elements
any_none : {X : Type 0} (P : X → Type 0) → Any P [] → ⊥
any_none P (k, y, lt, is, has) = omega arith

-- the numbers of a stretch that pass, as the places of rising elements, and each that passes is one of them
pub record ArePassing {X : Type 0} (place : X → ℕ) (p : ℕ → Bool) (a bound : ℕ) (xs : List X) : Type 0 where
  pub rising : AllPairs (λ x next. place x < place next) xs
  pub from : All (λ x. a ≤ place x) xs
  pub below : All (λ x. place x < bound) xs
  pub pass : All (λ x. p (place x) ≡ true) xs
  pub complete : (k : ℕ) → a ≤ k → k < bound → p k ≡ true → Any (λ x. place x ≡ k) xs

-- without the first element
rest_rising : {X : Type 0} (place : X → ℕ) (x : X) (xs : List X) → AllPairs (λ x next. place x < place next) (x ∷ xs) → AllPairs (λ x next. place x < place next) xs
rest_rising place x xs rising = λ i j d lt in_list. rising (suc i) (suc j) d (omega arith) (omega arith)

-- the others are behind the first
later : {X : Type 0} (place : X → ℕ) (x : X) (xs : List X) → AllPairs (λ x next. place x < place next) (x ∷ xs) → All (λ next. place x < place next) xs
later place x xs rising = λ k d lt. rising 0 (suc k) d (omega arith) (omega arith)

-- a number that passes is the place of the first element
at_first : {X : Type 0} (place : X → ℕ) (p : ℕ → Bool) (a bound : ℕ) (x : X) (xs : List X) → ArePassing place p a bound (x ∷ xs) → a < bound → p a ≡ true → place x ≡ a
at_first place p a bound x xs all lt passes =
    elim (any_cases (λ y. place y ≡ a) x xs (all.complete a (omega arith) lt passes)) [
      | inl is ↦ is
      | inr (k, y, in_list, is, at) ↦
          let behind : place x < place (get_or xs k y) = later place x xs all.rising k y in_list in
          let same : place (get_or xs k y) ≡ a = ap place is ∙ at in
          let from : a ≤ place x = all.from 0 x (omega arith) in
          absurd (omega arith)
    ]

-- the first number passes, and the others are those behind it
passing_rest : {X : Type 0} (place : X → ℕ) (p : ℕ → Bool) (a bound : ℕ) (x : X) (xs : List X) → ArePassing place p a bound (x ∷ xs) → place x ≡ a → ArePassing place p (a + 1) bound xs
passing_rest place p a bound x xs all here = record {
  rising = rest_rising place x xs all.rising;
  from = λ k d lt. omega (arith, later place x xs all.rising k d lt);
  below = λ k d lt. all.below (suc k) d (omega arith);
  pass = λ k d lt. all.pass (suc k) d (omega arith);
  complete = λ k from below passes.
      elim (any_cases (λ y. place y ≡ k) x xs (all.complete k (omega arith) below passes)) [
        | inl is ↦ absurd (omega arith)
        | inr some ↦ some
      ];
}

-- the first number fails, and is no element's place
passing_more : {X : Type 0} (place : X → ℕ) (p : ℕ → Bool) (a bound : ℕ) (xs : List X) → ArePassing place p a bound xs → p a ≡ false → ArePassing place p (a + 1) bound xs
passing_more place p a bound xs all fails = record {
  rising = all.rising;
  from = λ k d lt.
      let other : place (get_or xs k d) ≢ a = λ same. let passes : p a ≡ true = ap p (sym same) ∙ all.pass k d lt in cc in
      let from : a ≤ place (get_or xs k d) = all.from k d lt in
      elim (cases_lt a (place (get_or xs k d))) [
        | inl behind ↦ omega arith
        | inr before ↦ absurd (other (omega arith))
      ];
  below = all.below;
  pass = all.pass;
  complete = λ k from below passes. all.complete k (omega arith) below passes;
}

-- rising places that are exactly the numbers which pass are what the filter keeps
kept : {X : Type 0} (place : X → ℕ) (p : ℕ → Bool) (a n bound : ℕ) (xs : List X) → a + n ≡ bound → ArePassing place p a bound xs → filter p (range_with_len a n) ≡ map place xs
kept place p a zero bound [] at all = refl
kept place p a zero bound (x ∷ xs) at all =
    let from : a ≤ place x = all.from 0 x (omega arith) in
    let below : place x < bound = all.below 0 x (omega arith) in
    absurd (omega arith)
kept place p a (suc n) bound [] at all =
    elim (cases_Bool (p a)) [
      | inl passes ↦ absurd (any_none _ (all.complete a (omega arith) (omega arith) passes))
      | inr fails ↦
          let rest : filter p (range_with_len (a + 1) n) ≡ [] = kept place p (a + 1) n bound [] (omega arith) (passing_more place p a bound [] all fails) in
          ap₂ (λ (b : Bool) (ys : List ℕ). cond b (a ∷ ys) ys) fails rest
    ]
kept place p a (suc n) bound (x ∷ xs) at all =
    elim (cases_Bool (p a)) [
      | inl passes ↦
          let here : place x ≡ a = at_first place p a bound x xs all (omega arith) passes in
          let rest : filter p (range_with_len (a + 1) n) ≡ map place xs = kept place p (a + 1) n bound xs (omega arith) (passing_rest place p a bound x xs all here) in
          ap₂ (λ (b : Bool) (ys : List ℕ). cond b (a ∷ ys) ys) passes rest ∙ ap (λ (k : ℕ). k ∷ map place xs) (sym here)
      | inr fails ↦
          let rest : filter p (range_with_len (a + 1) n) ≡ map place (x ∷ xs) = kept place p (a + 1) n bound (x ∷ xs) (omega arith) (passing_more place p a bound (x ∷ xs) all fails) in
          ap₂ (λ (b : Bool) (ys : List ℕ). cond b (a ∷ ys) ys) fails rest
    ]

-- a slot is at an edge of its run if its neighbour hasn't its value
edge_from : (own neighbour : Option ℕ) (value : ℕ) → own ≡ Some value → neighbour ≢ Some value → is_edge own neighbour ≡ true
edge_from None neighbour value is other = cc
edge_from (Some own) None value is other = refl
edge_from (Some own) (Some near) value is other = not_from_false _ (ne_eqb own near (λ same. other (sym (ap Some same) ∙ is)))

-- the neighbour of a slot at an edge hasn't its value
edge_differs : (own neighbour : Option ℕ) (value : ℕ) → own ≡ Some value → is_edge own neighbour ≡ true → neighbour ≢ Some value
edge_differs None neighbour value is edge = cc
edge_differs (Some own) None value is edge = λ near. cc
edge_differs (Some own) (Some near) value is edge = λ has.
    let same : own ≡ near = cc in
    let no : is_edge (Some own) (Some near) ≡ false = not_from_true _ (eq-eqb own near same) in
    cc

-- a slot at an edge has a value
edge_has : (own neighbour : Option ℕ) → is_edge own neighbour ≡ true → (value : ℕ) × (own ≡ Some value)
edge_has None neighbour edge = absurd cc
edge_has (Some own) neighbour edge = (own, refl)

-- the slot before hasn't the value, if there is one
before_differs : (value_at : ℕ → Option ℕ) (first value : ℕ) → ((slot : ℕ) → slot + 1 ≡ first → value_at slot ≢ Some value) → value_before value_at first ≢ Some value
before_differs value_at zero value before = λ has. cc
before_differs value_at (suc slot) value before = before slot (omega arith)

-- what the slot before has
before_is : (value_at : ℕ → Option ℕ) (slot next : ℕ) → slot + 1 ≡ next → value_before value_at next ≡ value_at slot
before_is value_at slot zero at = absurd (omega arith)
before_is value_at slot (suc before) at = ap value_at (omega arith)

-- the value of a run is that of its first slot, and of its last
module _ (value_at : ℕ → Option ℕ) (runs : List (Run ℕ)) (are : AreRunsOf value_at runs) (bounded : (slot : ℕ) → 16384 ≤ slot → value_at slot ≡ None) where
  -- a run of the list
  run_at : (i : ℕ) (run : Run ℕ) → i < length runs → get_or runs i run ≡ run → IsRun value_at run
  run_at i run lt is = subst (IsRun value_at) is (are.each i run lt)

  -- the first slot has the value
  at_start : (k : ℕ) (d : Run ℕ) → k < length runs → value_at (get_or runs k d).slots.first ≡ Some (get_or runs k d).value
  at_start k d lt =
      let run = are.each k d lt in
      run.inside _ (in_range _ _ (omega arith) run.some)

  -- the last slot has the value
  at_end : (k : ℕ) (d : Run ℕ) → k < length runs → value_at (get_or runs k d).slots.last ≡ Some (get_or runs k d).value
  at_end k d lt =
      let run = are.each k d lt in
      run.inside _ (in_range _ _ run.some (omega arith))

  -- a run ends below the bound
  pub ends_below : All (λ (run : Run ℕ). run.slots.last < 16384) runs
  ends_below = λ k d lt.
      let has : value_at (get_or runs k d).slots.last ≡ Some (get_or runs k d).value = at_end k d lt in
      elim (cases_lt (get_or runs k d).slots.last 16384) [
        | inl below ↦ below
        | inr past ↦ absurd (let none : value_at (get_or runs k d).slots.last ≡ None = bounded _ past in cc)
      ]

  -- the first slots are those with a value that the slot before hasn't
  first_slots : ArePassing (λ (run : Run ℕ). run.slots.first) (λ slot. is_edge (value_at slot) (value_before value_at slot)) 0 16384 runs
  first_slots = record {
    rising = λ i j d lt in_list.
        let some = (are.each i d (omega arith)).some in
        let next = are.rising i j d lt in_list in
        omega arith;
    from = λ k d lt. omega arith;
    below = λ k d lt.
        let some = (are.each k d lt).some in
        let ends = ends_below k d lt in
        omega arith;
    pass = λ k d lt. edge_from _ _ _ (at_start k d lt) (before_differs value_at _ _ (are.each k d lt).before);
    complete = λ slot from below edge.
        let has = edge_has _ _ edge in
        let found = are.complete slot has.0 below has.1 in
        let run = run_at found.0 found.1 found.2 found.3 in
        let own : value_at slot ≡ Some found.1.value = run.inside slot found.4 in
        let from : found.1.slots.first ≤ slot = from_first found.1.slots slot found.4 in
        let to : slot ≤ found.1.slots.last = to_last found.1.slots slot found.4 in (
          found.0,
          found.1,
          found.2,
          found.3,
          elim (cases_lt found.1.slots.first slot) [
            | inl behind ↦ absurd (
                edge_differs _ _ found.1.value own edge
                (before_is value_at (slot - 1) slot (omega arith) ∙ run.inside (slot - 1) (in_range found.1.slots (slot - 1) (omega arith) (omega arith)))
                )
            | inr before ↦ omega arith
          ],
        );
  }

  -- the last slots are those with a value that the slot behind hasn't
  last_slots : ArePassing (λ (run : Run ℕ). run.slots.last) (λ slot. is_edge (value_at slot) (value_at (slot + 1))) 0 16384 runs
  last_slots = record {
    rising = λ i j d lt in_list.
        let some = (are.each j d in_list).some in
        let next = are.rising i j d lt in_list in
        omega arith;
    from = λ k d lt. omega arith;
    below = ends_below;
    pass = λ k d lt. edge_from _ _ _ (at_end k d lt) (are.each k d lt).behind;
    complete = λ slot from below edge.
        let has = edge_has _ _ edge in
        let found = are.complete slot has.0 below has.1 in
        let run = run_at found.0 found.1 found.2 found.3 in
        let own : value_at slot ≡ Some found.1.value = run.inside slot found.4 in
        let from : found.1.slots.first ≤ slot = from_first found.1.slots slot found.4 in
        let to : slot ≤ found.1.slots.last = to_last found.1.slots slot found.4 in (
          found.0,
          found.1,
          found.2,
          found.3,
          elim (cases_lt slot found.1.slots.last) [
            | inl before ↦ absurd (edge_differs _ _ found.1.value own edge (run.inside (slot + 1) (in_range found.1.slots (slot + 1) (omega arith) (omega arith))))
            | inr behind ↦ omega arith
          ],
        );
  }

-- runs are told by their first and last slots
told : (value_at : ℕ → Option ℕ) (runs : List (Run ℕ)) → All (λ (run : Run ℕ). value_at run.slots.first ≡ Some run.value) runs
    → runs ≡ map (run_between value_at) (zip (map (λ (run : Run ℕ). run.slots.first) runs) (map (λ (run : Run ℕ). run.slots.last) runs))
told value_at [] has = refl
told value_at (run ∷ runs) has =
    let here : run ≡ run_between value_at (run.slots.first, run.slots.last) =
    sym (ap (λ (own : Option ℕ). record { slots = run.slots; value = unwrap_or own 0 }) (has 0 run (omega arith))) in
    ap₂ (λ (r : Run ℕ) (rs : List (Run ℕ)). r ∷ rs) here (told value_at runs (λ k d lt. has (suc k) d (omega arith)))

-- a list of all longest runs is the list of the runs
pub is_runs_of : (value_at : ℕ → Option ℕ) (runs : List (Run ℕ)) → ((slot : ℕ) → 16384 ≤ slot → value_at slot ≡ None) → AreRunsOf value_at runs → runs ≡ runs_of value_at
unfolding runs_of
is_runs_of value_at runs bounded are =
    told value_at runs (at_start value_at runs are bounded)
    ∙ sym (ap₂ (λ (starts ends : List ℕ). map (run_between value_at) (zip starts ends))
    (kept _ _ 0 16384 16384 runs refl (first_slots value_at runs are bounded))
    (kept _ _ 0 16384 16384 runs refl (last_slots value_at runs are bounded)))

-- there is only one list of all longest runs
pub runs_are_unique : (value_at : ℕ → Option ℕ) (runs others : List (Run ℕ)) → ((slot : ℕ) → 16384 ≤ slot → value_at slot ≡ None) → AreRunsOf value_at runs → AreRunsOf value_at others → runs ≡ others
runs_are_unique value_at runs others bounded are same = is_runs_of value_at runs bounded are ∙ sym (is_runs_of value_at others bounded same)

-- a slot has the value or not
has_or_not : (own : Option ℕ) (value : ℕ) → (own ≡ Some value) ⊎ (own ≢ Some value)
has_or_not None value = inr (λ has. cc)
has_or_not (Some own) value =
    elim (cases_eq own value) [
      | inl same ↦ inl (ap Some same)
      | inr other ↦ inr (λ has. other cc)
    ]

-- where the slots end that have the value of the start in a row
record Stop (value_at : ℕ → Option ℕ) (start value : ℕ) : Type 0 where
  stop : ℕ
  behind : start < stop
  within : stop ≤ 16384
  inside : (slot : ℕ) → start ≤ slot → slot < stop → value_at slot ≡ Some value
  stops : value_at stop ≢ Some value

-- they end, since behind the last slot there is no value
stop_of : (value_at : ℕ → Option ℕ) (start value n at : ℕ) → value_at 16384 ≡ None → at + n ≡ 16384 → start < at → ((slot : ℕ) → start ≤ slot → slot < at → value_at slot ≡ Some value) → Stop value_at start value
stop_of value_at start value zero at none all lt inside = record {
  stop = at;
  behind = lt;
  within = omega arith;
  inside = inside;
  stops = λ has. let here : value_at at ≡ None = ap value_at (omega arith) ∙ none in cc;
}
stop_of value_at start value (suc n) at none all lt inside =
    elim (has_or_not (value_at at) value) [
      | inl has ↦
          stop_of value_at start value n (at + 1) none (omega arith) (omega arith) (λ slot from below.
          elim (cases_lt slot at) [
            | inl before ↦ inside slot from before
            | inr here ↦ ap value_at (omega arith) ∙ has
          ])
      | inr other ↦ record { stop = at; behind = lt; within = omega arith; inside = inside; stops = other }
    ]

-- the runs of the slots below some further bound
record Further (value_at : ℕ → Option ℕ) (at : ℕ) : Type 0 where
  next : ℕ
  runs : List (Run ℕ)
  behind : at < next
  within : next ≤ 16384
  are : AreRunsUpTo next value_at runs

-- the bound moves behind a slot without a value, or behind a run
further : (value_at : ℕ → Option ℕ) (at : ℕ) (runs : List (Run ℕ)) (own : Option ℕ) → value_at 16384 ≡ None → at < 16384 → AreRunsUpTo at value_at runs → value_at at ≡ own → Further value_at at
further value_at at runs None none lt so_far is = record { next = at + 1; runs = runs; behind = omega arith; within = omega arith; are = up_to-none at value_at runs so_far is }
further value_at at runs (Some value) none lt so_far is =
    let end = stop_of value_at at value (16384 - (at + 1)) (at + 1) none (omega arith) (omega arith) (λ slot from below. ap value_at (omega arith) ∙ is) in
    record {
      next = end.stop;
      runs = _;
      behind = end.behind;
      within = end.within;
      are = up_to-run at end.stop value value_at runs _ (record { first = at; last = end.stop - 1 }) so_far refl refl end.behind end.inside end.stops;
    }

-- the runs of the slots below a bound go on to those of all slots
all_runs : (value_at : ℕ → Option ℕ) (n at : ℕ) (runs : List (Run ℕ)) → value_at 16384 ≡ None → at ≤ 16384 → 16384 ≤ at + n → AreRunsUpTo at value_at runs → (all : List (Run ℕ)) × AreRunsOf value_at all
all_runs value_at zero at runs none within enough so_far = (runs, subst (λ (bound : ℕ). AreRunsBelow bound value_at runs) (omega arith) so_far.below)
all_runs value_at (suc n) at runs none within enough so_far =
    elim (cases_lt at 16384) [
      | inl below ↦
          let more = further value_at at runs (value_at at) none below so_far refl in
          all_runs value_at n more.next more.runs none more.within (let behind = more.behind in omega arith) more.are
      | inr past ↦ (runs, subst (λ (bound : ℕ). AreRunsBelow bound value_at runs) (omega arith) so_far.below)
    ]

-- the list of the runs is a list of all longest runs
pub are_runs_of : (value_at : ℕ → Option ℕ) → ((slot : ℕ) → 16384 ≤ slot → value_at slot ≡ None) → AreRunsOf value_at (runs_of value_at)
are_runs_of value_at bounded =
    let made = all_runs value_at 16384 0 [] (bounded 16384 (omega arith)) (omega arith) (omega arith) (up_to-zero value_at) in
    subst (AreRunsOf value_at) (is_runs_of value_at made.0 bounded made.1) made.1

-- no slot behind the end of a table has an owner
pub no_owner_behind : (table : List (Option SlotEntry)) → length table ≡ 16384 → (slot : ℕ) → 16384 ≤ slot → owner_at table slot ≡ None
no_owner_behind table whole slot past = ap owner_in (get_or_past table slot None (omega arith))

-- no slot behind the end of a table is claimed
pub no_claim_behind : (table : List (Option SlotEntry)) (node : ℕ) → length table ≡ 16384 → (slot : ℕ) → 16384 ≤ slot → claim_at table node slot ≡ None
no_claim_behind table node whole slot past = ap (epoch_in node) (get_or_past table slot None (omega arith))
