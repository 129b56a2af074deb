-- What a claim takes of a table: run by run, since no later run has a slot of an earlier one.
use Rattle.std.proofs.Common.{◌≡◌, sym, ◌∙◌, ap, ap₂, refl, subst, inl, inr, zero, suc, Bool, true, false, cond, ◌&&◌, ◌==◌, not, ℕ, ◌+◌, ◌-◌, ◌<◌, ◌≤◌, List, [], ◌∷◌, ◌++◌, length, get_or, drop, take, Option, Some, None, All, arith, filter, append_assoc, append-nil, if◌then◌else◌}
use Rattle.std.specs.List.{range_with_len}
use Rattle.std.specs.Prelude.{nat_le, nat_lt}
use Rattle.std.proofs.lemmas.Bool.{and_left, and_right, and_from, and_parts, or_cases, cases_lt, cases_Bool, le-leb, lt-leb, leb-true, ltb-true, eq-eqb, ne_eqb}
use Rattle.std.proofs.lemmas.List.{get_or-drop, get_or_default, length-drop, ext_get_or, take_all, drop_all, at_drop_more}
use Rattle.std.proofs.lemmas.List.Elements.{filter-append}
use Rattle.std.proofs.lemmas.List.FromFn.{get_or-map-range_with_len, length-map-range_with_len}
use Rattle.key_slot.specs.declared.slots.SlotRange.{SlotRange}
use Rattle.key_slot.specs.SlotRange.{is_in}
use Rattle.slot_table.specs.declared.entry.SlotEntry.{SlotEntry}
use Rattle.slot_table.specs.declared.runs.Run.{Run}
use Rattle.slot_table.specs.Table.{entry_at}
use Rattle.slot_table.specs.Claims.{is_above, is_taken, is_same, greater, claimed, taken, merged, changed, IsRising}

-- neighbouring numbers are those before a bound and those from it on
range_split : (a n m j t : ℕ) → a + n ≡ j → n + m ≡ t → range_with_len a t ≡ range_with_len a n ++ range_with_len j m
range_split a zero m j t bound all = ap₂ range_with_len (omega arith) (omega arith)
range_split a (suc n) m j zero bound all = absurd (omega arith)
range_split a (suc n) m j (suc t) bound all = ap (λ rest. a ∷ rest) (range_split (a + 1) n m j t (omega arith) (omega arith))

-- tests that agree on neighbouring numbers keep the same of them
filter_same : (p q : ℕ → Bool) (a n : ℕ) → ((k : ℕ) → a ≤ k → k < a + n → p k ≡ q k) → filter p (range_with_len a n) ≡ filter q (range_with_len a n)
filter_same p q a zero agree = refl
filter_same p q a (suc n) agree =
    let here : p a ≡ q a = agree a (omega arith) (omega arith) in
    let rest : filter p (range_with_len (a + 1) n) ≡ filter q (range_with_len (a + 1) n) = filter_same p q (a + 1) n (λ k from below. agree k (omega arith) (omega arith)) in
    ap₂ (λ (b : Bool) (xs : List ℕ). cond b (a ∷ xs) xs) here rest

-- a test that fails on neighbouring numbers keeps none of them
pub filter_none : (p : ℕ → Bool) (a n : ℕ) → ((k : ℕ) → a ≤ k → k < a + n → p k ≡ false) → filter p (range_with_len a n) ≡ []
filter_none p a zero fails = refl
filter_none p a (suc n) fails =
    let here : p a ≡ false = fails a (omega arith) (omega arith) in
    let rest : filter p (range_with_len (a + 1) n) ≡ [] = filter_none p (a + 1) n (λ k from below. fails k (omega arith) (omega arith)) in
    ap₂ (λ (b : Bool) (xs : List ℕ). cond b (a ∷ xs) xs) here rest

-- one more number is kept if it passes
pub filter_more_range : (p : ℕ → Bool) (a n j m : ℕ) → a + n ≡ j → n + 1 ≡ m → filter p (range_with_len a m) ≡ filter p (range_with_len a n) ++ cond (p j) (j ∷ []) []
filter_more_range p a n j m at more =
    ap (filter p) (range_split a n 1 j m at more) ∙ filter-append p (range_with_len a n) (range_with_len j 1)

-- the numbers of a run are kept as the run says, and all others as what follows says
parted : (whole run rest : ℕ → Bool) (a b c n : ℕ) → a + (b + c) ≡ n → ((k : ℕ) → k < a → whole k ≡ false) → ((k : ℕ) → a ≤ k → k < a + b → whole k ≡ run k)
    → ((k : ℕ) → k < a + b → rest k ≡ false) → ((k : ℕ) → a + b ≤ k → whole k ≡ rest k)
    → filter whole (range_with_len 0 n) ≡ filter run (range_with_len a b) ++ filter rest (range_with_len 0 n)
parted whole run rest a b c n all before inside free behind =
    let numbers : range_with_len 0 n ≡ range_with_len 0 a ++ (range_with_len a b ++ range_with_len (a + b) c) =
    range_split 0 a (b + c) a n (omega arith) all ∙ ap (λ xs. range_with_len 0 a ++ xs) (range_split a b c (a + b) (b + c) refl refl) in
    let split : (p : ℕ → Bool) → filter p (range_with_len 0 n) ≡ filter p (range_with_len 0 a) ++ (filter p (range_with_len a b) ++ filter p (range_with_len (a + b) c)) = λ p.
    ap (filter p) numbers ∙ filter-append p (range_with_len 0 a) (range_with_len a b ++ range_with_len (a + b) c)
    ∙ ap (λ xs. filter p (range_with_len 0 a) ++ xs) (filter-append p (range_with_len a b) (range_with_len (a + b) c)) in
    let left : filter whole (range_with_len 0 n) ≡ filter run (range_with_len a b) ++ filter rest (range_with_len (a + b) c) =
    split whole ∙ ap₂ (λ (xs ys : List ℕ). xs ++ (ys ++ filter whole (range_with_len (a + b) c))) (filter_none whole 0 a (λ k from below. before k (omega arith))) (filter_same whole run a b inside)
    ∙ ap (λ xs. filter run (range_with_len a b) ++ xs) (filter_same whole rest (a + b) c (λ k from below. behind k from)) in
    let right : filter rest (range_with_len 0 n) ≡ filter rest (range_with_len (a + b) c) =
    split rest ∙ ap₂ (λ (xs ys : List ℕ). xs ++ (ys ++ filter rest (range_with_len (a + b) c))) (filter_none rest 0 a (λ k from below. free k (omega arith))) (filter_none rest a b (λ k from below. free k below)) in
    left ∙ ap (λ xs. filter run (range_with_len a b) ++ xs) (sym right)

-- a slot before the first of the range is not in it
before_range : (range : SlotRange) (slot : ℕ) → slot < range.first → is_in range slot ≡ false
before_range range slot before = and_left (nat_le range.first slot) (nat_le slot range.last) (lt-leb range.first slot before)

-- a slot behind the last of the range is not in it
pub behind_range : (range : SlotRange) (slot : ℕ) → range.last < slot → is_in range slot ≡ false
behind_range range slot behind = and_right (nat_le range.first slot) (nat_le slot range.last) (lt-leb slot range.last behind)

-- a slot from the first to the last is in the range
within_range : (range : SlotRange) (slot : ℕ) → range.first ≤ slot → slot ≤ range.last → is_in range slot ≡ true
within_range range slot from to = and_from (nat_le range.first slot) (nat_le slot range.last) (le-leb range.first slot from) (le-leb slot range.last to)

-- a slot before all runs is not claimed
not_claimed : (runs : List (Run ℕ)) (owner slot last : ℕ) → All (λ (next : Run ℕ). last < next.slots.first) runs → slot ≤ last → claimed runs owner slot ≡ None
not_claimed [] owner slot last later to = refl
not_claimed (run ∷ runs) owner slot last later to =
    let here : last < run.slots.first = later 0 run (omega arith) in
    ap (λ (has : Bool). if has then Some (record { epoch = run.value; owner = owner }) else claimed runs owner slot) (before_range run.slots slot (omega arith))
    ∙ not_claimed runs owner slot last (λ k d lt. later (suc k) d (omega arith)) to

-- a slot of the run is claimed in its epoch
pub claimed_here : (run : Run ℕ) (runs : List (Run ℕ)) (owner slot : ℕ) → is_in run.slots slot ≡ true → claimed (run ∷ runs) owner slot ≡ Some (record { epoch = run.value; owner = owner })
claimed_here run runs owner slot has =
    ap (λ (has : Bool). if has then Some (record { epoch = run.value; owner = owner }) else claimed runs owner slot) has

-- a slot outside of the run is claimed as the later runs say
pub claimed_later : (run : Run ℕ) (runs : List (Run ℕ)) (owner slot : ℕ) → is_in run.slots slot ≡ false → claimed (run ∷ runs) owner slot ≡ claimed runs owner slot
claimed_later run runs owner slot has =
    ap (λ (has : Bool). if has then Some (record { epoch = run.value; owner = owner }) else claimed runs owner slot) has

-- a slot is in no range whose last slot is before its first
no_range : (range : SlotRange) (slot : ℕ) → range.last < range.first → is_in range slot ≡ false
no_range range slot none =
    elim (cases_lt slot range.first) [
      | inl before ↦ before_range range slot before
      | inr from ↦ behind_range range slot (omega arith)
    ]

-- the slots below a bound that the claim takes
abbrev taken_below : List (Option SlotEntry) → List (Run ℕ) → ℕ → ℕ → List ℕ
taken_below table claim owner bound = filter (λ slot. is_taken (entry_at table slot) (claimed claim owner slot)) (range_with_len 0 bound)

-- the slots of a run that a claim with this entry takes
abbrev pub taken_in : List (Option SlotEntry) → SlotRange → SlotEntry → List ℕ
taken_in table range claim = filter (λ slot. is_above claim (entry_at table slot)) (range_with_len range.first (range.last + 1 - range.first))

none_between : (first last : ℕ) → last < first → last + 1 - first ≡ 0
none_between first last none = omega arith

taken_run : (table : List (Option SlotEntry)) (run : Run ℕ) (runs : List (Run ℕ)) (owner bound : ℕ) → run.slots.first < bound → run.slots.last < bound
    → All (λ (next : Run ℕ). run.slots.last < next.slots.first) runs
    → taken_below table (run ∷ runs) owner bound ≡ taken_in table run.slots (record { epoch = run.value; owner = owner }) ++ taken_below table runs owner bound
taken_run table run runs owner bound first last later =
    let whole : ℕ → Bool = λ slot. is_taken (entry_at table slot) (claimed (run ∷ runs) owner slot) in
    let here : ℕ → Bool = λ slot. is_above (record { epoch = run.value; owner = owner }) (entry_at table slot) in
    let rest : ℕ → Bool = λ slot. is_taken (entry_at table slot) (claimed runs owner slot) in
    let outside : (slot : ℕ) → is_in run.slots slot ≡ false → whole slot ≡ rest slot = λ slot out. ap (is_taken (entry_at table slot)) (claimed_later run runs owner slot out) in
    let free : (slot : ℕ) → slot ≤ run.slots.last → rest slot ≡ false = λ slot to. ap (is_taken (entry_at table slot)) (not_claimed runs owner slot run.slots.last later to) in
    elim (cases_lt run.slots.last run.slots.first) [
      | inl none ↦
          filter_same whole rest 0 bound (λ slot from below. outside slot (no_range run.slots slot none))
          ∙ sym (ap (λ count. filter here (range_with_len run.slots.first count) ++ filter rest (range_with_len 0 bound)) (none_between run.slots.first run.slots.last none))
      | inr some ↦
          parted whole here rest run.slots.first (run.slots.last + 1 - run.slots.first) (bound - (run.slots.last + 1)) bound (omega arith)
          (λ slot before. outside slot (before_range run.slots slot before) ∙ free slot (omega arith))
          (λ slot from below. ap (is_taken (entry_at table slot)) (claimed_here run runs owner slot (within_range run.slots slot from (omega arith))))
          (λ slot below. free slot (omega arith))
          (λ slot behind. outside slot (behind_range run.slots slot (omega arith)))
    ]

taken_first : (table : List (Option SlotEntry)) (run : Run ℕ) (runs : List (Run ℕ)) (owner : ℕ) → run.slots.first < 16384 → run.slots.last < 16384
    → All (λ (next : Run ℕ). run.slots.last < next.slots.first) runs
    → taken table (run ∷ runs) owner ≡ taken_in table run.slots (record { epoch = run.value; owner = owner }) ++ taken table runs owner
unfolding taken
taken_first table run runs owner first last later = taken_run table run runs owner 16384 first last later

-- the runs behind one of a claim begin behind its last slot
pub later_runs : (claim : List (Run ℕ)) (i : ℕ) (run : Run ℕ) → IsRising claim → i < length claim → run ≡ get_or claim i run → All (λ (next : Run ℕ). run.slots.last < next.slots.first) (drop (i + 1) claim)
later_runs claim i run rising lt is = λ k d in_rest.
    let at : get_or (drop (i + 1) claim) k d ≡ get_or claim (i + 1 + k) d = get_or-drop (i + 1) claim k d in
    let within : i + 1 + k < length claim = omega (arith, length-drop (i + 1) claim) in
    let own : run ≡ get_or claim i d = is ∙ get_or_default claim i run d lt in
    let rises : (get_or claim i d).slots.last < (get_or claim (i + 1 + k) d).slots.first = rising i (i + 1 + k) d (omega arith) within in
    subst (λ (next : Run ℕ). run.slots.last < next.slots.first) (sym at) (subst (λ (r : Run ℕ). r.slots.last < (get_or claim (i + 1 + k) d).slots.first) (sym own) rises)

-- what is read of a claim from a run on
pub next_run : {Y : Type 0} (read : List (Run ℕ) → Y) (claim : List (Run ℕ)) (i : ℕ) (run : Run ℕ) → i < length claim → run ≡ get_or claim i run → read (run ∷ drop (i + 1) claim) ≡ read (drop i claim)
next_run read claim i run lt is = ap (λ (r : Run ℕ). read (r ∷ drop (i + 1) claim)) is ∙ sym (at_drop_more read claim i run lt)

-- a step of the loop: the slots of a run are listed in front of those of the later runs
pub next_taken : (table : List (Option SlotEntry)) (claim : List (Run ℕ)) (owner i : ℕ) (run : Run ℕ) (old new : List ℕ) → IsRising claim → i < length claim → run ≡ get_or claim i run
    → run.slots.first < 16384 → run.slots.last < 16384 → new ≡ old ++ taken_in table run.slots (record { epoch = run.value; owner = owner })
    → old ++ taken table (drop i claim) owner ≡ taken table claim owner → new ++ taken table (drop (i + 1) claim) owner ≡ taken table claim owner
next_taken table claim owner i run old new rising lt is first last pushed so_far =
    let rest : List ℕ = taken table (drop (i + 1) claim) owner in
    let here : List ℕ = taken_in table run.slots (record { epoch = run.value; owner = owner }) in
    let one : taken table (run ∷ drop (i + 1) claim) owner ≡ here ++ rest = taken_first table run (drop (i + 1) claim) owner first last (later_runs claim i run rising lt is) in
    ap (λ (xs : List ℕ). xs ++ rest) pushed ∙ append_assoc old here rest ∙ ap (λ (xs : List ℕ). old ++ xs) (sym one ∙ next_run (λ runs. taken table runs owner) claim i run lt is) ∙ so_far

taken_none : (table : List (Option SlotEntry)) (owner : ℕ) → taken table [] owner ≡ []
unfolding taken
taken_none table owner = filter_none (λ slot. false) 0 16384 (λ slot from below. refl)

-- an empty claim takes nothing
pub taken_nothing : (table : List (Option SlotEntry)) (claim : List (Run ℕ)) (owner i : ℕ) → length claim ≤ i → taken table (drop i claim) owner ≡ []
taken_nothing table claim owner i all = ap (λ runs. taken table runs owner) (drop_all i claim all) ∙ taken_none table owner

-- a slot is listed if it passes
pub next_listed : (passes : ℕ → Bool) (first at : ℕ) (start old new : List ℕ) → first ≤ at → old ≡ start ++ filter passes (range_with_len first (at - first))
    → new ≡ old ++ cond (passes at) (at ∷ []) [] → new ≡ start ++ filter passes (range_with_len first (at + 1 - first))
next_listed passes first at start old new from so_far pushed =
    pushed ∙ ap (λ (xs : List ℕ). xs ++ cond (passes at) (at ∷ []) []) so_far ∙ append_assoc start (filter passes (range_with_len first (at - first))) (cond (passes at) (at ∷ []) [])
    ∙ ap (λ (xs : List ℕ). start ++ xs) (sym (filter_more_range passes first (at - first) at (at + 1 - first) (omega arith) (omega arith)))

-- each slot of the run has the greater entry after the run, and no later run changes it
pub greater_run : (run : Run ℕ) (runs : List (Run ℕ)) (owner slot : ℕ) (old new : Option SlotEntry) → All (λ (next : Run ℕ). run.slots.last < next.slots.first) runs
    → new ≡ (if is_in run.slots slot then greater old (Some (record { epoch = run.value; owner = owner })) else old)
    → greater new (claimed runs owner slot) ≡ greater old (claimed (run ∷ runs) owner slot)
greater_run run runs owner slot old new later is =
    elim (cases_Bool (is_in run.slots slot)) [
      | inl has ↦
          let here : new ≡ greater old (Some (record { epoch = run.value; owner = owner })) = is ∙ ap (λ (has : Bool). if has then greater old (Some (record { epoch = run.value; owner = owner })) else old) has in
          let bounds = and_parts (nat_le run.slots.first slot) (nat_le slot run.slots.last) has in
          let none : claimed runs owner slot ≡ None = not_claimed runs owner slot run.slots.last later (leb-true slot run.slots.last bounds.1) in
          ap (greater new) none ∙ here ∙ ap (greater old) (sym (claimed_here run runs owner slot has))
      | inr has ↦
          let here : new ≡ old = is ∙ ap (λ (has : Bool). if has then greater old (Some (record { epoch = run.value; owner = owner })) else old) has in
          ap₂ greater here (sym (claimed_later run runs owner slot has))
    ]

-- an entry has its own epoch and owner
same_itself : (entry : Option SlotEntry) → is_same entry entry ≡ true
same_itself None = refl
same_itself (Some entry) = and_from (entry.epoch == entry.epoch) (entry.owner == entry.owner) (eq-eqb entry.epoch entry.epoch refl) (eq-eqb entry.owner entry.owner refl)

-- a claim above an entry has another epoch or another owner
above_differs : (claim : SlotEntry) (known : Option SlotEntry) → is_above claim known ≡ true → is_same known (Some claim) ≡ false
above_differs claim None above = refl
above_differs claim (Some known) above =
    elim (or_cases (nat_lt known.epoch claim.epoch) (known.epoch == claim.epoch && nat_lt known.owner claim.owner) above) [
      | inl newer ↦
          let lt : known.epoch < claim.epoch = ltb-true known.epoch claim.epoch newer in
          and_left (known.epoch == claim.epoch) (known.owner == claim.owner) (ne_eqb known.epoch claim.epoch (λ same. omega arith))
      | inr both ↦
          let lt : known.owner < claim.owner = ltb-true known.owner claim.owner (and_parts (known.epoch == claim.epoch) (nat_lt known.owner claim.owner) both).1 in
          and_right (known.epoch == claim.epoch) (known.owner == claim.owner) (ne_eqb known.owner claim.owner (λ same. omega arith))
    ]

-- a claim changes an entry exactly where it takes the slot
taken_differs : (known claim : Option SlotEntry) → is_taken known claim ≡ not (is_same known (greater known claim))
taken_differs known None = sym (ap not (same_itself known))
taken_differs known (Some claim) =
    elim (cases_Bool (is_above claim known)) [
      | inl above ↦
          let is : greater known (Some claim) ≡ Some claim = ap (λ (over : Bool). if over then Some claim else known) above in
          above ∙ sym (ap (λ entry. not (is_same known entry)) is ∙ ap not (above_differs claim known above))
      | inr below ↦
          let is : greater known (Some claim) ≡ known = ap (λ (over : Bool). if over then Some claim else known) below in
          below ∙ sym (ap (λ entry. not (is_same known entry)) is ∙ ap not (same_itself known))
    ]

-- a merged table has all slots
pub length-merged : (table : List (Option SlotEntry)) (claim : List (Run ℕ)) (owner : ℕ) → length (merged table claim owner) ≡ 16384
unfolding merged
length-merged table claim owner = length-map-range_with_len (λ slot. greater (entry_at table slot) (claimed claim owner slot)) 0 16384

-- what a merged table has of a slot
pub merged_at : (table : List (Option SlotEntry)) (claim : List (Run ℕ)) (owner slot : ℕ) → slot < 16384 → entry_at (merged table claim owner) slot ≡ greater (entry_at table slot) (claimed claim owner slot)
unfolding merged
merged_at table claim owner slot below = get_or-map-range_with_len (λ slot. greater (entry_at table slot) (claimed claim owner slot)) 0 16384 slot slot None below (omega arith)

-- a table with the greater entry of each slot is the merged table
pub is_merged : (old new : List (Option SlotEntry)) (claim : List (Run ℕ)) (owner : ℕ) → length new ≡ 16384
    → ((slot : ℕ) → slot < 16384 → entry_at new slot ≡ greater (entry_at old slot) (claimed claim owner slot)) → new ≡ merged old claim owner
unfolding merged
is_merged old new claim owner whole each =
    ext_get_or None new _ (whole ∙ sym (length-map-range_with_len (λ slot. greater (entry_at old slot) (claimed claim owner slot)) 0 16384)) (λ slot lt.
    let below : slot < 16384 = rw (sym whole) lt in
    each slot below ∙ sym (get_or-map-range_with_len (λ slot. greater (entry_at old slot) (claimed claim owner slot)) 0 16384 slot slot None below (omega arith)))

-- the slots that a claim takes are those whose entry changes
pub is_changed : (old new : List (Option SlotEntry)) (claim : List (Run ℕ)) (owner : ℕ)
    → ((slot : ℕ) → slot < 16384 → entry_at new slot ≡ greater (entry_at old slot) (claimed claim owner slot)) → taken old claim owner ≡ changed old new
unfolding taken changed
is_changed old new claim owner each = filter_same _ _ 0 16384 (λ slot from below.
    taken_differs (entry_at old slot) (claimed claim owner slot) ∙ ap (λ entry. not (is_same (entry_at old slot) entry)) (sym (each slot (omega arith))))

-- the slots that a claim takes are those that merging it changes
pub taken_changes : (table : List (Option SlotEntry)) (claim : List (Run ℕ)) (owner : ℕ) → taken table claim owner ≡ changed table (merged table claim owner)
taken_changes table claim owner = is_changed table (merged table claim owner) claim owner (merged_at table claim owner)

-- what was written through a loan of a whole list is all of it
pub written : {X : Type 0} (len : ℕ) (new lent old : List X) → length new ≡ 16384 → length old ≡ 16384 → length lent ≡ len → lent ≡ old → take len (new ++ drop (length new) old) ≡ new
written len new lent old whole was long same =
    let all : length new ≡ len = whole ∙ sym was ∙ ap length (sym same) ∙ long in
    ap (λ rest. take len (new ++ rest)) (drop_all (length new) old (omega arith)) ∙ ap (take len) (append-nil new) ∙ take_all len new (omega arith)

-- the code's test of an entry that it read
pub tested : (claim : SlotEntry) (entries : List (Option SlotEntry)) (at : ℕ) (entry : Option SlotEntry) (above : Bool) → at < length entries → entry ≡ get_or entries at entry
    → above ≡ is_above claim entry → is_above claim (entry_at entries at) ≡ above
tested claim entries at entry above lt is tests = ap (is_above claim) (sym (is ∙ get_or_default entries at entry None lt)) ∙ sym tests

-- a number that passes is listed
pub listed : (numbers : List ℕ) (number at : ℕ) (passes : Bool) → passes ≡ true → number ≡ at → numbers ++ number ∷ [] ≡ numbers ++ cond passes (at ∷ []) []
listed numbers number at passes does is = ap₂ (λ (n : ℕ) (b : Bool). numbers ++ cond b (n ∷ []) []) is (sym does)

-- a number that fails is left out
pub left_out : (numbers : List ℕ) (at : ℕ) (passes : Bool) → passes ≡ false → numbers ≡ numbers ++ cond passes (at ∷ []) []
left_out numbers at passes fails = sym (append-nil numbers) ∙ ap (λ (b : Bool). numbers ++ cond b (at ∷ []) []) (sym fails)
