-- What is known of a claim says nothing new, and stays so.
use Rattle.std.proofs.Common.{◌≡◌, sym, ◌∙◌, ap, refl, inl, inr, subst, zero, suc, Bool, true, false, true≢false, ℕ, ◌+◌, ◌-◌, ◌<◌, ◌≤◌, List, [], ◌∷◌, length, get_or, set, replicate, Option, Some, None, arith, if◌then◌else◌}
use Rattle.std.specs.List.{Any}
use Rattle.std.proofs.lemmas.Bool.{both_ways, cases_Bool, cases_eq, cases_lt}
use Rattle.std.proofs.lemmas.List.{get_or_default, get_or-set_other, get_or-set_same, get_or-replicate, get_or_past, length-set, length-replicate}
use Rattle.std.proofs.lemmas.Option.{none-some}
use Rattle.key_slot.specs.SlotRange.{is_in}
use Rattle.slot_table.specs.declared.entry.SlotEntry.{SlotEntry}
use Rattle.slot_table.specs.declared.runs.Run.{Run}
use Rattle.slot_table.specs.Table.{entry_at}
use Rattle.slot_table.specs.Claims.{is_above, is_taken, greater, claimed, merged, IsRising}
use Rattle.slot_table.specs.Remembered.{AreKnown, KnownRuns, LiesIn}
use Rattle.slot_table.proofs.JoinLemmas.{takes, leaves, one_above, still_below, greater_order}
use Rattle.slot_table.proofs.MergeLemmas.{is_merged, merged_at, claimed_here, claimed_later, behind_range, filter_none, taken_in}
use Rattle.slot_table.proofs.RunLemmas.{in_range, from_first, to_last}

-- a claim says nothing new of the slots
abbrev pub SaysNothing : List (Option SlotEntry) → List (Run ℕ) → ℕ → Type 0
SaysNothing table known owner = (slot : ℕ) → slot < 16384 → greater (entry_at table slot) (claimed known owner slot) ≡ entry_at table slot

pub says_nothing : (table : List (Option SlotEntry)) (known : List (Run ℕ)) (owner : ℕ) → merged table known owner ≡ table → SaysNothing table known owner
says_nothing table known owner same slot below = sym (merged_at table known owner slot below) ∙ ap (λ t. entry_at t slot) same

-- a slot of a run is claimed in its epoch
claimed_in : (known : List (Run ℕ)) (owner slot k : ℕ) (run : Run ℕ) → IsRising known → k < length known → get_or known k run ≡ run → is_in run.slots slot ≡ true
    → claimed known owner slot ≡ Some (record { epoch = run.value; owner = owner })
claimed_in [] owner slot k run rising lt at has = absurd (omega arith)
claimed_in (first ∷ rest) owner slot zero run rising lt at has =
    claimed_here first rest owner slot (ap (λ (r : Run ℕ). is_in r.slots slot) at ∙ has) ∙ ap (λ (r : Run ℕ). Some (record { epoch = r.value; owner = owner })) at
claimed_in (first ∷ rest) owner slot (suc k) run rising lt at has =
    let apart : first.slots.last < (get_or rest k run).slots.first = rising 0 (suc k) run (omega arith) lt in
    let began : run.slots.first ≤ slot = from_first run.slots slot has in
    let same = ap (λ (r : Run ℕ). r.slots.first) at in
    claimed_later first rest owner slot (behind_range first.slots slot (omega arith))
    ∙ claimed_in rest owner slot k run (λ i j d before in_list. rising (suc i) (suc j) d (omega arith) (omega arith)) (omega arith) at has

-- a claim that changes nothing isn't above
not_above : (known : Option SlotEntry) (claim : SlotEntry) → greater known (Some claim) ≡ known → is_above claim known ≡ false
not_above known claim same =
    elim (cases_Bool (is_above claim known)) [
      | inl above ↦
          let is : known ≡ Some claim = sym same ∙ takes known claim above in
          let itself : is_above claim (Some claim) ≡ true = ap (is_above claim) (sym is) ∙ above in
          absurd (both_ways (is_above claim (Some claim)) (one_above claim claim itself) itself)
      | inr fails ↦ fails
    ]

-- what lies in a known run is known
module _ (table : List (Option SlotEntry)) (known : List (Run ℕ)) (owner : ℕ) (run : Run ℕ) (rising : IsRising known) (lies : Any (LiesIn run) known) (says : SaysNothing table known owner) where
  pub nothing_new : (slot : ℕ) → slot < 16384 → is_in run.slots slot ≡ true → greater (entry_at table slot) (Some (record { epoch = run.value; owner = owner })) ≡ entry_at table slot
  nothing_new slot below has =
      let other : Run ℕ = lies.1 in
      let in_it : LiesIn run other = lies.4 in
      let from = in_it.from in
      let to = in_it.to in
      let began = from_first run.slots slot has in
      let ended = to_last run.slots slot has in
      let claim = claimed_in known owner slot lies.0 other rising lies.2 lies.3 (in_range other.slots slot (omega arith) (omega arith)) in
      ap (λ (epoch : ℕ). greater (entry_at table slot) (Some (record { epoch = epoch; owner = owner }))) in_it.same ∙ ap (greater (entry_at table slot)) (sym claim) ∙ says slot below

  -- so it takes no slot
  pub takes_nothing : run.slots.last < 16384 → taken_in table run.slots (record { epoch = run.value; owner = owner }) ≡ []
  takes_nothing last =
      filter_none (λ slot. is_above (record { epoch = run.value; owner = owner }) (entry_at table slot)) run.slots.first (run.slots.last + 1 - run.slots.first) (λ slot from below.
      let known_here = nothing_new slot (omega arith) (in_range run.slots slot from (omega arith)) in
      not_above (entry_at table slot) (record { epoch = run.value; owner = owner }) known_here)

  -- and changes none
  pub changes_nothing : (slot : ℕ) → slot < 16384 → entry_at table slot ≡ (if is_in run.slots slot then greater (entry_at table slot) (Some (record { epoch = run.value; owner = owner })) else entry_at table slot)
  changes_nothing slot below =
      elim (cases_Bool (is_in run.slots slot)) [
        | inl has ↦ sym (ap (λ (b : Bool). if b then greater (entry_at table slot) (Some (record { epoch = run.value; owner = owner })) else entry_at table slot) has ∙ nothing_new slot below has)
        | inr not_in ↦ sym (ap (λ (b : Bool). if b then greater (entry_at table slot) (Some (record { epoch = run.value; owner = owner })) else entry_at table slot) not_in)
      ]

-- what is known says nothing new once another claim is taken
pub still_nothing : (claim said old new : Option SlotEntry) (b : Bool) → new ≡ (if b then greater old claim else old) → greater old said ≡ old → greater new said ≡ new
still_nothing claim said old new true is same = ap (λ e. greater e said) is ∙ greater_order old claim said ∙ ap (λ e. greater e claim) same ∙ sym is
still_nothing claim said old new false is same = ap (λ e. greater e said) is ∙ same ∙ sym is

-- what says nothing new of an entry says nothing new of one above that
greater_stays : (known : Option SlotEntry) (entry : SlotEntry) (said : Option SlotEntry) → is_above entry known ≡ true → greater known said ≡ known → greater (Some entry) said ≡ Some entry
greater_stays known entry None above same = refl
greater_stays known entry (Some claim) above same = leaves (Some entry) claim (still_below entry claim known above (not_above known claim same))

-- a claim says nothing new of a table if it says nothing new of its slots
nothing_said : (table : List (Option SlotEntry)) (claim : List (Run ℕ)) (owner : ℕ) → length table ≡ 16384 → SaysNothing table claim owner → merged table claim owner ≡ table
nothing_said table claim owner whole says = sym (is_merged table table claim owner whole (λ slot below. sym (says slot below)))

-- what is known stays right as a slot is given an entry above its own
known_above : (table : List (Option SlotEntry)) (known : List (Option (List (Run ℕ)))) (slot : ℕ) (entry : Option SlotEntry) → length table ≡ 16384 → slot < 16384
    → is_taken (entry_at table slot) entry ≡ true → AreKnown table known → AreKnown (set table slot entry) known
known_above table known slot None whole below above says = absurd (true≢false (sym above))
known_above table known slot (Some entry) whole below above says = λ owner claim is.
    let nothing : SaysNothing table claim owner = says_nothing table claim owner (says owner claim is) in
    let new : List (Option SlotEntry) = set table slot (Some entry) in
    nothing_said new claim owner (length-set table slot (Some entry) ∙ whole) (λ at lt.
    elim (cases_eq at slot) [
      | inl same ↦
          let here : entry_at new at ≡ Some entry = ap (entry_at new) same ∙ get_or-set_same table slot (Some entry) None (omega arith) in
          let said : greater (entry_at table slot) (claimed claim owner at) ≡ entry_at table slot = ap (λ s. greater (entry_at table slot) (claimed claim owner s)) same ∙ nothing slot below in
          ap (λ e. greater e (claimed claim owner at)) here ∙ greater_stays (entry_at table slot) entry (claimed claim owner at) above said ∙ sym here
      | inr other ↦
          let there : entry_at new at ≡ entry_at table at = get_or-set_other table slot at (Some entry) None other in
          ap (λ e. greater e (claimed claim owner at)) there ∙ nothing at lt ∙ sym there
    ])

-- nothing is known once all is forgotten
none_known : (table : List (Option SlotEntry)) (count : ℕ) → AreKnown table (replicate count None)
none_known table count = λ owner claim is.
    elim (cases_lt owner count) [
      | inl below ↦ absurd (none-some claim (sym (get_or-replicate count owner None None below) ∙ is))
      | inr past ↦ absurd (none-some claim (sym (get_or_past (replicate count None) owner None (let many = length-replicate {A = Option (List (Run ℕ))} count None in omega arith)) ∙ is))
    ]

-- what is left of what is known as a slot is given an entry
pub known_left : (table : List (Option SlotEntry)) (known left : List (Option (List (Run ℕ)))) (slot : ℕ) (entry : Option SlotEntry) (right : Bool) → length table ≡ 16384 → slot < 16384
    → right ≡ is_taken (entry_at table slot) entry → left ≡ (if right then known else replicate (length known) None) → AreKnown table known → AreKnown (set table slot entry) left
known_left table known left slot entry true whole below above is says = subst (AreKnown (set table slot entry)) (sym is) (known_above table known slot entry whole below (sym above) says)
known_left table known left slot entry false whole below above is says = subst (AreKnown (set table slot entry)) (sym is) (none_known (set table slot entry) (length known))

-- there are as many places for it
pub places_left : (known left : List (Option (List (Run ℕ)))) (right : Bool) → left ≡ (if right then known else replicate (length known) None) → length left ≡ length known
places_left known left true is = ap length is
places_left known left false is = ap length is ∙ length-replicate (length known) None

-- no claim says nothing new
pub none_said : (table : List (Option SlotEntry)) (owner : ℕ) → length table ≡ 16384 → merged table [] owner ≡ table
none_said table owner whole = nothing_said table [] owner whole (λ slot below. refl)

-- the runs of a known claim say nothing new, nor do none
pub known_said : (table : List (Option SlotEntry)) (known : List (Option (List (Run ℕ)))) (owner at : ℕ) (claim : Option (List (Run ℕ))) (runs : List (Run ℕ)) → length table ≡ 16384 → at < length known → at ≡ owner
    → claim ≡ get_or known at claim → KnownRuns claim runs → AreKnown table known → merged table runs owner ≡ table
known_said table known owner at None runs whole within same is none says = ap (λ (rs : List (Run ℕ)). merged table rs owner) none ∙ none_said table owner whole
known_said table known owner at (Some claim) runs whole within same is has says =
    ap (λ (rs : List (Run ℕ)). merged table rs owner) has.0
    ∙ says owner claim (ap (λ k. get_or known k None) (sym same) ∙ get_or_default known at None (Some claim) within ∙ sym is)
