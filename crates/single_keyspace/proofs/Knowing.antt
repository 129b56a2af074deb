-- What a node knows of epochs: those of its own slots, and of its election for a handover.
use Rattle.std.proofs.Common.{◌≡◌, ◌≢◌, ◌<◌, ◌≤◌, ◌⊎◌, ℕ, List, [], ◌∷◌, true, Option, Some, None, All, length, refl, sym, ap, ◌∙◌, inl, inr, arith}
use Rattle.std.proofs.lemmas.Bool.{and_from, cases_Bool, cases_eq, cases_lt, cond-true, cond-false, le-leb}
use Rattle.std.proofs.lemmas.List.{get_or-set_other, get_or-set_same, get_or_past, length-set}
use Rattle.std.proofs.lemmas.List.Elements.{All-head, All-tail}
use Rattle.std.specs.Prelude.{nat_le, slice_set}
use Rattle.bus.specs.declared.message.Message.{Message}
use Rattle.key_slot.specs.SlotRange.{is_in}
use Rattle.slot_table.proofs.RunsOfLemmas.{are_runs_of, no_claim_behind}
use Rattle.slot_table.specs.Claims.{claimed, in_epoch, merged}
use Rattle.slot_table.specs.Runs.{AreRunsOf, IsRun, runs_of}
use Rattle.slot_table.specs.Table.{claim_at, entry_at, owner_in}
use Rattle.slot_table.specs.declared.entry.SlotEntry.{SlotEntry}
use Rattle.slot_table.specs.declared.runs.Run.{Run}
use Rattle.node_step.proofs.Merging.{claimed_owner, merged_cases}
use Rattle.node_step.specs.Promotion.{in_place_of}
use Rattle.node_step.specs.State.{NodeState}
use Rattle.node_step.specs.declared.event.Event.{Event}
use Rattle.node_step.specs.declared.event.Event.TheVariants.{Open, Close, Request, Deliver, Tick}
use Rattle.single_keyspace.proofs.Peering.{Ages, Does, EventDoes, Goes, Heard}
use Rattle.single_keyspace.proofs.Seen.{no_some, same_some}
use Rattle.single_keyspace.proofs.Sendings.{named_in}
use Rattle.single_keyspace.proofs.Tabling.{TableIs}
use Rattle.single_keyspace.specs.Handing.{newest_in, planned_epoch}
use Rattle.single_keyspace.specs.Stands.{KnowsEpochs}

-- ---- what is claimed

newest_least : (value_at : ℕ → Option ℕ) (runs : List (Run ℕ)) (bound : ℕ) → All (IsRun value_at) runs → ((slot epoch : ℕ) → value_at slot ≡ Some epoch → epoch ≤ bound) → newest_in runs ≤ bound
newest_least value_at [] bound each known = omega arith
newest_least value_at (run ∷ runs) bound each known =
    let is : IsRun value_at run = All-head (IsRun value_at) run runs each in
    let first : ℕ = run.slots.first in
    let inside : is_in run.slots first ≡ true =
    and_from (nat_le first first) (nat_le first run.slots.last) (le-leb first first (omega arith)) (le-leb first run.slots.last is.some) in
    let one : run.value ≤ bound = known first run.value (is.inside first inside) in
    let rest : newest_in runs ≤ bound = newest_least value_at runs bound (All-tail (IsRun value_at) run runs each) known in
    omega (arith, one, rest)

-- a node claims no epoch that it doesn't know
pub claims_known : (n : ℕ) (node : NodeState) → length node.table ≡ 16384 → KnowsEpochs n node → newest_in (runs_of (claim_at node.table n)) ≤ node.current_epoch
claims_known n node whole knows =
    let are : AreRunsOf (claim_at node.table n) (runs_of (claim_at node.table n)) = are_runs_of (claim_at node.table n) (no_claim_behind node.table n whole) in
    newest_least (claim_at node.table n) (runs_of (claim_at node.table n)) node.current_epoch are.each
    (λ slot epoch is. knows.own slot epoch (named_in n (entry_at node.table slot) epoch is))

-- ---- what a step leaves of it

-- epochs rise, and an election for a handover is the one that was, or is known
pub record Knows (old new : NodeState) : Type 0 where
  pub current : old.current_epoch ≤ new.current_epoch
  pub planned : (epoch : ℕ) → planned_epoch new.candidate ≡ Some epoch → (planned_epoch old.candidate ≡ Some epoch) ⊎ (epoch ≤ new.current_epoch)

goes_knows : (old new : NodeState) → Goes old new → Knows old new
goes_knows old new goes = record {
  current = goes.current;
  planned = λ epoch is. elim goes.planned [ inl same ↦ inl (sym same ∙ is) | inr none ↦ absurd (no_some none is) ];
}

heard_knows : (message : Message) (old new : NodeState) → Heard message old new → Knows old new
heard_knows message old new (Heard.goes goes) = goes_knows old new goes
heard_knows message old new (Heard.follows replaced is apart follows) = record { current = follows.current; planned = λ epoch is. absurd (no_some follows.planned is) }

does_knows : (message : Message) (old new : NodeState) → Does message old new → Knows old new
does_knows message old new (Does.hears heard) = heard_knows message old new heard
does_knows message old new (Does.pauses stream is pauses) = record { current = pauses.current; planned = λ epoch plans. inl (sym pauses.planned ∙ plans) }
does_knows message old new (Does.notes handing is notes) = record { current = notes.current; planned = λ epoch plans. inl (sym notes.planned ∙ plans) }

ages_knows : (old new : NodeState) → Ages old new → Knows old new
ages_knows old new (Ages.stays goes) = goes_knows old new goes
ages_knows old new (Ages.begins handing begins) = record {
  current = (let next = begins.current in omega (arith, next));
  planned = λ epoch is. let next = begins.current in let same = same_some begins.planned is in inr (omega (arith, next, same));
}

pub event_knows : (event : Event) (old new : NodeState) → EventDoes event old new → Knows old new
event_knows (Deliver message) old new does = does_knows message old new does
event_knows Tick old new ages = ages_knows old new ages
event_knows Open old new goes = goes_knows old new goes
event_knows (Close conn) old new goes = goes_knows old new goes
event_knows (Request conn words) old new goes = goes_knows old new goes

module _ (n : ℕ) (node : NodeState) (number : node.number ≡ n) (whole : length node.table ≡ 16384) (knows : KnowsEpochs n node) where
  own_after : (event : Event) (new : NodeState) → node.current_epoch ≤ new.current_epoch → TableIs event node new → (slot epoch : ℕ) → entry_at new.table slot ≡ Some (record { epoch = epoch; owner = n }) → epoch ≤ new.current_epoch
  own_after event new rises (TableIs.same is) slot epoch own =
      let known : epoch ≤ node.current_epoch = knows.own slot epoch (ap (λ t. entry_at t slot) (sym is) ∙ own) in
      omega (arith, known, rises)
  own_after event new rises (TableIs.ends ended moving is) slot epoch own =
      let its : Option SlotEntry = Some (record { epoch = new.current_epoch; owner = node.number }) in
      let now : entry_at (slice_set node.table ended its) slot ≡ Some (record { epoch = epoch; owner = n }) = ap (λ t. entry_at t slot) (sym is) ∙ own in
      elim (cases_eq slot ended) [
        | inr apart ↦
            let known : epoch ≤ node.current_epoch = knows.own slot epoch (sym (get_or-set_other node.table ended slot its None apart) ∙ now) in
            omega (arith, known, rises)
        | inl same ↦
            let here : entry_at (slice_set node.table ended its) ended ≡ Some (record { epoch = epoch; owner = n }) = ap (entry_at (slice_set node.table ended its)) (sym same) ∙ now in
            elim (cases_lt ended 16384) [
              | inl below ↦
                  let inside : ended < length node.table = omega (arith, whole, below) in
                  let epochs : new.current_epoch ≡ epoch = ap (λ (e : SlotEntry). e.epoch) (same_some (get_or-set_same node.table ended its None inside) here) in
                  omega (arith, epochs)
              | inr past ↦
                  let longer : length (slice_set node.table ended its) ≤ ended = omega (arith, whole, past, length-set node.table ended its) in
                  absurd (no_some (get_or_past (slice_set node.table ended its) ended None longer) here)
            ]
      ]
  own_after event new rises (TableIs.learns message runs replaced is says apart now) slot epoch own =
      let its : entry_at (merged node.table runs message.from) slot ≡ Some (record { epoch = epoch; owner = n }) = ap (λ t. entry_at t slot) (sym now) ∙ own in
      elim (merged_cases node.table runs message.from slot whole) [
        | inl stays ↦
            let known : epoch ≤ node.current_epoch = knows.own slot epoch (sym stays ∙ its) in
            omega (arith, known, rises)
        | inr taken ↦
            let owner : taken.0.owner ≡ n = ap (λ (e : SlotEntry). e.owner) (same_some taken.3 its) in
            absurd (apart (sym (claimed_owner runs message.from slot taken.0 taken.1) ∙ owner ∙ sym number))
      ]

  pub knows_after : (event : Event) (new : NodeState) → Knows node new → TableIs event node new → KnowsEpochs n new
  knows_after event new more table = record {
    own = own_after event new more.current table;
    planned = λ epoch is. elim (more.planned epoch is) [
      | inl before ↦
          let known : epoch ≤ node.current_epoch = knows.planned epoch before in
          let rises = more.current in
          omega (arith, known, rises)
      | inr known ↦ known
    ];
  }

-- ---- a planned promotion

claimed_epoch : (runs : List (Run ℕ)) (owner slot epoch : ℕ) (entry : SlotEntry) → claimed (in_epoch epoch runs) owner slot ≡ Some entry → entry.epoch ≡ epoch
claimed_epoch [] owner slot epoch entry is = absurd (no_some refl is)
claimed_epoch (run ∷ runs) owner slot epoch entry is =
    let mine : Option SlotEntry = Some (record { epoch = epoch; owner = owner }) in
    elim (cases_Bool (is_in run.slots slot)) [
      | inl inside ↦ ap (λ (e : SlotEntry). e.epoch) (sym (same_some (cond-true (is_in run.slots slot) mine (claimed (in_epoch epoch runs) owner slot) inside) is))
      | inr apart ↦ claimed_epoch runs owner slot epoch entry (sym (cond-false (is_in run.slots slot) mine (claimed (in_epoch epoch runs) owner slot) apart) ∙ is)
    ]

pub succeeded_knows : (n : ℕ) (counting : NodeState) → length counting.table ≡ 16384 → ((slot : ℕ) → owner_in (entry_at counting.table slot) ≢ Some n) → (master epoch : ℕ) → epoch ≤ counting.current_epoch
    → (runs : List (Run ℕ)) → KnowsEpochs n (in_place_of counting master epoch (merged counting.table (in_epoch epoch runs) counting.number))
succeeded_knows n counting whole foreign master epoch known runs = record {
  own = λ slot its own.
      elim (merged_cases counting.table (in_epoch epoch runs) counting.number slot whole) [
        | inl stays ↦ absurd (foreign slot (ap owner_in (sym stays ∙ own)))
        | inr taken ↦
            let one : taken.0.epoch ≡ epoch = claimed_epoch runs counting.number slot epoch taken.0 taken.1 in
            let other : taken.0.epoch ≡ its = ap (λ (e : SlotEntry). e.epoch) (same_some taken.3 own) in
            omega (arith, one, other, known)
      ];
  planned = λ other is. absurd (no_some refl is);
}
