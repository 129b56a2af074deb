-- What a node may send, by its state, and that it is true of the slot.
use Rattle.std.proofs.Common.{length, ◌≡◌, ◌≤◌, ◌==◌, ℕ, List, [], ◌∷◌, ◌++◌, true, false, Option, Some, None, All, Contains, refl, sym, ap, ap₂, subst, ◌∙◌, inl, inr, arith}
use Rattle.std.proofs.lemmas.Bool.{cases_Bool, cases_eq, cond-true, cond-false, eqb-true, ltb-false}
use Rattle.std.proofs.lemmas.List.Elements.{All-head, All-tail, Contains-append_cases}
use Rattle.std.proofs.lemmas.Map.Lookups.{exact_bytes}
use Rattle.std.specs.Cmp.Lexicographic.{slice_cmp}
use Rattle.std.specs.Ordering.{nat_cmp}
use Rattle.std.specs.FinMap as fin_map
use Rattle.std.specs.Map.{keys_of}
use Rattle.key_slot.specs.SlotRange.{is_in}
use Rattle.keyspace.specs.Keyspace.{Keyspace}
use Rattle.keyspace.specs.declared.value.Value.{Value}
use Rattle.slot_store.specs.InSlot.{is_in_slot}
use Rattle.slot_table.specs.Claims.{claimed}
use Rattle.slot_table.proofs.RunsOfLemmas.{are_runs_of, no_claim_behind}
use Rattle.slot_table.specs.Runs.{IsRun, AreRunsOf, runs_of}
use Rattle.slot_table.specs.Table.{entry_at, epoch_in, claim_at}
use Rattle.slot_table.specs.declared.entry.SlotEntry.{SlotEntry}
use Rattle.slot_table.specs.declared.runs.Run.{Run}
use Rattle.slot_state.specs.Moves.{Moves, copy_id, move_of}
use Rattle.slot_state.specs.declared.running.Move.{Move}
use Rattle.slot_state.specs.declared.running.Move.TheVariants.{Leaves, Comes}
use Rattle.slot_state.specs.declared.copy_id.CopyId.{CopyId}
use Rattle.bus.specs.declared.message.Body.{Body}
use Rattle.bus.specs.declared.bodies.ElectionBody.TheVariants as of_election
use Rattle.bus.specs.declared.bodies.SlotsBody.TheVariants as of_slots
use Rattle.bus.specs.declared.bodies.StreamBody.TheVariants as of_stream
use Rattle.bus.specs.declared.message.Body.TheVariants as body
use Rattle.bus.specs.declared.message.Message.{Message}
use Rattle.bus.specs.declared.bodies.Replaced.{Replaced}
use Rattle.std.specs.Prelude.{⊤}
use Rattle.one_slot.specs.View.{View, Views}
use Rattle.one_slot.specs.Slot.{Holds, IsFrozen, IsLeaving}
use Rattle.one_slot.specs.Sent.{Sent, IsSent}
use Rattle.one_slot.specs.Sent.Sent.{Drained, Copy}
use Rattle.one_slot.specs.Events.{CopyIsSent}
use Rattle.one_slot.proofs.KeyLemmas.{Contains-keys}
use Rattle.one_slot.proofs.Sendings.{drained-is_sent}
use Rattle.node_step.proofs.Copied.{pairs_are_of, pairs_have}
use Rattle.node_step.specs.Copies.{outstanding, pairs_at}
use Rattle.node_step.specs.Slots.{has_keys, slot_epoch, epoch_in_table, drained, drained_by, drained_if_empty, drained_since}
use Rattle.node_step.specs.Orders.{to_all}
use Rattle.node_step.specs.State.{NodeState}
use Rattle.world_run.specs.Run.{Entry, sent_by}
use Rattle.single_keyspace.specs.Slots.{values_in, view_of}
use Rattle.single_keyspace.specs.Stands.{Says}
use Rattle.single_keyspace.proofs.Laws.{laws_at}
use Rattle.single_keyspace.proofs.Lists.{contains_nothing, contains_one, from_map}
use Rattle.single_keyspace.proofs.MovesHold.{frozen_here, valued_in_slot}
use Rattle.single_keyspace.proofs.Seen.{no_some, same_some}
use Rattle.single_keyspace.proofs.Values.{value_here}

-- a copy of that number was sent to the node before, and it is installed
pub record IsInstalled (past : List Entry) (n : ℕ) (moves : Moves) (to : ℕ) (id : CopyId) : Type 0 where
  pub copied : ℕ
  pub drained : Option ℕ
  pub move : move_of moves id.slot ≡ Some (Comes to id.number copied drained)
  pub reached : id.copy ≤ copied
  pub pairs : List (List ℕ × Value)
  pub message : Message
  pub sent : Contains (sent_by past) message
  pub from_there : message.from ≡ to
  pub to_here : message.to ≡ n
  pub says : message.body ≡ body.Slots (of_slots.Copy id pairs)

-- the slot leaves, and no key of it is left
pub record IsLeft (moves : Moves) (keyspace : Keyspace) (table : List (Option SlotEntry)) (to slot number epoch : ℕ) : Type 0 where
  pub copies : ℕ
  pub frozen : Option (List (List ℕ))
  pub move : move_of moves slot ≡ Some (Leaves to number copies frozen)
  pub epoch_is : epoch ≡ epoch_in_table (entry_at table slot)
  pub empty : has_keys keyspace slot ≡ false

-- it is the outstanding copy
pub record IsOutstanding (moves : Moves) (keyspace : Keyspace) (to : ℕ) (id : CopyId) (pairs : List (List ℕ × Value)) : Type 0 where
  pub keys : List (List ℕ)
  pub move : move_of moves id.slot ≡ Some (Leaves to id.number id.copy (Some keys))
  pub are : pairs ≡ pairs_at keyspace keys

-- by what the node has of slots alone, so that nothing else of it matters
abbrev pub IsJustifiedBy : List Entry → ℕ → Moves → Keyspace → List (Option SlotEntry) → ℕ → Body → Type 0
IsJustifiedBy past n moves keyspace table to (body.Slots (of_slots.Copy id pairs)) = IsOutstanding moves keyspace to id pairs
IsJustifiedBy past n moves keyspace table to (body.Slots (of_slots.Ack id)) = IsInstalled past n moves to id
IsJustifiedBy past n moves keyspace table to (body.Slots (of_slots.Drained slot number epoch)) = IsLeft moves keyspace table to slot number epoch
IsJustifiedBy past n moves keyspace table to (body.Slots (of_slots.Claim runs replaced)) = (slot epoch : ℕ) → claimed runs n slot ≡ Some (record { epoch = epoch; owner = n }) → entry_at table slot ≡ Some (record { epoch = epoch; owner = n })
IsJustifiedBy past n moves keyspace table to other = ⊤

abbrev pub IsJustified : List Entry → ℕ → NodeState → ℕ → Body → Type 0
IsJustified past n node to body = IsJustifiedBy past n node.moves node.keyspace node.table to body

-- all messages are
abbrev pub AreJustified : List Entry → ℕ → NodeState → List (ℕ × Body) → Type 0
AreJustified past n node sent = (to : ℕ) (body : Body) → Contains sent (to, body) → IsJustified past n node to body

pub both_justified : (past : List Entry) (n : ℕ) (node : NodeState) (sent others : List (ℕ × Body)) → AreJustified past n node sent → AreJustified past n node others → AreJustified past n node (sent ++ others)
both_justified past n node sent others first second to body among =
    elim (Contains-append_cases sent others (to, body) among) [
      | inl one ↦ first to body one
      | inr other ↦ second to body other
    ]

pub one_justified : (past : List Entry) (n : ℕ) (node : NodeState) (to : ℕ) (body : Body) → IsJustified past n node to body → AreJustified past n node ((to, body) ∷ [])
one_justified past n node to body just other said among =
    subst (λ (p : ℕ × Body). IsJustified past n node p.0 p.1) (contains_one (to, body) (other, said) among) just

pub to_all_justified : (past : List Entry) (n : ℕ) (node : NodeState) (numbers : List ℕ) (body : Body) → ((to : ℕ) → IsJustified past n node to body) → AreJustified past n node (to_all numbers body)
to_all_justified past n node numbers body just to said among =
    let found = from_map (λ (number : ℕ). (number, body)) numbers (to, said) among in
    subst (λ (p : ℕ × Body). IsJustified past n node p.0 p.1) found.2 (just found.0)

-- ---- they are true

pub no_keys : (keyspace : Keyspace) (slot : ℕ) → has_keys keyspace slot ≡ false → (key : List ℕ) → values_in keyspace slot key ≡ None
no_keys keyspace slot none key =
    let held : Keyspace = fin_map.retain_keys keyspace (is_in_slot slot) in
    let few : fin_map.len held ≤ 0 = ltb-false 0 (fin_map.len held) none in
    let empty : held ≡ fin_map.empty = fin_map.empty_of_len held (omega (arith, few)) in
    sym (fin_map.get-retain_keys keyspace (is_in_slot slot) key (λ x same. ap (is_in_slot slot) (sym (exact_bytes key x same))))
    ∙ ap (λ (m : Keyspace). fin_map.get m key) empty ∙ fin_map.get-empty (slice_cmp nat_cmp) key

left_is_true : {top : SlotEntry} {seen : Views Value} {one : List ℕ → Option Value} {n : ℕ} {slot : ℕ} (node : NodeState) → Holds top seen one → seen n ≡ view_of node slot
    → (to number epoch : ℕ) → IsLeft node.moves node.keyspace node.table to slot number epoch → IsSent top seen (Drained n to number epoch)
left_is_true {top = top} {seen = seen} {n = n} {slot = slot} node holds here to number epoch left =
    let leaving : IsLeaving (seen n) to number = record { copies = left.copies; frozen = left.frozen; is = ap (λ (v : View Value). v.move) here ∙ left.move } in
    elim (cases_eq n top.owner) [
      | inl same ↦
          let entry : (seen n).entry ≡ Some top = ap (λ (i : ℕ). (seen i).entry) same ∙ holds.holder.entry in
          let epoch_is : epoch ≡ top.epoch = left.epoch_is ∙ ap epoch_in_table (sym (ap (λ (v : View Value). v.entry) here) ∙ entry) in
          drained-is_sent holds n to number epoch (record {
            leaves = leaving;
            owner = top.owner;
            entry = entry ∙ ap (λ (e : ℕ). Some (record { epoch = e; owner = top.owner })) (sym epoch_is);
            empty = λ key. ap (λ (v : View Value). v.value key) here ∙ no_keys node.keyspace slot left.empty key;
          })
      | inr other ↦ inl (holds.stale n other to number leaving)
    ]

-- the outstanding copy has just the frozen keys with their values
outstanding_sent : (node : NodeState) (slot to number copy : ℕ) (keys : List (List ℕ)) → move_of node.moves slot ≡ Some (Leaves to number copy (Some keys)) → IsFrozen (view_of node slot) copy keys
    → CopyIsSent (view_of node slot) to number copy (pairs_at node.keyspace keys)
outstanding_sent node slot to number copy keys move frozen =
    let inside : (key : List ℕ) → Contains keys key → is_in_slot slot key ≡ true = λ key among. let there = frozen.here key among in valued_in_slot node.keyspace slot key there.0 there.1 in
    let there : (key : List ℕ) → Contains keys key → (x : Value) × (fin_map.get node.keyspace key ≡ Some x) = λ key among.
    let at = frozen.here key among in (at.0, sym (value_here node.keyspace slot key (inside key among)) ∙ at.1) in
    let same : keys_of (pairs_at node.keyspace keys) ≡ keys = pairs_are_of node.keyspace keys there in
    record {
      move = move ∙ ap (λ (ks : List (List ℕ)). Some (Leaves to number copy (Some ks))) (sym same);
      one = frozen.one;
      among = subst (λ (ks : List (List ℕ)). Contains ks frozen.one) (sym same) frozen.among;
      here = λ key x among.
          let named : Contains keys key = subst (λ (ks : List (List ℕ)). Contains ks key) same (Contains-keys (pairs_at node.keyspace keys) key x among) in
          value_here node.keyspace slot key (inside key named) ∙ pairs_have node.keyspace keys key x among;
      each = λ key among. frozen.here key (subst (λ (ks : List (List ℕ)). Contains ks key) same among);
    }

module _ (past : List Entry) (node : NodeState) {top : SlotEntry} {seen : Views Value} {one : List ℕ → Option Value} {n : ℕ} {slot : ℕ} (holds : Holds top seen one) (here : seen n ≡ view_of node slot)
    (history : (message : Message) (sent : Sent Value) → Contains (sent_by past) message → Says slot message.from message.to message.body sent → IsSent top seen sent) where
  pub justified_is_true : (to : ℕ) (body : Body) (sent : Sent Value) → IsJustified past n node to body → Says slot n to body sent → IsSent top seen sent
  justified_is_true to (body.Slots (of_slots.Copy id pairs)) sent just says =
      let move : move_of node.moves slot ≡ Some (Leaves to id.number id.copy (Some just.keys)) = subst (λ (s : ℕ). move_of node.moves s ≡ Some (Leaves to id.number id.copy (Some just.keys))) says.0 just.move in
      let frozen : IsFrozen (view_of node slot) id.copy just.keys =
      subst (λ (v : View Value). IsFrozen v id.copy just.keys) here (frozen_here holds n to id.number id.copy just.keys (ap (λ (v : View Value). v.move) here ∙ move)) in
      subst (IsSent top seen) (sym (says.1 ∙ ap (λ (ps : List (List ℕ × Value)). Copy n to id.number id.copy ps) just.are))
      ((laws_at top seen one n (view_of node slot) holds here).copy_sent to id.number id.copy (pairs_at node.keyspace just.keys)
      (outstanding_sent node slot to id.number id.copy just.keys move frozen))
  justified_is_true to (body.Slots (of_slots.Ack id)) sent just says =
      let copied : IsSent top seen (Copy just.message.from just.message.to id.number id.copy just.pairs) =
      history just.message _ just.sent
      (subst (λ (b : Body). Says slot just.message.from just.message.to b (Copy just.message.from just.message.to id.number id.copy just.pairs)) (sym just.says) (says.0, refl)) in
      subst (IsSent top seen) (sym says.1)
      ((laws_at top seen one n (view_of node slot) holds here).ack_sent to id.number id.copy just.copied just.drained just.pairs
      (subst (λ (s : ℕ). move_of node.moves s ≡ Some (Comes to id.number just.copied just.drained)) says.0 just.move)
      just.reached
      (subst (IsSent top seen) (ap₂ (λ (f t : ℕ). Copy f t id.number id.copy just.pairs) just.from_there just.to_here) copied))
  justified_is_true to (body.Slots (of_slots.Drained other number epoch)) sent just says =
      subst (IsSent top seen) (sym says.1) (left_is_true node holds here to number epoch (subst (λ (s : ℕ). IsLeft node.moves node.keyspace node.table to s number epoch) says.0 just))
  justified_is_true to (body.Slots (of_slots.Claim runs replaced)) sent just says =
      subst (IsSent top seen) (sym says.2)
      ((laws_at top seen one n (view_of node slot) holds here).claim_sent says.0 (just slot says.0 says.1))
  justified_is_true to (body.Report suspects) sent just says = absurd says
  justified_is_true to (body.Election (of_election.Candidacy request)) sent just says = absurd says
  justified_is_true to (body.Election (of_election.Grant epoch)) sent just says = absurd says
  justified_is_true to (body.Stream (of_stream.Sync sync)) sent just says = absurd says
  justified_is_true to (body.Stream (of_stream.Piece piece)) sent just says = absurd says
  justified_is_true to (body.Stream (of_stream.Snapshot snapshot)) sent just says = absurd says
  justified_is_true to (body.Election (of_election.Pause stream)) sent just says = absurd says
  justified_is_true to (body.Election (of_election.Paused handing)) sent just says = absurd says

-- ---- drained

module _ (past : List Entry) (n : ℕ) (node : NodeState) (slot : ℕ) where
  drained_justified : has_keys node.keyspace slot ≡ false → AreJustified past n node (drained node slot)
  drained_justified empty to said among = by_move (move_of node.moves slot) refl among
    where
      by_move : (move : Option Move) → move_of node.moves slot ≡ move → Contains (drained_by slot (slot_epoch node slot) move) (to, said) → IsJustified past n node to said
      by_move None is among = absurd (contains_nothing (to, said) among)
      by_move (Some (Comes from number last drained)) is among = absurd (contains_nothing (to, said) among)
      by_move (Some (Leaves other number copies frozen)) is among =
          let same : (other, body.Slots (of_slots.Drained slot number (slot_epoch node slot))) ≡ (to, said) = contains_one (other, body.Slots (of_slots.Drained slot number (slot_epoch node slot))) (to, said) among in
          subst (λ (p : ℕ × Body). IsJustified past n node p.0 p.1) same (record { copies = copies; frozen = frozen; move = is; epoch_is = refl; empty = empty })

  pub drained_if_empty_justified : AreJustified past n node (drained_if_empty node slot)
  drained_if_empty_justified to body among =
      elim (cases_Bool (has_keys node.keyspace slot)) [
        | inl some ↦ absurd (contains_nothing (to, body) (subst (λ (l : List (ℕ × Body)). Contains l (to, body)) (cond-true (has_keys node.keyspace slot) [] (drained node slot) some) among))
        | inr none ↦ drained_justified none to body (subst (λ (l : List (ℕ × Body)). Contains l (to, body)) (cond-false (has_keys node.keyspace slot) [] (drained node slot) none) among)
      ]

  pub drained_since_justified : (before : Keyspace) → AreJustified past n node (drained_since before node slot)
  drained_since_justified before to body among =
      elim (cases_Bool (has_keys before slot)) [
        | inl some ↦ drained_if_empty_justified to body (subst (λ (l : List (ℕ × Body)). Contains l (to, body)) (cond-true (has_keys before slot) (drained_if_empty node slot) [] some) among)
        | inr none ↦ absurd (contains_nothing (to, body) (subst (λ (l : List (ℕ × Body)). Contains l (to, body)) (cond-false (has_keys before slot) (drained_if_empty node slot) [] none) among))
      ]

-- ---- the outstanding copy

pub outstanding_justified : (past : List Entry) (n : ℕ) (node : NodeState) (slot : ℕ) (move : Option Move) → move_of node.moves slot ≡ move → AreJustified past n node (outstanding node.keyspace slot move)
outstanding_justified past n node slot None is to said among = absurd (contains_nothing (to, said) among)
outstanding_justified past n node slot (Some (Comes from number last drained)) is to said among = absurd (contains_nothing (to, said) among)
outstanding_justified past n node slot (Some (Leaves other number copies None)) is to said among = absurd (contains_nothing (to, said) among)
outstanding_justified past n node slot (Some (Leaves other number copies (Some keys))) is to said among =
    subst (λ (p : ℕ × Body). IsJustified past n node p.0 p.1) (contains_one (other, body.Slots (of_slots.Copy (copy_id slot number copies) (pairs_at node.keyspace keys))) (to, said) among)
    (record { keys = keys; move = is; are = refl })

-- ---- claims

claimed_value : (value_at : ℕ → Option ℕ) (runs : List (Run ℕ)) (owner slot epoch : ℕ) → All (IsRun value_at) runs → claimed runs owner slot ≡ Some (record { epoch = epoch; owner = owner }) → value_at slot ≡ Some epoch
claimed_value value_at [] owner slot epoch each is = absurd (no_some refl is)
claimed_value value_at (run ∷ runs) owner slot epoch each is =
    let mine : Option SlotEntry = Some (record { epoch = run.value; owner = owner }) in
    elim (cases_Bool (is_in run.slots slot)) [
      | inl inside ↦
          let same : mine ≡ Some (record { epoch = epoch; owner = owner }) = sym (cond-true (is_in run.slots slot) mine (claimed runs owner slot) inside) ∙ is in
          (All-head (IsRun value_at) run runs each).inside slot inside ∙ ap (λ (e : SlotEntry). Some e.epoch) (same_some refl same)
      | inr apart ↦
          claimed_value value_at runs owner slot epoch (All-tail (IsRun value_at) run runs each)
          (sym (cond-false (is_in run.slots slot) mine (claimed runs owner slot) apart) ∙ is)
    ]

pub named_in : (number : ℕ) (entry : Option SlotEntry) (epoch : ℕ) → epoch_in number entry ≡ Some epoch → entry ≡ Some (record { epoch = epoch; owner = number })
named_in number None epoch is = absurd (no_some refl is)
named_in number (Some entry) epoch is =
    elim (cases_Bool (entry.owner == number)) [
      | inl same ↦
          let epochs : entry.epoch ≡ epoch = same_some refl (sym (cond-true (entry.owner == number) (Some entry.epoch) None same) ∙ is) in
          ap₂ (λ (e o : ℕ). Some (record { epoch = e; owner = o })) epochs (eqb-true entry.owner number same)
      | inr other ↦ absurd (no_some refl (sym (cond-false (entry.owner == number) (Some entry.epoch) None other) ∙ is))
    ]

-- the longest runs of a node's own slots are what it may claim
pub claim_justified : (past : List Entry) (n : ℕ) (node : NodeState) (to : ℕ) (replaced : Option Replaced) → length node.table ≡ 16384 → IsJustified past n node to (body.Slots (of_slots.Claim (runs_of (claim_at node.table n)) replaced))
claim_justified past n node to replaced whole slot epoch is =
    let are : AreRunsOf (claim_at node.table n) (runs_of (claim_at node.table n)) = are_runs_of (claim_at node.table n) (no_claim_behind node.table n whole) in
    named_in n (entry_at node.table slot) epoch (claimed_value (claim_at node.table n) (runs_of (claim_at node.table n)) n slot epoch are.each is)
