-- Steps that take messages, and ticks.
use Rattle.std.proofs.Common.{◌≡◌, ◌≤◌, ◌+◌, ◌==◌, ◌&&◌, ℕ, List, [], ◌∷◌, map, Bool, true, false, cond, Option, Some, None, Contains, refl, sym, ap, subst, ◌∙◌, inl, inr, arith}
use Rattle.std.proofs.lemmas.Bool.{and_parts, both_ways, cases_eq, eqb-true, eqb-false}
use Rattle.std.specs.FinMap as fin_map
use Rattle.std.specs.Map.{keys_of}
use Rattle.std.specs.List.{flat_map}
use Rattle.std.specs.Ordering.{nat_cmp}
use Rattle.std.specs.Prelude.{is_some, not, slice_index_or}
use Rattle.keyspace.specs.Keyspace.{Keyspace}
use Rattle.keyspace.specs.declared.value.Value.{Value}
use Rattle.slot_table.specs.Claims.{merged}
use Rattle.slot_table.specs.Runs.{runs_of}
use Rattle.slot_table.specs.Table.{claim_at}
use Rattle.slot_table.specs.declared.runs.Run.{Run}
use Rattle.slot_state.specs.Moves.{Moves, move_of}
use Rattle.slot_state.specs.declared.running.Move.{Move}
use Rattle.slot_state.specs.declared.running.Move.TheVariants.{Leaves, Comes}
use Rattle.slot_state.specs.declared.copy_id.CopyId.{CopyId}
use Rattle.migrate.specs.Acknowledging.{acknowledged_keys, unfrozen}
use Rattle.migrate.specs.Arriving.{arrival_verdict, changed_at, one_more}
use Rattle.migrate.specs.Draining.{note_drained}
use Rattle.migrate.specs.declared.arriving.ArrivalVerdict.{ArrivalVerdict}
use Rattle.migrate.specs.declared.arriving.ArrivalVerdict.TheVariants.{Ignored, Installs, Repeats}
use Rattle.bus.specs.Stream.{is_same}
use Rattle.bus.specs.Syncing.{answer_to}
use Rattle.bus.specs.declared.message.Body.{Body}
use Rattle.bus.specs.declared.bodies.ElectionBody.TheVariants as of_election
use Rattle.bus.specs.declared.bodies.SlotsBody.TheVariants as of_slots
use Rattle.bus.specs.declared.bodies.StreamBody.TheVariants as of_stream
use Rattle.bus.specs.declared.message.Body.TheVariants as body
use Rattle.bus.specs.declared.bodies.Handing.{Handing}
use Rattle.bus.specs.declared.message.Message.{Message}
use Rattle.bus.specs.declared.bodies.Replaced.{Replaced}
use Rattle.bus.specs.declared.stream_id.StreamId.{StreamId}
use Rattle.bus.specs.declared.answer.SyncAnswer.{SyncAnswer}
use Rattle.bus.specs.declared.answer.SyncAnswer.TheVariants as answers
use Rattle.bus.specs.declared.sync.Sync.{Sync}
use Rattle.one_slot.specs.View.{View}
use Rattle.one_slot.specs.Sent.{Sent, IsSent}
use Rattle.one_slot.specs.Sent.Sent.{Drained, Copy, Ack, Claimed}
use Rattle.node_step.specs.Claiming.{claim, claimed_by, with_table}
use Rattle.connections.specs.Connections.{all_freed, waiting}
use Rattle.connections.specs.Waiting.{is_for}
use Rattle.node_step.specs.Copies.{acknowledged, arrived, keep_limits, noted, with_copied, without}
use Rattle.election.specs.Electing.{counted, elected}
use Rattle.election.specs.Failing.{suspected}
use Rattle.election.specs.Health.{Candidate}
use Rattle.election.specs.Voting.{may_grant}
use Rattle.election.specs.declared.running.Elected.{Elected}
use Rattle.election.specs.declared.voter.VoteRequest.{VoteRequest}
use Rattle.node_step.proofs.Ready.{in_election_keeps, ready_keeps}
use Rattle.node_step.specs.Failing.{a_tick_older, members_of}
use Rattle.node_step.specs.Messages.{Choice, delivered, ready, taken, taken_so, written_by_message}
use Rattle.node_step.specs.Orders.{claim_of, done, others, to_all}
use Rattle.node_step.specs.Handovers.{asked_again, asked_to_pause, handed_again, handed_to, handing_of, handing_over, is_free_for, may_pause}
use Rattle.node_step.specs.Promotion.{handed_promotion, promotion}
use Rattle.node_step.specs.Outcome.{release, silent}
use Rattle.node_step.specs.Roles.{is_just}
use Rattle.node_step.specs.Replicas.{sync_answer, sync_to}
use Rattle.node_step.specs.Slots.{drained_since}
use Rattle.node_step.specs.State.{NodeState, is_replica, own_master}
use Rattle.node_step.specs.Ticks.{older, sent_again, slots_tick, tick}
use Rattle.node_step.specs.Voting.{due_epoch, grant_to, if_elected, request_of, requests_in, voters_of, voting}
use Rattle.world_run.specs.Run.{Entry, sent_by}
use Rattle.single_keyspace.specs.Slots.{view_of}
use Rattle.single_keyspace.specs.Stands.{NodeStands, Says}
use Rattle.single_keyspace.proofs.Lists.{contains_nothing, contains_one, from_flat_map}
use Rattle.single_keyspace.proofs.Lost.{claims_hold, length_merged, move_left}
use Rattle.single_keyspace.proofs.Maps.{put_here}
use Rattle.single_keyspace.proofs.Moved.{with_move, moved_here, moved_apart}
use Rattle.single_keyspace.proofs.MovesHold.{arriving_are_there, frozen_here, valued_in_slot, copy_installed_holds, copy_acknowledged_holds, drained_noted_holds}
use Rattle.single_keyspace.proofs.Running.{got_from_entry}
use Rattle.single_keyspace.proofs.Seen.{SlotWas, again, holds_but, no_some, same_values, same_view}
use Rattle.single_keyspace.proofs.Roles.{no_messages_from_master}
use Rattle.single_keyspace.proofs.Sendings.{AreJustified, IsJustified, IsInstalled, both_justified, claim_justified, one_justified, to_all_justified, drained_if_empty_justified, drained_since_justified, outstanding_justified}
use Rattle.single_keyspace.proofs.Steps.{StepStands, nothing_sent, quiet, quiet_still, with_written_stands}
use Rattle.single_keyspace.proofs.Values.{AreInSlot, elsewhere, puts_here, removes_here, with_copied_apart, without_apart}
use Rattle.single_keyspace.proofs.Verdicts.{copy_arrives, copy_repeats, ack_counts}

-- the move of a slot, put again
put_again : (node : NodeState) (slot : ℕ) (move : Move) → move_of node.moves slot ≡ Some move → (other : ℕ) → view_of (record node { moves = with_move node.moves slot move }) other ≡ view_of node other
put_again node slot move is other =
    elim (cases_eq other slot) [
      | inl same ↦
          subst (λ (s : ℕ). view_of (record node { moves = with_move node.moves slot move }) s ≡ view_of node s) (sym same)
          (moved_here node node.keyspace slot move ∙ same_view refl (sym is) refl refl)
      | inr apart ↦ moved_apart node node.keyspace slot move other apart refl
    ]

module _ {past : List Entry} {n : ℕ} {before : NodeState} {one : Keyspace} (was : (slot : ℕ) → SlotWas past n before one slot) (stands : NodeStands n before)
    (message : Message) (sent : Contains (sent_by past) message) (to_here : message.to ≡ n) where
  said : (slot : ℕ) (body : Body) (s : Sent Value) → message.body ≡ body → Says slot message.from message.to body s → IsSent (was slot).top (was slot).seen s
  said slot body s is says = (was slot).history.sent message s sent (subst (λ (b : Body). Says slot message.from message.to b s) (sym is) says)

  -- ---- a copy

  module _ (id : CopyId) (pairs : List (List ℕ × Value)) (is : message.body ≡ body.Slots (of_slots.Copy id pairs)) where
    copy_said : IsSent (was id.slot).top (was id.slot).seen (Copy message.from n id.number id.copy pairs)
    copy_said =
        subst (λ (t : ℕ). IsSent (was id.slot).top (was id.slot).seen (Copy message.from t id.number id.copy pairs)) to_here
        (said id.slot (body.Slots (of_slots.Copy id pairs)) (Copy message.from message.to id.number id.copy pairs) is (refl, refl))

    ack_justified : (node : NodeState) (copied : ℕ) (drained : Option ℕ) → move_of node.moves id.slot ≡ Some (Comes message.from id.number copied drained) → id.copy ≤ copied
        → AreJustified past n node ((message.from, body.Slots (of_slots.Ack id)) ∷ [])
    ack_justified node copied drained move reached to said among =
        let installed : IsInstalled past n node.moves message.from id = record {
          copied = copied;
          drained = drained;
          move = move;
          reached = reached;
          pairs = pairs;
          message = message;
          sent = sent;
          from_there = refl;
          to_here = to_here;
          says = is;
        } in
        subst (λ (p : ℕ × Body). IsJustified past n node p.0 p.1) (contains_one (message.from, body.Slots (of_slots.Ack id)) (to, said) among) installed

    pub arrival_stands : (verdict : ArrivalVerdict) → arrival_verdict (move_of before.moves id.slot) message.from id.number id.copy (keep_limits pairs) ≡ verdict
        → StepStands was None (arrived before message.from id pairs verdict)
    arrival_stands Ignored counts =
        quiet_still was None refl refl (arrived before message.from id pairs Ignored) (record { number_is = stands.number_is; slots = stands.slots; is_master = stands.is_master; rests = stands.rests }) (λ other. refl)
        (nothing_sent past n (arrived before message.from id pairs Ignored).state)
    arrival_stands Repeats counts =
        let facts = copy_repeats (move_of before.moves id.slot) message.from id.number id.copy (keep_limits pairs) counts in
        quiet_still was None refl refl (arrived before message.from id pairs Repeats) (record { number_is = stands.number_is; slots = stands.slots; is_master = stands.is_master; rests = stands.rests }) (λ other. refl)
        (ack_justified (arrived before message.from id pairs Repeats).state facts.0 facts.1 facts.2 facts.3)
    arrival_stands Installs counts =
        let facts = copy_arrives (move_of before.moves id.slot) message.from id.number id.copy (keep_limits pairs) counts in
        let copied : ℕ = facts.0 in
        let drained : Option ℕ = facts.1 in
        let move : Move = Comes message.from id.number (copied + 1) drained in
        let keyspace : Keyspace = with_copied before.keyspace pairs in
        let next_said : IsSent (was id.slot).top (was id.slot).seen (Copy message.from n id.number (copied + 1) pairs) =
        subst (λ (c : ℕ). IsSent (was id.slot).top (was id.slot).seen (Copy message.from n id.number c pairs)) facts.3 copy_said in
        let inside : AreInSlot id.slot (keys_of pairs) = λ key among.
        let there = arriving_are_there (was id.slot).holds n message.from id.number copied drained pairs (ap (λ (v : View Value). v.move) (was id.slot).here ∙ facts.2) next_said key among in
        valued_in_slot one id.slot key there.0 there.1 in
        let after : NodeState = record before { keyspace = keyspace; moves = with_move before.moves id.slot move } in
        let reached : id.copy ≤ copied + 1 = omega (arith, facts.3) in
        subst (λ (m : Moves). StepStands was None (record (silent (record before { keyspace = keyspace; moves = m })) { sent = (message.from, body.Slots (of_slots.Ack id)) ∷ [] }))
        (sym (ap (changed_at before.moves id.slot one_more) facts.2))
        (quiet was None refl refl (record (silent after) { sent = (message.from, body.Slots (of_slots.Ack id)) ∷ [] })
        (record { number_is = stands.number_is; slots = stands.slots; is_master = stands.is_master; rests = λ replica paused other. absurd (no_some (stands.rests replica paused id.slot) facts.2) })
        (holds_but was after one id.slot
        (copy_installed_holds (was id.slot) message.from id.number copied drained pairs keyspace facts.2 next_said (puts_here before.keyspace id.slot pairs inside))
        (λ other apart. moved_apart before keyspace id.slot move other apart (same_values (elsewhere before.keyspace keyspace id.slot other (keys_of pairs) inside apart (with_copied_apart before.keyspace pairs))))
        (λ other apart q. refl))
        (ack_justified after (copied + 1) drained (put_here before.moves.running id.slot move) reached))

  -- ---- an acknowledgement

  pub acknowledgement_stands : (id : CopyId) → message.body ≡ body.Slots (of_slots.Ack id) → (keys : Option (List (List ℕ))) → acknowledged_keys (move_of before.moves id.slot) message.from id.number id.copy ≡ keys
      → StepStands was None (acknowledged before id keys)
  acknowledgement_stands id is None counts = quiet_still was None refl refl (silent before) stands (λ other. refl) (nothing_sent past n before)
  acknowledgement_stands id is (Some keys) counts =
      let counted : move_of before.moves id.slot ≡ Some (Leaves message.from id.number id.copy (Some keys)) = ack_counts (move_of before.moves id.slot) message.from id.number id.copy keys counts in
      let move : Move = Leaves message.from id.number id.copy None in
      let keyspace : Keyspace = without before.keyspace keys in
      let frozen = frozen_here (was id.slot).holds n message.from id.number id.copy keys (ap (λ (v : View Value). v.move) (was id.slot).here ∙ counted) in
      let inside : AreInSlot id.slot keys = λ key among. let there = frozen.here key among in valued_in_slot one id.slot key there.0 ((was id.slot).holds.keys.here n key there.0 there.1) in
      let acked : IsSent (was id.slot).top (was id.slot).seen (Ack message.from n id.number id.copy) =
      subst (λ (t : ℕ). IsSent (was id.slot).top (was id.slot).seen (Ack message.from t id.number id.copy)) to_here
      (said id.slot (body.Slots (of_slots.Ack id)) (Ack message.from message.to id.number id.copy) is (refl, refl)) in
      let left : Moves → NodeState = λ m. record before { keyspace = keyspace; moves = m; connections = all_freed before.connections (is_for id) } in
      let after : NodeState = left (with_move before.moves id.slot move) in
      subst (λ (m : Moves). StepStands was None (record (silent (left m)) { released = map (release done) (waiting before.connections (is_for id)); sent = drained_since before.keyspace (left m) id.slot }))
      (sym (ap (changed_at before.moves id.slot unfrozen) counted))
      (quiet was None refl refl (record (silent after) { released = map (release done) (waiting before.connections (is_for id)); sent = drained_since before.keyspace after id.slot })
      (record { number_is = stands.number_is; slots = stands.slots; is_master = stands.is_master; rests = λ replica paused other. absurd (no_some (stands.rests replica paused id.slot) counted) })
      (holds_but was after one id.slot
      (copy_acknowledged_holds (was id.slot) message.from id.number id.copy keys keyspace counted acked (removes_here before.keyspace id.slot keys inside))
      (λ other apart. moved_apart before keyspace id.slot move other apart (same_values (elsewhere before.keyspace keyspace id.slot other keys inside apart (without_apart before.keyspace keys))))
      (λ other apart q. refl))
      (drained_since_justified past n after id.slot before.keyspace))

  -- ---- the word that a slot is drained

  pub drained_stands : (slot number epoch : ℕ) → message.body ≡ body.Slots (of_slots.Drained slot number epoch) → StepStands was None (noted before message.from slot number epoch)
  drained_stands slot number epoch is = by_move (move_of before.moves slot) refl
    where
      same_again : (move : Move) → move_of before.moves slot ≡ Some move → StepStands was None (silent (record before { moves = with_move before.moves slot move }))
      same_again move same =
          quiet_still was None refl refl (silent (record before { moves = with_move before.moves slot move })) (record { number_is = stands.number_is; slots = stands.slots; is_master = stands.is_master; rests = λ replica paused other. absurd (no_some (stands.rests replica paused slot) same) })
          (put_again before slot move same) (nothing_sent past n (record before { moves = with_move before.moves slot move }))

      by_test : (source other copied : ℕ) (known : Option ℕ) → move_of before.moves slot ≡ Some (Comes source other copied known) → (b : Bool) → (source == message.from && other == number) ≡ b
          → StepStands was None (silent (record before { moves = with_move before.moves slot (cond b (Comes source other copied (Some epoch)) (Comes source other copied known)) }))
      by_test source other copied known same false unlike = same_again (Comes source other copied known) same
      by_test source other copied known same true alike =
          let parts = and_parts (source == message.from) (other == number) alike in
          let drained_said : IsSent (was slot).top (was slot).seen (Drained source n other epoch) =
          subst (IsSent (was slot).top (was slot).seen)
          (λ i. Drained (sym (eqb-true source message.from parts.0) i) (to_here i) (sym (eqb-true other number parts.1) i) epoch)
          (said slot (body.Slots (of_slots.Drained slot number epoch)) (Drained message.from message.to number epoch) is (refl, refl)) in
          let move : Move = Comes source other copied (Some epoch) in
          let after : NodeState = record before { moves = with_move before.moves slot move } in
          quiet was None refl refl (silent after) (record { number_is = stands.number_is; slots = stands.slots; is_master = stands.is_master; rests = λ replica paused other. absurd (no_some (stands.rests replica paused slot) same) })
          (holds_but was after one slot (drained_noted_holds (was slot) source other copied known epoch same drained_said)
          (λ s apart. moved_apart before before.keyspace slot move s apart refl) (λ s apart q. refl))
          (nothing_sent past n after)

      by_move : (move : Option Move) → move_of before.moves slot ≡ move → StepStands was None (silent (record before { moves = changed_at before.moves slot (note_drained message.from number epoch) move }))
      by_move None none = quiet_still was None refl refl (silent before) stands (λ other. refl) (nothing_sent past n before)
      by_move (Some (Leaves to other copies frozen)) same = same_again (Leaves to other copies frozen) same
      by_move (Some (Comes source other copied known)) same = by_test source other copied known same (source == message.from && other == number) refl

  -- ---- claims

  none_either : (b : Bool) (move : Option Move) → move ≡ None → cond b move None ≡ None
  none_either true move is = is
  none_either false move is = refl

  pub claims_stand : (runs : List (Run ℕ)) (replaced : Option Replaced) → message.body ≡ body.Slots (of_slots.Claim runs replaced) → StepStands was None (claim before message.from runs)
  claims_stand runs replaced is = by_sender (message.from == before.number) refl
    where
      by_sender : (b : Bool) → (message.from == before.number) ≡ b → StepStands was None (cond b (silent before) (claimed_by before (merged before.table runs message.from)))
      by_sender true own = quiet_still was None refl refl (silent before) stands (λ other. refl) (nothing_sent past n before)
      by_sender false other =
          quiet was None refl refl (claimed_by before (merged before.table runs message.from))
          (record {
            number_is = stands.number_is;
            slots = length_merged before.table runs message.from;
            is_master = stands.is_master;
            rests = λ replica paused slot. move_left before (merged before.table runs message.from) slot ∙ none_either _ (move_of before.moves slot) (stands.rests replica paused slot);
          })
          (λ slot.
          claims_hold (was slot) runs message.from (λ same. eqb-false message.from before.number other (same ∙ sym stands.number_is)) stands.number_is stands.slots
          (λ epoch claims. said slot (body.Slots (of_slots.Claim runs replaced)) (Claimed message.from epoch) is (epoch, claims, refl)))
          (nothing_sent past n (with_table before (merged before.table runs message.from)))

  -- ---- streams

  sync_stands : (from : ℕ) (answer : SyncAnswer) → StepStands was None (record (silent before) { sent = sync_answer before from answer })
  sync_stands from answers.UpToDate = quiet_still was None refl refl (silent before) stands (λ slot. refl) (nothing_sent past n before)
  sync_stands from (answers.Piece piece) =
      quiet_still was None refl refl (record (silent before) { sent = sync_answer before from (answers.Piece piece) }) stands (λ slot. refl) (one_justified past n before from (body.Stream (of_stream.Piece piece)) tt)
  sync_stands from answers.Snapshot =
      quiet_still was None refl refl (record (silent before) { sent = sync_answer before from answers.Snapshot }) stands (λ slot. refl) (one_justified past n before from _ tt)

  synced_stands : (from : ℕ) (sync : Sync) (b : Bool) → StepStands was None (cond b (silent before) (record (silent before) { sent = sync_answer before from (answer_to before.stream sync) }))
  synced_stands from sync true = quiet_still was None refl refl (silent before) stands (λ slot. refl) (nothing_sent past n before)
  synced_stands from sync false = sync_stands from (answer_to before.stream sync)

  -- a master follows nobody
  not_followed : (after : NodeState) (b : Bool) → b ≡ false → StepStands was None (silent (cond b after before))
  not_followed after false is = quiet_still was None refl refl (silent before) stands (λ slot. refl) (nothing_sent past n before)
  not_followed after true is = absurd (both_ways true is refl)

  -- ---- votes

  vote_stands : (request : VoteRequest) (granted : Bool) → StepStands was None (voting before request granted)
  vote_stands request granted =
      quiet_still was None refl refl (voting before request granted) (record { number_is = stands.number_is; slots = stands.slots; is_master = stands.is_master; rests = stands.rests }) (λ slot. refl) (grant granted)
    where
      grant : (granted : Bool) → AreJustified past n before (grant_to request granted)
      grant true = one_justified past n before request.candidate (body.Election (of_election.Grant request.epoch)) tt
      grant false = nothing_sent past n before

  -- a master takes nobody's place
  counting_stands : (candidate : Candidate) → StepStands was None (silent (record before { candidate = candidate }))
  counting_stands candidate =
      quiet_still was None refl refl (silent (record before { candidate = candidate })) (record { number_is = stands.number_is; slots = stands.slots; is_master = stands.is_master; rests = stands.rests }) (λ slot. refl)
      (nothing_sent past n before)

  grant_stands : (candidate : Candidate) (won : Option Elected) → StepStands was None (if_elected (record before { candidate = candidate }) won)
  grant_stands candidate None = counting_stands candidate
  grant_stands candidate (Some won) = by_plan candidate.planned
    where
      handed : (master : Option ℕ) (told : Option Handing) → is_some master ≡ false → StepStands was None (handed_promotion (record before { candidate = candidate }) won.epoch master told)
      handed None told is = counting_stands candidate
      handed (Some master) told is = absurd (both_ways true is refl)

      by_master : (master : Option ℕ) → is_some master ≡ false → StepStands was None (promotion (record before { candidate = candidate }) won.epoch master)
      by_master None is = counting_stands candidate
      by_master (Some master) is = absurd (both_ways true is refl)

      by_plan : (planned : Bool)
          → StepStands was None (cond planned (handed_promotion (record before { candidate = candidate }) won.epoch (own_master before) before.handover.note) (promotion (record before { candidate = candidate }) won.epoch (own_master before)))
      by_plan true = handed (own_master before) before.handover.note stands.is_master
      by_plan false = by_master (own_master before) stands.is_master

  -- ---- handovers

  no_moves : (from : ℕ) (stream : StreamId) → may_pause before from stream ≡ true → (slot : ℕ) → move_of before.moves slot ≡ None
  no_moves from stream may slot =
      let four = and_parts (not (is_replica before) && is_just (slice_index_or before.masters from None) before.number && is_same stream before.stream.held.id && fin_map.len before.moves.running == 0) (is_free_for before.paused from) may in
      let three = and_parts (not (is_replica before) && is_just (slice_index_or before.masters from None) before.number && is_same stream before.stream.held.id) (fin_map.len before.moves.running == 0) four.0 in
      ap (λ (m : fin_map.FinMap nat_cmp Move). fin_map.get m slot) (fin_map.empty_of_len before.moves.running (eqb-true (fin_map.len before.moves.running) 0 three.1)) ∙ fin_map.get-empty nat_cmp slot

  handed_again_said : (replica : Option ℕ) (slots : List (Run ℕ)) → AreJustified past n before (handed_again before replica slots)
  handed_again_said None slots = nothing_sent past n before
  handed_again_said (Some replica) [] = nothing_sent past n before
  handed_again_said (Some replica) (run ∷ slots) = one_justified past n before replica (body.Election (of_election.Paused (handing_of before))) tt

  handed_said : (replica : ℕ) (paused : Option ℕ) → AreJustified past n before (handed_to before replica paused)
  handed_said replica None = one_justified past n before replica (body.Election (of_election.Paused (handing_of before))) tt
  handed_said replica (Some other) = handed_again_said (Some replica) (claim_of before)

  pause_stands : (from : ℕ) (stream : StreamId) → StepStands was None (asked_to_pause before from stream)
  pause_stands from stream = by_test (may_pause before from stream) refl
    where
      by_test : (b : Bool) → may_pause before from stream ≡ b → StepStands was None (cond b (handing_over before from) (silent before))
      by_test true may =
          quiet_still was None refl refl (handing_over before from)
          (record { number_is = stands.number_is; slots = stands.slots; is_master = stands.is_master; rests = λ replica paused slot. no_moves from stream may slot })
          (λ slot. refl) (handed_said from before.paused)
      by_test false may = quiet_still was None refl refl (silent before) stands (λ slot. refl) (nothing_sent past n before)

  -- ---- any message

  so_taken_stands : (choice : Choice) (said : Body) → message.body ≡ said → StepStands was None (taken_so before message.from choice said)
  so_taken_stands choice (body.Slots (of_slots.Copy id pairs)) is =
      arrival_stands id pairs is (arrival_verdict (move_of before.moves id.slot) message.from id.number id.copy (keep_limits pairs)) refl
  so_taken_stands choice (body.Slots (of_slots.Ack id)) is = acknowledgement_stands id is (acknowledged_keys (move_of before.moves id.slot) message.from id.number id.copy) refl
  so_taken_stands choice (body.Slots (of_slots.Drained slot number epoch)) is = drained_stands slot number epoch is
  so_taken_stands choice (body.Slots (of_slots.Claim runs replaced)) is = claims_stand runs replaced is
  so_taken_stands choice (body.Report suspects) is = quiet_still was None refl refl (silent before) stands (λ slot. refl) (nothing_sent past n before)
  so_taken_stands choice (body.Election (of_election.Candidacy request)) is =
      vote_stands (request_of message.from request) (may_grant before.voter (members_of before) before.health before.current_epoch (request_of message.from request))
  so_taken_stands choice (body.Election (of_election.Grant epoch)) is = grant_stands (counted before.candidate (members_of before) message.from epoch) (elected before.candidate (members_of before) message.from epoch)
  so_taken_stands choice (body.Stream (of_stream.Sync sync)) is = synced_stands message.from sync (is_replica before)
  so_taken_stands choice (body.Stream (of_stream.Piece piece)) is = not_followed _ (is_just (own_master before) message.from) (no_messages_from_master (own_master before) message.from stands.is_master)
  so_taken_stands choice (body.Stream (of_stream.Snapshot snapshot)) is = not_followed _ (is_just (own_master before) message.from) (no_messages_from_master (own_master before) message.from stands.is_master)
  so_taken_stands choice (body.Election (of_election.Pause stream)) is = pause_stands message.from stream
  so_taken_stands choice (body.Election (of_election.Paused handing)) is = not_followed _ (is_replica before && is_same handing.stream before.stream.held.id) (ap (λ (b : Bool). b && is_same handing.stream before.stream.held.id) stands.is_master)

  pub taken_stands : (choice : Choice) → StepStands was None (taken before message.from choice message.body)
  taken_stands choice =
      with_written_stands was None (taken_so before message.from choice message.body) (written_by_message before message.from message.body) choice.dropped (so_taken_stands choice message.body refl)

module _ {past : List Entry} {n : ℕ} {before : NodeState} {one : Keyspace} (was : (slot : ℕ) → SlotWas past n before one slot) (stands : NodeStands n before) where
  pub delivered_stands : (message : Message) (choice : Choice) → Contains (sent_by past) message → StepStands was None (delivered before message choice)
  delivered_stands message choice sent = by_target (message.to == before.number) refl
    where
      by_target : (b : Bool) → (message.to == before.number) ≡ b → StepStands was None (cond b (taken (ready before message) message.from choice message.body) (silent before))
      by_target false other = quiet_still was None refl refl (silent before) stands (λ slot. refl) (nothing_sent past n before)
      by_target true mine =
          ready_keeps (λ (node : NodeState). StepStands was None (taken node message.from choice message.body)) before message (λ epoch masters health candidate handover role election.
          let node : NodeState = record before { current_epoch = epoch; masters = masters; health = health; candidate = candidate; handover = handover } in
          let inner = taken_stands (λ slot. again (was slot) node refl) (record { number_is = stands.number_is; slots = stands.slots; is_master = role ∙ stands.is_master; rests = stands.rests }) message sent
          (eqb-true message.to before.number mine ∙ stands.number_is) choice in
          record { node = inner.node; holds = inner.holds; sent = inner.sent; told = inner.told; replies = inner.replies })

  -- ---- a tick

  pub tick_stands : StepStands was None (tick before)
  tick_stands =
      in_election_keeps (λ (node : NodeState). StepStands was None (record (slots_tick before) { sent = (tick before).sent; state = node })) aged (due_epoch aged) (λ current candidate handover.
      quiet_still was None refl refl (record (slots_tick before) { sent = (tick before).sent; state = record aged { current_epoch = current; candidate = candidate; handover = handover } })
      (record { number_is = stands.number_is; slots = stands.slots; is_master = stands.is_master; rests = stands.rests }) (λ slot. refl) sent)
    where
      aged : NodeState
      aged = a_tick_older (older before)

      by_move : (slot : ℕ) (move : Move) → move_of before.moves slot ≡ Some move → AreJustified past n (older before) (sent_again before (slot, move))
      by_move slot (Comes from number last drained) is = λ to said among. absurd (contains_nothing (to, said) among)
      by_move slot (Leaves to number copies None) is = drained_if_empty_justified past n (older before) slot
      by_move slot (Leaves to number copies (Some keys)) is = outstanding_justified past n (older before) slot (Some (Leaves to number copies (Some keys))) is

      sent_of_moves : AreJustified past n before (flat_map (sent_again before) (fin_map.entries before.moves.running))
      sent_of_moves to said among =
          let found = from_flat_map (sent_again before) (fin_map.entries before.moves.running) (to, said) among in
          by_move found.0.0 found.0.1 (got_from_entry before.moves.running found.0.0 found.0.1 found.1) to said found.2

      claims : AreJustified past n before (to_all (others before) (body.Slots (of_slots.Claim (claim_of before) before.replaced)))
      claims = to_all_justified past n before (others before) (body.Slots (of_slots.Claim (claim_of before) before.replaced)) (λ to.
          subst (λ (number : ℕ). IsJustified past n before to (body.Slots (of_slots.Claim (runs_of (claim_at before.table number)) before.replaced))) (sym stands.number_is)
          (claim_justified past n before to before.replaced stands.slots))

      reports : AreJustified past n before (to_all (others before) (body.Report (suspected aged.health (members_of before))))
      reports = to_all_justified past n before (others before) (body.Report (suspected aged.health (members_of before))) (λ to. tt)

      sync : (master : Option ℕ) → AreJustified past n before (sync_to before.stream master)
      sync None = nothing_sent past n before
      sync (Some master) = one_justified past n before master _ tt

      requests : (epoch master : Option ℕ) → AreJustified past n before (requests_in aged epoch master)
      requests None master = nothing_sent past n before
      requests (Some epoch) None = nothing_sent past n before
      requests (Some epoch) (Some master) = to_all_justified past n before (voters_of aged) _ (λ to. tt)

      asks : (asked : Bool) (master : Option ℕ) → AreJustified past n before (asked_again asked before.stream.held.id master)
      asks true (Some master) = one_justified past n before master _ tt
      asks true None = nothing_sent past n before
      asks false master = nothing_sent past n before

      hands : (replica : Option ℕ) (slots : List (Run ℕ)) → AreJustified past n before (handed_again before replica slots)
      hands None slots = nothing_sent past n before
      hands (Some replica) [] = nothing_sent past n before
      hands (Some replica) (run ∷ slots) = one_justified past n before replica (body.Election (of_election.Paused (handing_of before))) tt

      sent : AreJustified past n before (tick before).sent
      sent =
          both_justified past n before _ _
          (both_justified past n before _ _
          (both_justified past n before _ _
          (both_justified past n before _ _ (both_justified past n before _ _ sent_of_moves (both_justified past n before _ _ claims reports)) (sync (own_master before)))
          (asks before.handover.asked (own_master before)))
          (hands before.paused (claim_of before)))
          (requests (due_epoch aged) (own_master before))
