-- What each step of a node leaves of all streams.
use Rattle.std.proofs.Common.{◌≡◌, ◌≢◌, ◌⊎◌, ◌==◌, ◌&&◌, ◌≤◌, ◌+◌, arith, length, ℕ, Bool, true, false, cond, List, [], ◌∷◌, Option, Some, None, refl, sym, ap, subst, ◌∙◌, inl, inr, append-nil}
use Rattle.std.proofs.lemmas.Bool.{both_ways}
use Rattle.std.specs.Prelude.{All, is_some, ⊤}
use Rattle.bus.specs.Follower.{Follower}
use Rattle.bus.specs.Piece.{PieceVerdict, PieceView, TakesBy, verdict_on}
use Rattle.bus.specs.Piece.PieceVerdict.{Gap, OtherStream, Takes}
use Rattle.bus.specs.Snapshot.{restored}
use Rattle.bus.specs.Stream.{StreamView, end_of, is_same, promoted as going_on, written}
use Rattle.bus.specs.Syncing.{answer_to}
use Rattle.bus.specs.declared.message.Body.{Body}
use Rattle.bus.specs.declared.bodies.ElectionBody.TheVariants as of_election
use Rattle.bus.specs.declared.bodies.SlotsBody.TheVariants as of_slots
use Rattle.bus.specs.declared.bodies.StreamBody.TheVariants as of_stream
use Rattle.bus.specs.declared.message.Body.TheVariants as body
use Rattle.bus.specs.declared.bodies.Handing.{Handing}
use Rattle.bus.specs.declared.message.Message.{Message}
use Rattle.bus.specs.declared.snapshot.Snapshot.{Snapshot as Whole}
use Rattle.bus.specs.declared.stream_id.StreamId.{StreamId}
use Rattle.bus.specs.declared.sync.Sync.{Sync}
use Rattle.command_table.specs.Table.{command_of}
use Rattle.connections.specs.Connections.{connection_at}
use Rattle.connections.specs.declared.conn.Conn.{Conn}
use Rattle.election.specs.Electing.{counted, elected}
use Rattle.election.specs.Failing.{suspected}
use Rattle.election.specs.Health.{Candidate}
use Rattle.election.specs.Voting.{may_grant}
use Rattle.election.specs.declared.running.Elected.{Elected}
use Rattle.election.specs.declared.voter.VoteRequest.{VoteRequest}
use Rattle.resp2.specs.Stream.{stream_spelling}
use Rattle.resp_values.specs.Request.{IsRequest}
use Rattle.slot_table.specs.declared.entry.SlotEntry.{SlotEntry}
use Rattle.slot_table.specs.declared.runs.Run.{Run}
use Rattle.true_streams.proofs.Following.{IsOn, follows, is_on}
use Rattle.true_streams.proofs.Laws.{stay_on}
use Rattle.true_streams.specs.Full.{FullStreams, IsTruePiece, IsTrueSnapshot}
use Rattle.true_streams.specs.Meeting.Arrival.{Offered, Restoring}
use Rattle.node_step.proofs.OfSlots.{AreAll, IsOfSlots, acknowledgement_is_of_slots, all_of_both, all_of_none, all_of_one, all_to_all, arrival_is_of_slots, claim_is_of_slots, request_is_of_slots, sent_again_are}
use Rattle.node_step.proofs.Ready.{in_election_keeps, ready_keeps, succeeded_ends}
use Rattle.node_step.specs.Failing.{a_tick_older, members_of}
use Rattle.node_step.specs.Messages.{Choice, MayChoose, delivered, ready, taken, written_by_message}
use Rattle.node_step.specs.Orders.{claim_of, others}
use Rattle.node_step.specs.Outcome.{Outcome, silent}
use Rattle.node_step.specs.Handovers.{asked_again, asked_to_pause, handed_again, handed_to, handing_of, handing_over, is_at_end, may_pause, noting, told_of_handing}
use Rattle.node_step.specs.Promotion.{handed_promotion, promotion, promotion_to, table_handed, table_of_master}
use Rattle.node_step.specs.Replicas.{MayFollow, follower_of, sync_answer, sync_to, with_follower, with_piece}
use Rattle.node_step.specs.Requests.{request_outcome, using_up}
use Rattle.node_step.specs.Roles.{is_just, replicas_of}
use Rattle.node_step.specs.State.{NodeState, is_replica, own_master}
use Rattle.node_step.specs.Step.{IsAnswering, written as written_at}
use Rattle.node_step.specs.Streams.{MayGiveUp, Requests, with_written}
use Rattle.node_step.specs.Ticks.{older, slots_tick, tick}
use Rattle.node_step.specs.Voting.{due_epoch, grant_to, if_elected, request_of, requests_in, voters_of, voting}
use Rattle.node_step.specs.declared.promotion.Promotion.{Promotion}
use Rattle.promoted_prefix.proofs.Frozen.{HasShortFrozen}
use Rattle.promoted_prefix.proofs.Growing.{Grows, IsSound, longer_apart, longer_grows, longer_nothing, said_more}
use Rattle.promoted_prefix.proofs.Limits.{message_writes, on_can, request_writes}
use Rattle.promoted_prefix.proofs.Rows.{Leaves, acknowledgement_leaves, arrival_leaves, claim_leaves, request_leaves}
use Rattle.promoted_prefix.proofs.Slotless.{IsSlotless, Stays, acknowledgement_stays, arrival_stays, claim_stays, noted_stays, request_stays, same_node}
use Rattle.promoted_prefix.proofs.Stored.{CanBeMade, IsLeft}
use Rattle.promoted_prefix.proofs.Whole.{HasWhole, answer_true, promotion_apart, promotion_goes_on, promotion_grows, promotion_whole, written_piece, written_whole}
use Rattle.promoted_prefix.specs.Law.{BeginsSo}
use Rattle.promoted_prefix.specs.Written.{begun_from, longer}

-- ---- nodes

-- a master has the whole of a stream of its own
pub record IsMaster (full : FullStreams) (n : ℕ) (node : NodeState) : Type 0 where
  pub number : node.number ≡ n
  pub role : is_replica node ≡ false
  pub has : HasWhole full n (follower_of node)

-- a replica follows the stream that it names, and nobody has written to one of its own
pub record IsReplica (full : FullStreams) (n : ℕ) (node : NodeState) : Type 0 where
  pub slotless : IsSlotless n node
  pub on : IsOn (full node.stream.held.id) (follower_of node)
  pub fresh : (epoch : ℕ) → full (record { node = n; epoch = epoch }) ≡ []

abbrev pub NodeStands : FullStreams → ℕ → NodeState → Type 0
NodeStands full n node = IsMaster full n node ⊎ IsReplica full n node

-- ---- a step

-- the streams after a step that writes these requests to that stream, or promotes the node
abbrev pub streams_by : FullStreams → StreamId → ℕ → Requests → Option Promotion → FullStreams
streams_by full id number requests None = longer full id (stream_spelling requests)
streams_by full id number requests (Some promotion) = begun_from full promotion (record { node = number; epoch = promotion.epoch })

-- they grow, at streams of the node alone; the node has or follows one of them; what it says is true; and what a promotion begins from
pub record StepStands (full more : FullStreams) (n : ℕ) (outcome : Outcome) : Type 0 where
  pub grows : Grows full more
  pub apart : (id : StreamId) → id.node ≢ n → more id ≡ full id
  pub node : NodeStands more n outcome.state
  pub sent : AreAll (IsSound more) outcome.sent
  pub begins : BeginsSo full outcome.state outcome.promoted

slots_sound : (full : FullStreams) (own : NodeState) → CanBeMade own.keyspace → (said : Body) → IsOfSlots own said → IsSound full said
slots_sound full own can (body.Slots (of_slots.Copy id pairs)) of = λ key value among. subst (IsLeft key) (of key value among) (can key)
slots_sound full own can (body.Slots (of_slots.Ack id)) of = tt
slots_sound full own can (body.Slots (of_slots.Drained slot number epoch)) of = tt
slots_sound full own can (body.Slots (of_slots.Claim slots replaced)) of = tt
slots_sound full own can (body.Report suspects) of = absurd of
slots_sound full own can (body.Election (of_election.Candidacy request)) of = absurd of
slots_sound full own can (body.Election (of_election.Grant epoch)) of = absurd of
slots_sound full own can (body.Stream (of_stream.Sync sync)) of = absurd of
slots_sound full own can (body.Stream (of_stream.Piece piece)) of = absurd of
slots_sound full own can (body.Stream (of_stream.Snapshot snapshot)) of = absurd of
slots_sound full own can (body.Election (of_election.Pause stream)) of = tt
slots_sound full own can (body.Election (of_election.Paused handing)) of = absurd of

all_sound : (full : FullStreams) (own : NodeState) → CanBeMade own.keyspace → (sent : List (ℕ × Body)) → AreAll (IsOfSlots own) sent → AreAll (IsSound full) sent
all_sound full own can sent are to said among = slots_sound full own can said (are to said among)

-- each key of a node can be made again
pub node_can : (full : FullStreams) (n : ℕ) (node : NodeState) → NodeStands full n node → CanBeMade node.keyspace
node_can full n node (inl master) = on_can (full node.stream.held.id) (follower_of node) master.has.on
node_can full n node (inr replica) = on_can (full node.stream.held.id) (follower_of node) replica.on

same_streams : (full : FullStreams) → Grows full full
same_streams full = record { rest = λ id. []; is = λ id. sym (append-nil (full id)) }

module _ (full : FullStreams) (n : ℕ) (node : NodeState) where
  abbrev id : StreamId
  id = node.stream.held.id

  abbrev pub StandsBy : Requests → Outcome → Type 0
  StandsBy requests outcome = StepStands full (streams_by full id node.number requests outcome.promoted) n outcome

  by_none : (requests : Requests) (outcome : Outcome) → outcome.promoted ≡ None → StepStands full (longer full id (stream_spelling requests)) n outcome → StandsBy requests outcome
  by_none requests outcome none step = subst (λ (o : Option Promotion). StepStands full (streams_by full id node.number requests o) n outcome) (sym none) step

  begins_nothing : (outcome : Outcome) → outcome.promoted ≡ None → BeginsSo full outcome.state outcome.promoted
  begins_nothing outcome none = subst (BeginsSo full outcome.state) (sym none) tt

  -- nothing is written
  unwritten : (outcome : Outcome) → outcome.promoted ≡ None → NodeStands full n outcome.state → AreAll (IsSound full) outcome.sent → StandsBy [] outcome
  unwritten outcome none stands sent =
      by_none [] outcome none
      (subst (λ (more : FullStreams). StepStands full more n outcome) (sym (longer_nothing full id))
      (record { grows = same_streams full; apart = λ other apart. refl; node = stands; sent = sent; begins = begins_nothing outcome none }))

  -- a master writes
  master_writes : IsMaster full n node → (requests : Requests) (outcome : Outcome) → outcome.promoted ≡ None → Leaves node requests outcome → AreAll (IsSound full) outcome.sent → All IsRequest requests
      → (dropped : ℕ) → MayGiveUp node requests dropped → StandsBy requests (with_written outcome requests dropped)
  master_writes master [] outcome none leaves sent are dropped within =
      unwritten outcome none
      (inl (record {
        number = leaves.number ∙ master.number;
        role = leaves.role ∙ master.role;
        has = subst (HasWhole full n) (λ i. record { stream = sym leaves.stream i; keyspace = sym leaves.keyspace i }) master.has;
      })) sent
  master_writes master (request ∷ requests) outcome none leaves sent are dropped within =
      let all : Requests = request ∷ requests in
      let bytes : List ℕ = stream_spelling all in
      let more : FullStreams = longer full id bytes in
      let few : dropped ≤ length node.stream.held.bytes + length bytes = omega (arith, within) in
      by_none all (with_written outcome all dropped) none
      (record {
        grows = longer_grows full id bytes;
        apart = λ other apart. longer_apart full id bytes other (λ same. apart (same ∙ master.has.own));
        node = inl (record {
          number = leaves.number ∙ master.number;
          role = leaves.role ∙ master.role;
          has = subst (HasWhole more n) (λ i. record { stream = written dropped bytes (sym leaves.stream i); keyspace = sym leaves.keyspace i })
              (written_whole full n (follower_of node) master.has all are dropped few);
        });
        sent = all_of_both (IsSound more) outcome.sent _ (λ to said among. said_more full more (longer_grows full id bytes) said (sent to said among))
            (all_to_all (IsSound more) (replicas_of outcome.state.masters outcome.state.number) _
            (subst (λ (stream : StreamView). IsTruePiece more (record { stream = stream.held.id; from = end_of stream.held; bytes = bytes; base = stream.former })) (sym leaves.stream)
            (written_piece full n (follower_of node) master.has all are dropped few)));
        begins = begins_nothing (with_written outcome all dropped) none;
      })

  replica_after : IsReplica full n node → (outcome : Outcome) → Leaves node [] outcome → IsSlotless n outcome.state → NodeStands full n outcome.state
  replica_after replica outcome leaves slotless =
      let same : follower_of outcome.state ≡ follower_of node = λ i. record { stream = leaves.stream i; keyspace = leaves.keyspace i } in
      inr (record {
        slotless = slotless;
        on = subst (λ (f : Follower). IsOn (full f.stream.held.id) f) (sym same) replica.on;
        fresh = replica.fresh;
      })

  -- a replica doesn't
  replica_writes : IsReplica full n node → (requests : Requests) (outcome : Outcome) → outcome.promoted ≡ None → Leaves node requests outcome → Stays n requests outcome → AreAll (IsSound full) outcome.sent
      → (dropped : ℕ) → StandsBy requests (with_written outcome requests dropped)
  replica_writes replica requests outcome none leaves stays sent dropped =
      subst (λ (r : Requests). StandsBy r (with_written outcome r dropped)) (sym stays.nothing)
      (unwritten outcome none (replica_after replica outcome (subst (λ (r : Requests). Leaves node r outcome) stays.nothing leaves) stays.node) sent)

  -- either of them
  node_writes : NodeStands full n node → (requests : Requests) (outcome : Outcome) → outcome.promoted ≡ None → Leaves node requests outcome → (IsSlotless n node → Stays n requests outcome) → AreAll (IsSound full) outcome.sent
      → All IsRequest requests → (dropped : ℕ) → MayGiveUp node requests dropped → StandsBy requests (with_written outcome requests dropped)
  node_writes (inl master) requests outcome none leaves stays sent are dropped within = master_writes master requests outcome none leaves sent are dropped within
  node_writes (inr replica) requests outcome none leaves stays sent are dropped within = replica_writes replica requests outcome none leaves (stays replica.slotless) sent dropped

  -- and nothing is written
  node_stays : NodeStands full n node → (outcome : Outcome) → outcome.promoted ≡ None → Leaves node [] outcome → (IsSlotless n node → IsSlotless n outcome.state) → AreAll (IsSound full) outcome.sent → StandsBy [] outcome
  node_stays (inl master) outcome none leaves stays sent =
      unwritten outcome none
      (inl (record {
        number = leaves.number ∙ master.number;
        role = leaves.role ∙ master.role;
        has = subst (HasWhole full n) (λ i. record { stream = sym leaves.stream i; keyspace = sym leaves.keyspace i }) master.has;
      })) sent
  node_stays (inr replica) outcome none leaves stays sent = unwritten outcome none (replica_after replica outcome leaves (stays replica.slotless)) sent

  -- ---- votes

  grant_said : (request : VoteRequest) (granted : Bool) → AreAll (IsSound full) (grant_to request granted)
  grant_said request true = all_of_one (IsSound full) request.candidate (body.Election (of_election.Grant request.epoch)) tt
  grant_said request false = all_of_none (IsSound full)

  vote_stands : NodeStands full n node → (request : VoteRequest) (granted : Bool) → StandsBy [] (voting node request granted)
  vote_stands stands request granted =
      node_stays stands (voting node request granted) refl (record { number = refl; role = refl; stream = refl; keyspace = refl }) (λ slotless. same_node n node slotless _ refl refl refl refl) (grant_said request granted)

  counting_stands : NodeStands full n node → (candidate : Candidate) → StandsBy [] (silent (record node { candidate = candidate }))
  counting_stands stands candidate =
      node_stays stands (silent (record node { candidate = candidate })) refl (record { number = refl; role = refl; stream = refl; keyspace = refl }) (λ slotless. same_node n node slotless _ refl refl refl refl) (all_of_none (IsSound full))

  -- a replica is promoted, and a master never
  promoted_stands : NodeStands full n node → (candidate : Candidate) (epoch : ℕ) (planned : Bool) (table : List (Option SlotEntry)) (master : ℕ) → own_master node ≡ Some master
      → StandsBy [] (promotion_to (record node { candidate = candidate }) master epoch planned table)
  promoted_stands (inl is_master) candidate epoch planned table master own = absurd (both_ways (is_replica node) is_master.role (ap is_some own))
  promoted_stands (inr replica) candidate epoch planned table master own =
      let counting : NodeState = record node { candidate = candidate } in
      let outcome : Outcome = promotion_to counting master epoch planned table in
      let more : FullStreams = begun_from full (record { stream = id; offset = node.stream.offset; epoch = epoch; planned = planned }) (record { node = n; epoch = epoch }) in
      subst (λ (number : ℕ). StepStands full (begun_from full (record { stream = id; offset = node.stream.offset; epoch = epoch; planned = planned }) (record { node = number; epoch = epoch })) n outcome) (sym replica.slotless.number)
      (record {
        grows = promotion_grows full (follower_of node) replica.on n epoch (replica.fresh epoch);
        apart = promotion_apart full (follower_of node) replica.on n epoch (replica.fresh epoch);
        node = inl (record {
          number = replica.slotless.number;
          role = ap is_some (succeeded_ends node.masters master node.number);
          has = subst (λ (number : ℕ). HasWhole more n (record { stream = going_on (record { node = number; epoch = epoch }) node.stream; keyspace = node.keyspace })) (sym replica.slotless.number)
              (promotion_whole full (follower_of node) replica.on n epoch (replica.fresh epoch));
        });
        sent = all_to_all (IsSound more) (others counting) _ tt;
        begins = subst (λ (number : ℕ). BeginsSo full (record outcome.state { stream = going_on (record { node = number; epoch = epoch }) node.stream }) outcome.promoted) (sym replica.slotless.number)
            (promotion_goes_on full (follower_of node) replica.on n epoch (replica.fresh epoch) _ refl refl);
      })

  voted_stands : NodeStands full n node → (candidate : Candidate) (won : Option Elected) → StandsBy [] (if_elected (record node { candidate = candidate }) won)
  voted_stands stands candidate None = counting_stands stands candidate
  voted_stands stands candidate (Some won) = by_plan candidate.planned
    where
      failed : (master : Option ℕ) → own_master node ≡ master → StandsBy [] (promotion (record node { candidate = candidate }) won.epoch master)
      failed None own = counting_stands stands candidate
      failed (Some master) own = promoted_stands stands candidate won.epoch false (table_of_master node master won.epoch) master own

      handed : (master : Option ℕ) (said : Option Handing) → own_master node ≡ master → StandsBy [] (handed_promotion (record node { candidate = candidate }) won.epoch master said)
      handed None said own = counting_stands stands candidate
      handed (Some master) None own = counting_stands stands candidate
      handed (Some master) (Some handing) own = by_place (is_at_end node.stream (Some handing))
        where
          by_place : (b : Bool) → StandsBy [] (cond b (promotion_to (record node { candidate = candidate }) master won.epoch true (table_handed node handing.slots won.epoch)) (silent (record node { candidate = candidate })))
          by_place true = promoted_stands stands candidate won.epoch true (table_handed node handing.slots won.epoch) master own
          by_place false = counting_stands stands candidate

      by_plan : (planned : Bool) → StandsBy [] (cond planned (handed_promotion (record node { candidate = candidate }) won.epoch (own_master node) node.handover.note) (promotion (record node { candidate = candidate }) won.epoch (own_master node)))
      by_plan true = handed (own_master node) node.handover.note refl
      by_plan false = failed (own_master node) refl

  -- ---- streams

  follower_after : IsReplica full n node → (follower : Follower) → IsOn (full follower.stream.held.id) follower → NodeStands full n (with_follower node follower)
  follower_after replica follower on = inr (record { slotless = same_node n node replica.slotless _ refl refl refl refl; on = on; fresh = replica.fresh })

  -- a replica takes a piece, if it takes it
  piece_taken : IsReplica full n node → (piece : PieceView) → IsTruePiece full piece → (follower : Follower) → MayFollow node piece follower → (verdict : PieceVerdict) → verdict_on node.stream piece ≡ verdict
      → NodeStands full n (with_piece node follower verdict)
  piece_taken replica piece is_true follower may Gap is = inr replica
  piece_taken replica piece is_true follower may OtherStream is = inr replica
  piece_taken replica piece is_true follower may (Takes place) is =
      follower_after replica follower
      (is_on (full follower.stream.held.id) follower
      (stay_on full (follower_of node) (Offered piece) follower (follows (full id) (follower_of node) replica.on) is_true
      (inl (subst (λ (v : PieceVerdict). TakesBy v (follower_of node) piece follower) (sym is) (may place is)))))

  snapshot_taken : IsReplica full n node → (snapshot : Whole) → IsTrueSnapshot full snapshot → NodeStands full n (with_follower node (restored snapshot (follower_of node)))
  snapshot_taken replica snapshot is_true =
      follower_after replica (restored snapshot (follower_of node))
      (is_on _ (restored snapshot (follower_of node))
      (stay_on full (follower_of node) (Restoring snapshot) (restored snapshot (follower_of node)) (follows (full id) (follower_of node) replica.on) is_true (inl refl)))

  -- a master has no master
  from_nobody : (master : Option ℕ) (from : ℕ) → is_some master ≡ false → is_just master from ≡ true → ⊥
  from_nobody None from none is = both_ways false refl is
  from_nobody (Some m) from none is = both_ways true none refl

  if_followed : NodeStands full n node → (after : NodeState) (from : ℕ) (own : Bool) → is_just (own_master node) from ≡ own → (IsReplica full n node → is_just (own_master node) from ≡ true → NodeStands full n after)
      → NodeStands full n (cond own after node)
  if_followed stands after from false is taken = stands
  if_followed (inl master) after from true is taken = absurd (from_nobody (own_master node) from master.role is)
  if_followed (inr replica) after from true is taken = taken replica is

  silent_stands : (after : NodeState) → NodeStands full n after → StandsBy [] (silent after)
  silent_stands after stands = unwritten (silent after) refl stands (all_of_none (IsSound full))

  synced_stands : NodeStands full n node → (from : ℕ) (sync : Sync) → StandsBy [] (cond (is_replica node) (silent node) (record (silent node) { sent = sync_answer node from (answer_to node.stream sync) }))
  synced_stands (inl master) from sync =
      subst (λ (b : Bool). StandsBy [] (cond b (silent node) (record (silent node) { sent = sync_answer node from (answer_to node.stream sync) }))) (sym master.role)
      (unwritten (record (silent node) { sent = sync_answer node from (answer_to node.stream sync) }) refl (inl master) (answer_true full n node master.has from sync))
  synced_stands (inr replica) from sync =
      subst (λ (b : Bool). StandsBy [] (cond b (silent node) (record (silent node) { sent = sync_answer node from (answer_to node.stream sync) }))) (sym replica.slotless.role) (silent_stands node (inr replica))

  -- ---- handovers

  paused_again_said : (replica : Option ℕ) (slots : List (Run ℕ)) → AreAll (IsSound full) (handed_again node replica slots)
  paused_again_said None slots = all_of_none (IsSound full)
  paused_again_said (Some replica) [] = all_of_none (IsSound full)
  paused_again_said (Some replica) (run ∷ slots) = all_of_one (IsSound full) replica (body.Election (of_election.Paused (handing_of node))) tt

  handed_said : (replica : ℕ) (paused : Option ℕ) → AreAll (IsSound full) (handed_to node replica paused)
  handed_said replica None = all_of_one (IsSound full) replica (body.Election (of_election.Paused (handing_of node))) tt
  handed_said replica (Some other) = paused_again_said (Some replica) (claim_of node)

  pause_stands : NodeStands full n node → (from : ℕ) (stream : StreamId) → StandsBy [] (asked_to_pause node from stream)
  pause_stands stands from stream = by_test (may_pause node from stream)
    where
      by_test : (b : Bool) → StandsBy [] (cond b (handing_over node from) (silent node))
      by_test true =
          node_stays stands (handing_over node from) refl (record { number = refl; role = refl; stream = refl; keyspace = refl }) (λ slotless. same_node n node slotless _ refl refl refl refl) (handed_said from node.paused)
      by_test false = silent_stands node stands

  noting_stands : NodeStands full n node → (handing : Handing) → StandsBy [] (told_of_handing node handing)
  noting_stands stands handing = by_test (is_replica node && is_same handing.stream node.stream.held.id)
    where
      by_test : (b : Bool) → StandsBy [] (silent (cond b (record node { handover = noting node.handover handing }) node))
      by_test true =
          node_stays stands _ refl (record { number = refl; role = refl; stream = refl; keyspace = refl }) (λ slotless. same_node n node slotless _ refl refl refl refl) (all_of_none (IsSound full))
      by_test false = silent_stands node stands

  -- ---- messages

  taken_stands : NodeStands full n node → (from : ℕ) (choice : Choice) (said : Body) → IsSound full said → MayChoose node from said choice → All IsRequest (written_by_message node from said)
      → StandsBy (written_by_message node from said) (taken node from choice said)
  taken_stands stands from choice (body.Slots (of_slots.Copy id pairs)) sound may are =
      let does = arrival_is_of_slots (λ s. ⊤) node (λ keyspace table moves current handover connections known noted. tt) from id pairs in
      node_writes stands _ _ does.promoted (arrival_leaves node from id pairs sound) (λ slotless. arrival_stays n node slotless from id pairs) (all_sound full node (node_can full n node stands) _ does.sent) are choice.dropped may.dropped
  taken_stands stands from choice (body.Slots (of_slots.Ack id)) sound may are =
      let does = acknowledgement_is_of_slots (λ s. ⊤) node (λ keyspace table moves current handover connections known noted. tt) from id in
      node_writes stands _ _ does.promoted (acknowledgement_leaves node from id) (λ slotless. acknowledgement_stays n node slotless from id) (all_sound full node (node_can full n node stands) _ does.sent) are choice.dropped may.dropped
  taken_stands stands from choice (body.Slots (of_slots.Drained slot number epoch)) sound may are =
      node_stays stands _ refl (record { number = refl; role = refl; stream = refl; keyspace = refl }) (λ slotless. noted_stays n node slotless from slot number epoch) (all_of_none (IsSound full))
  taken_stands stands from choice (body.Slots (of_slots.Claim slots replaced)) sound may are =
      let does = claim_is_of_slots (λ s. ⊤) node (λ keyspace table moves current handover connections known noted. tt) from slots in
      node_writes stands _ _ does.promoted (claim_leaves node from slots) (λ slotless. claim_stays n node slotless from slots) (all_sound full node (node_can full n node stands) _ does.sent) are choice.dropped may.dropped
  taken_stands stands from choice (body.Report suspects) sound may are = silent_stands node stands
  taken_stands stands from choice (body.Election (of_election.Candidacy request)) sound may are =
      vote_stands stands (request_of from request) (may_grant node.voter (members_of node) node.health node.current_epoch (request_of from request))
  taken_stands stands from choice (body.Election (of_election.Grant epoch)) sound may are =
      voted_stands stands (counted node.candidate (members_of node) from epoch) (elected node.candidate (members_of node) from epoch)
  taken_stands stands from choice (body.Stream (of_stream.Sync sync)) sound may are = synced_stands stands from sync
  taken_stands stands from choice (body.Stream (of_stream.Piece piece)) sound may are =
      silent_stands _ (if_followed stands _ from (is_just (own_master node) from) refl (λ replica own. piece_taken replica piece sound choice.follower (may.follower own) (verdict_on node.stream piece) refl))
  taken_stands stands from choice (body.Stream (of_stream.Snapshot snapshot)) sound may are =
      silent_stands _ (if_followed stands _ from (is_just (own_master node) from) refl (λ replica own. snapshot_taken replica snapshot sound))
  taken_stands stands from choice (body.Election (of_election.Pause stream)) sound may are = pause_stands stands from stream
  taken_stands stands from choice (body.Election (of_election.Paused handing)) sound may are = noting_stands stands handing

-- ---- events

module _ (full : FullStreams) (n : ℕ) (node : NodeState) (stands : NodeStands full n node) where
  abbrev By : Requests → Outcome → Type 0
  By requests outcome = StandsBy full n node requests outcome

  -- the node as a message is taken
  heard_stands : (after : NodeState) → after.number ≡ node.number → after.table ≡ node.table → after.moves ≡ node.moves → is_replica after ≡ is_replica node → after.stream ≡ node.stream → after.keyspace ≡ node.keyspace → NodeStands full n after
  heard_stands after number table moves role stream keyspace = by_role stands
    where
      by_role : NodeStands full n node → NodeStands full n after
      by_role (inl master) = inl (record {
        number = number ∙ master.number;
        role = role ∙ master.role;
        has = subst (HasWhole full n) (λ i. record { stream = sym stream i; keyspace = sym keyspace i }) master.has;
      })
      by_role (inr replica) =
          let same : follower_of node ≡ follower_of after = λ i. record { stream = sym stream i; keyspace = sym keyspace i } in
          inr (record {
            slotless = same_node n node replica.slotless after number table moves role;
            on = subst (λ (f : Follower). IsOn (full f.stream.held.id) f) same replica.on;
            fresh = replica.fresh;
          })

  pub nothing_stands : By [] (silent node)
  nothing_stands = silent_stands full n node node stands

  -- a message that is for the node
  pub delivered_stands : (message : Message) (choice : Choice) → HasShortFrozen node.moves → IsSound full message.body
      → ((message.to == node.number) ≡ true → MayChoose (ready node message) message.from message.body choice)
      → By (cond (message.to == node.number) (written_by_message (ready node message) message.from message.body) []) (delivered node message choice)
  delivered_stands message choice short sound may = by_target (message.to == node.number) refl
    where
      by_target : (b : Bool) → (message.to == node.number) ≡ b
          → By (cond b (written_by_message (ready node message) message.from message.body) []) (cond b (taken (ready node message) message.from choice message.body) (silent node))
      by_target false other = nothing_stands
      by_target true mine =
          ready_keeps (λ (heard : NodeState). MayChoose heard message.from message.body choice → By (written_by_message heard message.from message.body) (taken heard message.from choice message.body)) node message
          (λ epoch masters health candidate handover role election may_choose.
          let heard : NodeState = record node { current_epoch = epoch; masters = masters; health = health; candidate = candidate; handover = handover } in
          taken_stands full n heard (heard_stands heard refl refl refl role refl refl) message.from choice message.body sound may_choose
          (message_writes full heard (node_can full n node stands) short message.from message.body sound))
          (may mine)

  -- a tick
  pub tick_stands : By [] (tick node)
  tick_stands =
      in_election_keeps (λ (s : NodeState). By [] (record (slots_tick node) { sent = (tick node).sent; state = s })) aged (due_epoch aged) (λ current candidate handover.
      let after : NodeState = record aged { current_epoch = current; candidate = candidate; handover = handover } in
      unwritten full n node (record (slots_tick node) { sent = (tick node).sent; state = after }) refl (heard_stands after refl refl refl refl refl refl) said)
    where
      aged : NodeState
      aged = a_tick_older (older node)

      sync : (master : Option ℕ) → AreAll (IsSound full) (sync_to node.stream master)
      sync None = all_of_none (IsSound full)
      sync (Some master) = all_of_one (IsSound full) master _ tt

      requests : (epoch master : Option ℕ) → AreAll (IsSound full) (requests_in aged epoch master)
      requests None master = all_of_none (IsSound full)
      requests (Some epoch) None = all_of_none (IsSound full)
      requests (Some epoch) (Some master) = all_to_all (IsSound full) (voters_of aged) _ tt

      asks : (asked : Bool) (master : Option ℕ) → AreAll (IsSound full) (asked_again asked node.stream.held.id master)
      asks true (Some master) = all_of_one (IsSound full) master _ tt
      asks true None = all_of_none (IsSound full)
      asks false master = all_of_none (IsSound full)

      said : AreAll (IsSound full) (tick node).sent
      said =
          all_of_both (IsSound full) _ _
          (all_of_both (IsSound full) _ _
          (all_of_both (IsSound full) _ _
          (all_of_both (IsSound full) _ _
          (all_of_both (IsSound full) _ _ (all_sound full node (node_can full n node stands) _ (sent_again_are node))
          (all_of_both (IsSound full) _ _ (all_to_all (IsSound full) (others node) (body.Slots (of_slots.Claim (claim_of node) node.replaced)) tt)
          (all_to_all (IsSound full) (others node) (body.Report (suspected aged.health (members_of node))) tt)))
          (sync (own_master node)))
          (asks node.handover.asked (own_master node)))
          (paused_again_said full n node node.paused (claim_of node)))
          (requests (due_epoch aged) (own_master node))

  -- a request
  pub answering_stands : (conn : Conn) (words : List (List ℕ)) (outcome : Outcome) → IsAnswering node conn words outcome → By (written_at node conn words) outcome
  answering_stands conn words outcome answering =
      let asked : Outcome = request_outcome node conn (command_of words) in
      let leaves = request_leaves words (using_up node conn) conn (connection_at node.connections conn) (command_of words) refl in
      let does = request_is_of_slots (λ s. ⊤) (using_up node conn) (λ keyspace table moves current handover connections known noted. tt) conn (connection_at node.connections conn) (command_of words) in
      subst (By (written_at node conn words)) (sym answering.comes_to)
      (node_writes full n node stands (written_at node conn words) asked does.promoted
      (record { number = leaves.number; role = leaves.role; stream = leaves.stream; keyspace = leaves.keyspace })
      (λ slotless. request_stays n (using_up node conn) (same_node n node slotless (using_up node conn) refl refl refl refl) words conn (connection_at node.connections conn) (command_of words) refl)
      (all_sound full (using_up node conn) (node_can full n node stands) asked.sent does.sent)
      (request_writes words answering.request (command_of words) asked.response) answering.dropped answering.may_drop)

  pub with_connections : (outcome : Outcome) → outcome.promoted ≡ None → outcome.sent ≡ [] → outcome.state ≡ record node { connections = outcome.state.connections } → By [] outcome
  with_connections outcome none said state =
      unwritten full n node outcome none
      (subst (NodeStands full n) (sym state) (heard_stands (record node { connections = outcome.state.connections }) refl refl refl refl refl refl))
      (subst (AreAll (IsSound full)) (sym said) (all_of_none (IsSound full)))
