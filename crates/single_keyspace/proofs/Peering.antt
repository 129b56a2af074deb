-- What a step of a node is in planned handovers, if the node isn't promoted by it.
use Rattle.std.proofs.Common.{◌≡◌, ◌≢◌, ◌≤◌, ◌+◌, ◌==◌, ◌&&◌, ◌⊎◌, ℕ, zero, suc, List, [], ◌∷◌, map, Bool, true, false, cond, Option, Some, None, refl, sym, ap, subst, ◌∙◌, inl, inr, arith}
use Rattle.std.proofs.lemmas.Bool.{and_parts, both_ways, cond-true, cond-false, eqb-false, eqb-true}
use Rattle.std.specs.Prelude.{MatchBool, is_some, max, not, nat_lt, option_map, slice_index_or, slice_set, ◌^◌, ◌-◌}
use Rattle.std.specs.FinMap as fin_map
use Rattle.bus.specs.Stream.{StreamView, is_same}
use Rattle.bus.specs.declared.message.Body.{Body}
use Rattle.bus.specs.declared.bodies.ElectionBody.TheVariants as of_election
use Rattle.bus.specs.declared.bodies.SlotsBody.TheVariants as slots_body
use Rattle.bus.specs.declared.bodies.StreamBody.TheVariants as of_stream
use Rattle.bus.specs.declared.message.Body.TheVariants as body
use Rattle.bus.specs.declared.bodies.Handing.{Handing}
use Rattle.bus.specs.declared.message.Message.{Message}
use Rattle.bus.specs.declared.bodies.Replaced.{Replaced}
use Rattle.bus.specs.declared.stream_id.StreamId.{StreamId}
use Rattle.command_table.specs.Table.{command_of}
use Rattle.connections.specs.Connections.{connection_at, may_ask}
use Rattle.connections.specs.declared.conn.Conn.{Conn}
use Rattle.election.specs.Electing.{after_grant, counted, counts, elected, is_held_failed, is_won, judged, lasting, next_epoch, unless_won, with_grant}
use Rattle.election.specs.Health.{Candidate, Election, Health, no_candidate}
use Rattle.election.specs.Members.{Members, own_master as master_of}
use Rattle.election.specs.declared.running.Elected.{Elected}
use Rattle.handovers.specs.Events.{Begins, FollowsNext, Notes, Pauses}
use Rattle.node_step.proofs.Kept.{pieced_keeps, with_written_keeps, restored_keeps, synced_is}
use Rattle.node_step.proofs.OfSlots.{acknowledgement_is_of_slots, arrival_is_of_slots, claim_is_of_slots, noted_is_of_slots, request_is_of_slots}
use Rattle.node_step.proofs.WithWritten.{with_written_promoted}
use Rattle.node_step.specs.Failing.{a_tick_older, hearing, judging, members_of}
use Rattle.node_step.specs.Handovers.{asked_to_pause, handing_of, handing_over, is_at_end, is_free_for, may_pause, may_take_over, noting, told_of_handing}
use Rattle.node_step.specs.Messages.{Choice, knowing, ready, taken, taken_so, written_by_message}
use Rattle.node_step.specs.Outcome.{Outcome, silent}
use Rattle.node_step.specs.Streams.{Requests, with_written}
use Rattle.node_step.specs.Promotion.{handed_promotion, promotion, promotion_to, table_handed}
use Rattle.node_step.specs.Requests.{request_outcome, using_up}
use Rattle.node_step.specs.Roles.{following, instead, is_just, replaced_in, succeeded, with_master, without_note}
use Rattle.node_step.specs.State.{Handover, NodeState, is_replica, own_master}
use Rattle.node_step.specs.Step.{IsAnswering, IsClosing, MayCome, written as written_at}
use Rattle.node_step.specs.Ticks.{older, tick}
use Rattle.node_step.specs.Voting.{begun_so, due_epoch, if_elected, in_election, is_now_due, noted_begun}
use Rattle.node_step.specs.declared.event.Event.{Event}
use Rattle.node_step.specs.declared.event.Event.TheVariants.{Open, Close, Request, Deliver, Tick}
use Rattle.single_keyspace.proofs.Seen.{no_some, same_some}
use Rattle.single_keyspace.specs.Handing.{peer_of, planned_epoch}

-- a node goes on as before; what it has to hand over apart
pub record Goes (old new : NodeState) : Type 0 where
  pub number : new.number ≡ old.number
  pub master : own_master new ≡ own_master old
  pub current : old.current_epoch ≤ new.current_epoch
  pub paused : new.paused ≡ old.paused
  pub note : new.handover.note ≡ old.handover.note
  pub planned : (planned_epoch new.candidate ≡ planned_epoch old.candidate) ⊎ (planned_epoch new.candidate ≡ None)
  pub replaced : new.replaced ≡ old.replaced

pub goes_itself : (node : NodeState) → Goes node node
goes_itself node = record { number = refl; master = refl; current = omega arith; paused = refl; note = refl; planned = inl refl; replaced = refl }

-- what any message tells: the node goes on, or follows the node that took its master's place
pub data Heard (message : Message) (old new : NodeState) : Type 0 where
  goes : Goes old new → Heard message old new
  follows : (replaced : Replaced) → replaced_in message.body ≡ Some replaced → message.from ≢ old.number → FollowsNext replaced.master message.from (peer_of old) (peer_of new) → Heard message old new

-- and what a message does
pub data Does (message : Message) (old new : NodeState) : Type 0 where
  hears : Heard message old new → Does message old new
  pauses : (stream : StreamId) → message.body ≡ body.Election (of_election.Pause stream) → Pauses message.from (peer_of old) (peer_of new) → Does message old new
  notes : (handing : Handing) → message.body ≡ body.Election (of_election.Paused handing) → Notes handing message.epoch (peer_of old) (peer_of new) → Does message old new

-- ---- who follows whom

other_stays : (masters : List (Option ℕ)) (i j : ℕ) → j ≢ i → slice_index_or (slice_set masters i None) j None ≡ slice_index_or masters j None
other_stays [] i j apart = refl
other_stays (m ∷ masters) zero zero apart = absurd (apart refl)
other_stays (m ∷ masters) zero (suc j) apart = refl
other_stays (m ∷ masters) (suc i) zero apart = refl
other_stays (m ∷ masters) (suc i) (suc j) apart = other_stays masters i j (λ same. apart (ap suc same))

instead_at : (masters : List (Option ℕ)) (former next j : ℕ) → slice_index_or (map (instead former next) masters) j None ≡ instead former next (slice_index_or masters j None)
instead_at [] former next j = refl
instead_at (m ∷ masters) former next zero = refl
instead_at (m ∷ masters) former next (suc j) = instead_at masters former next j

pub master_after : (masters : List (Option ℕ)) (former next j : ℕ) → j ≢ next → slice_index_or (succeeded masters former next) j None ≡ instead former next (slice_index_or masters j None)
master_after masters former next j apart = other_stays (map (instead former next) masters) next j apart ∙ instead_at masters former next j

instead_of_it : (former next : ℕ) (own : Option ℕ) → is_just own former ≡ true → (own ≡ Some former) × (instead former next own ≡ Some next)
instead_of_it former next None is = absurd (both_ways false refl is)
instead_of_it former next (Some m) is = (ap Some (eqb-true m former is), cond-true (m == former) (Some next) (Some m) is)

instead_of_other : (former next : ℕ) (own : Option ℕ) → is_just own former ≡ false → instead former next own ≡ own
instead_of_other former next None is = refl
instead_of_other former next (Some m) is = cond-false (m == former) (Some next) (Some m) is

-- ---- elections

judged_planned : (candidate : Candidate) (members : Members) (health : Health) → planned_epoch (judged candidate members health) ≡ planned_epoch candidate
judged_planned candidate members health = by_test (is_held_failed health members (master_of members))
  where
    by_test : (b : Bool) → planned_epoch (cond b (record candidate { failed = lasting candidate.failed }) (record candidate { failed = None; started = None })) ≡ planned_epoch candidate
    by_test true = refl
    by_test false = refl

abbrev epoch_of : Option Election → Option ℕ
epoch_of election = option_map (λ (e : Election). e.epoch) election

same_or_over : (election : Option Election) (members : Members) (from epoch : ℕ) → (epoch_of (after_grant election members from epoch) ≡ epoch_of election) ⊎ (epoch_of (after_grant election members from epoch) ≡ None)
same_or_over None members from epoch = inl refl
same_or_over (Some election) members from epoch = by_test (counts election members from epoch)
  where
    by_win : (b : Bool) → (epoch_of (cond b None (Some (with_grant election from))) ≡ Some election.epoch) ⊎ (epoch_of (cond b None (Some (with_grant election from))) ≡ None)
    by_win true = inr refl
    by_win false = inl refl

    by_test : (b : Bool) → (epoch_of (cond b (unless_won (with_grant election from) members) (Some election)) ≡ Some election.epoch) ⊎ (epoch_of (cond b (unless_won (with_grant election from) members) (Some election)) ≡ None)
    by_test true = by_win (is_won (with_grant election from) members)
    by_test false = inl refl

counted_planned : (candidate : Candidate) (members : Members) (from epoch : ℕ)
    → (planned_epoch (counted candidate members from epoch) ≡ planned_epoch candidate) ⊎ (planned_epoch (counted candidate members from epoch) ≡ None)
counted_planned candidate members from epoch = by_plan candidate.planned (same_or_over candidate.election members from epoch)
  where
    by_plan : (planned : Bool) → (epoch_of (after_grant candidate.election members from epoch) ≡ epoch_of candidate.election) ⊎ (epoch_of (after_grant candidate.election members from epoch) ≡ None)
        → (cond planned (epoch_of (after_grant candidate.election members from epoch)) None ≡ cond planned (epoch_of candidate.election) None)
        ⊎ (cond planned (epoch_of (after_grant candidate.election members from epoch)) None ≡ None)
    by_plan true same = same
    by_plan false same = inl refl

-- ---- what any message tells

module _ (node : NodeState) (message : Message) where
  abbrev heard_so : NodeState
  heard_so = hearing (knowing node message.epoch) message.from message.body

  heard_goes : Goes node (judging heard_so)
  heard_goes = record {
    number = refl;
    master = refl;
    current = omega arith;
    paused = refl;
    note = refl;
    planned = inl (judged_planned node.candidate (members_of heard_so) heard_so.health);
    replaced = refl;
  }

  abbrev moved_so : ℕ → NodeState
  moved_so former = with_master heard_so former message.from

  -- a claim of a node that took another one's place
  followed : (replaced : Replaced) → replaced_in message.body ≡ Some replaced → message.from ≢ node.number → Heard message node (judging (moved_so replaced.master))
  followed replaced is apart = by_own (is_just (own_master node) replaced.master) refl
    where
      own_after : own_master (judging (moved_so replaced.master)) ≡ instead replaced.master message.from (own_master node)
      own_after = master_after node.masters replaced.master message.from node.number (λ same. apart (sym same))

      by_own : (own : Bool) → is_just (own_master node) replaced.master ≡ own → Heard message node (judging (moved_so replaced.master))
      by_own true own =
          let its = instead_of_it replaced.master message.from (own_master node) own in
          let over : (moved_so replaced.master).candidate ≡ no_candidate = ap (λ (b : Bool). cond b no_candidate node.candidate) own in
          follows replaced is apart (record {
            follows = its.0;
            master = own_after ∙ its.1;
            current = omega arith;
            paused = refl;
            note = ap (λ (b : Bool). (cond b (without_note node.handover) node.handover).note) own;
            planned = judged_planned (moved_so replaced.master).candidate (members_of (moved_so replaced.master)) (moved_so replaced.master).health ∙ ap planned_epoch over;
            replaced = refl;
          })
      by_own false other =
          let same : (moved_so replaced.master).candidate ≡ node.candidate = ap (λ (b : Bool). cond b no_candidate node.candidate) other in
          goes (record {
            number = refl;
            master = own_after ∙ instead_of_other replaced.master message.from (own_master node) other;
            current = omega arith;
            paused = refl;
            note = ap (λ (b : Bool). (cond b (without_note node.handover) node.handover).note) other;
            planned = inl (judged_planned (moved_so replaced.master).candidate (members_of (moved_so replaced.master)) (moved_so replaced.master).health ∙ ap planned_epoch same);
            replaced = refl;
          })

  pub ready_does : Heard message node (ready node message)
  ready_does = by_claim (replaced_in message.body) refl
    where
      by_claim : (replaced : Option Replaced) → replaced_in message.body ≡ replaced → Heard message node (judging (following heard_so message.from replaced))
      by_claim None none = goes heard_goes
      by_claim (Some replaced) is = by_sender (message.from == node.number) refl
        where
          by_sender : (own : Bool) → (message.from == node.number) ≡ own → Heard message node (judging (cond own heard_so (moved_so replaced.master)))
          by_sender true own = goes heard_goes
          by_sender false other = followed replaced is (eqb-false message.from node.number other)

-- ---- behind that

through : (a b c : NodeState) → Goes a b → Goes b c → Goes a c
through a b c one next = record {
  number = next.number ∙ one.number;
  master = next.master ∙ one.master;
  current = (let first = one.current in let second = next.current in omega (arith, first, second));
  paused = next.paused ∙ one.paused;
  note = next.note ∙ one.note;
  planned = elim next.planned [
    | inl same ↦ elim one.planned [ inl before ↦ inl (same ∙ before) | inr none ↦ inr (same ∙ none) ]
    | inr none ↦ inr none
  ];
  replaced = next.replaced ∙ one.replaced;
}

behind_it : (message : Message) (a b c : NodeState) → Heard message a b → Goes b c → Heard message a c
behind_it message a b c (goes one) next = goes (through a b c one next)
behind_it message a b c (follows replaced is apart one) next = follows replaced is apart (record {
  follows = one.follows;
  master = next.master ∙ one.master;
  current = (let first = one.current in let second = next.current in omega (arith, first, second));
  paused = next.paused ∙ one.paused;
  note = next.note ∙ one.note;
  planned = elim next.planned [ inl same ↦ same ∙ one.planned | inr none ↦ none ];
  replaced = ap (λ (o : Option Replaced). option_map (λ (r : Replaced). r.master) o) next.replaced ∙ one.replaced;
})

-- one that isn't a claim
pub goes_then : (message : Message) (a b : NodeState) → replaced_in message.body ≡ None → Heard message a b → Goes a b
goes_then message a b none (goes one) = one
goes_then message a b none (follows replaced is apart one) = absurd (no_some none is)

-- ---- rows

abbrev Stays : NodeState → Outcome → Type 0
Stays node outcome = Goes node outcome.state

of_slots : (node : NodeState) (current : ℕ) (handover : Handover) (after : NodeState) → node.current_epoch ≤ current → handover.note ≡ node.handover.note
    → after.number ≡ node.number → own_master after ≡ own_master node → after.current_epoch ≡ current → after.paused ≡ node.paused → after.handover ≡ handover → after.candidate ≡ node.candidate → after.replaced ≡ node.replaced → Goes node after
of_slots node current handover after known noted number master epoch paused handed candidate replaced = record {
  number = number;
  master = master;
  current = (let at = epoch in omega (arith, known, at));
  paused = paused;
  note = ap (λ (h : Handover). h.note) handed ∙ noted;
  planned = inl (ap planned_epoch candidate);
  replaced = replaced;
}

module _ (node : NodeState) where
  -- an election is the same one, or none
  abbrev IsSameOrNone : Candidate → Type 0
  IsSameOrNone candidate = (planned_epoch candidate ≡ planned_epoch node.candidate) ⊎ (planned_epoch candidate ≡ None)

  counting_goes : (candidate : Candidate) → IsSameOrNone candidate → Goes node (record node { candidate = candidate })
  counting_goes candidate same = record { number = refl; master = refl; current = omega arith; paused = refl; note = refl; planned = same; replaced = refl }

  -- a vote that promotes nobody
  grant_goes : (candidate : Candidate) → IsSameOrNone candidate → (won : Option Elected) → (if_elected (record node { candidate = candidate }) won).promoted ≡ None
      → Stays node (if_elected (record node { candidate = candidate }) won)
  grant_goes candidate same None not_now = counting_goes candidate same
  grant_goes candidate same (Some won) not_now = by_plan candidate.planned not_now
    where
      failed : (master : Option ℕ) → (promotion (record node { candidate = candidate }) won.epoch master).promoted ≡ None → Stays node (promotion (record node { candidate = candidate }) won.epoch master)
      failed None not_now = counting_goes candidate same
      failed (Some master) not_now = absurd (no_some not_now refl)

      handed : (master : Option ℕ) (told : Option Handing) → (handed_promotion (record node { candidate = candidate }) won.epoch master told).promoted ≡ None → Stays node (handed_promotion (record node { candidate = candidate }) won.epoch master told)
      handed None told not_now = counting_goes candidate same
      handed (Some master) None not_now = counting_goes candidate same
      handed (Some master) (Some handing) not_now = by_place (is_at_end node.stream (Some handing)) not_now
        where
          by_place : (b : Bool) → (cond b (promotion_to (record node { candidate = candidate }) master won.epoch true (table_handed node handing.slots won.epoch)) (silent (record node { candidate = candidate }))).promoted ≡ None
              → Stays node (cond b (promotion_to (record node { candidate = candidate }) master won.epoch true (table_handed node handing.slots won.epoch)) (silent (record node { candidate = candidate })))
          by_place true not_now = absurd (no_some not_now refl)
          by_place false not_now = counting_goes candidate same

      by_plan : (planned : Bool) → (cond planned (handed_promotion (record node { candidate = candidate }) won.epoch (own_master node) node.handover.note) (promotion (record node { candidate = candidate }) won.epoch (own_master node))).promoted ≡ None
          → Stays node (cond planned (handed_promotion (record node { candidate = candidate }) won.epoch (own_master node) node.handover.note) (promotion (record node { candidate = candidate }) won.epoch (own_master node)))
      by_plan true not_now = handed (own_master node) node.handover.note not_now
      by_plan false not_now = failed (own_master node) not_now

  same_goes : (after : NodeState) → after.number ≡ node.number → own_master after ≡ own_master node → after.current_epoch ≡ node.current_epoch → after.paused ≡ node.paused → after.handover ≡ node.handover
      → after.candidate ≡ node.candidate → after.replaced ≡ node.replaced → Goes node after
  same_goes after number master epoch paused handed candidate replaced = of_slots node node.current_epoch node.handover after (omega arith) refl number master epoch paused handed candidate replaced

  -- all messages but those of handovers
  row_goes : (from : ℕ) (choice : Choice) (said : Body) → ((stream : StreamId) → said ≢ body.Election (of_election.Pause stream)) → ((handing : Handing) → said ≢ body.Election (of_election.Paused handing)) → (taken_so node from choice said).promoted ≡ None → Stays node (taken_so node from choice said)
  row_goes from choice (body.Slots (slots_body.Copy id pairs)) no_pause no_word not_now =
      (arrival_is_of_slots (Goes node) node (λ keyspace table moves current handover connections known noted. of_slots node current handover _ known noted refl refl refl refl refl refl refl) from id pairs).state
  row_goes from choice (body.Slots (slots_body.Ack id)) no_pause no_word not_now =
      (acknowledgement_is_of_slots (Goes node) node (λ keyspace table moves current handover connections known noted. of_slots node current handover _ known noted refl refl refl refl refl refl refl) from id).state
  row_goes from choice (body.Slots (slots_body.Drained slot number epoch)) no_pause no_word not_now =
      (noted_is_of_slots (Goes node) node (λ keyspace table moves current handover connections known noted. of_slots node current handover _ known noted refl refl refl refl refl refl refl) from slot number epoch).state
  row_goes from choice (body.Slots (slots_body.Claim slots replaced)) no_pause no_word not_now =
      (claim_is_of_slots (Goes node) node (λ keyspace table moves current handover connections known noted. of_slots node current handover _ known noted refl refl refl refl refl refl refl) from slots).state
  row_goes from choice (body.Report suspects) no_pause no_word not_now = goes_itself node
  row_goes from choice (body.Election (of_election.Candidacy request)) no_pause no_word not_now = same_goes _ refl refl refl refl refl refl refl
  row_goes from choice (body.Election (of_election.Grant epoch)) no_pause no_word not_now = grant_goes (counted node.candidate (members_of node) from epoch) (counted_planned node.candidate (members_of node) from epoch) (elected node.candidate (members_of node) from epoch) not_now
  row_goes from choice (body.Stream (of_stream.Sync sync)) no_pause no_word not_now = synced_is (Stays node) node from sync (goes_itself node) (same_goes _ refl refl refl refl refl refl refl)
  row_goes from choice (body.Stream (of_stream.Piece piece)) no_pause no_word not_now = pieced_keeps (Goes node) node (λ stream keyspace. same_goes _ refl refl refl refl refl refl refl) from piece choice.follower
  row_goes from choice (body.Stream (of_stream.Snapshot snapshot)) no_pause no_word not_now = restored_keeps (Goes node) node (λ stream keyspace. same_goes _ refl refl refl refl refl refl refl) from snapshot
  row_goes from choice (body.Election (of_election.Pause stream)) no_pause no_word not_now = absurd (no_pause stream refl)
  row_goes from choice (body.Election (of_election.Paused handing)) no_pause no_word not_now = absurd (no_word handing refl)

  with_written_goes : (outcome : Outcome) (requests : Requests) (dropped : ℕ) → Goes node outcome.state → Goes node (with_written outcome requests dropped).state
  with_written_goes outcome requests dropped was =
      with_written_keeps (Goes node) outcome requests dropped (λ stream. record { number = was.number; master = was.master; current = was.current; paused = was.paused; note = was.note; planned = was.planned; replaced = was.replaced })

-- ---- a message

no_master : (master : Option ℕ) → is_some master ≡ false → master ≡ None
no_master None is = refl
no_master (Some m) is = absurd (both_ways true is refl)

not_true : (b : Bool) → not b ≡ true → b ≡ false
not_true true is = sym is
not_true false is = refl

free_or_it : (paused : Option ℕ) (from : ℕ) → is_free_for paused from ≡ true → (paused ≡ None) ⊎ (paused ≡ Some from)
free_or_it None from free = inl refl
free_or_it (Some other) from free = inr (ap Some (eqb-true other from free))

module _ (node : NodeState) (message : Message) (choice : Choice) where
  abbrev heard : NodeState
  heard = ready node message

  abbrev after : NodeState
  after = (taken heard message.from choice message.body).state

  row_heard : ((stream : StreamId) → message.body ≢ body.Election (of_election.Pause stream)) → ((handing : Handing) → message.body ≢ body.Election (of_election.Paused handing)) → (taken heard message.from choice message.body).promoted ≡ None
      → Heard message node (taken heard message.from choice message.body).state
  row_heard no_pause no_word not_now =
      let outcome : Outcome = taken_so heard message.from choice message.body in
      let requests : Requests = written_by_message heard message.from message.body in
      behind_it message node heard _ (ready_does node message)
      (with_written_goes heard outcome requests choice.dropped (row_goes heard message.from choice message.body no_pause no_word (sym (with_written_promoted outcome requests choice.dropped) ∙ not_now)))

  pause_does : (stream : StreamId) → message.body ≡ body.Election (of_election.Pause stream) → Does message node (asked_to_pause heard message.from stream).state
  pause_does stream is = by_test (may_pause heard message.from stream) refl
    where
      was : Goes node heard
      was = goes_then message node heard (ap replaced_in is) (ready_does node message)

      by_test : (b : Bool) → may_pause heard message.from stream ≡ b → Does message node (cond b (handing_over heard message.from) (silent heard)).state
      by_test false may = hears (goes was)
      by_test true may =
          let five = and_parts (not (is_replica heard) && is_just (slice_index_or heard.masters message.from None) heard.number && is_same stream heard.stream.held.id && fin_map.len heard.moves.running == 0) (is_free_for heard.paused message.from) may in
          let four = and_parts (not (is_replica heard) && is_just (slice_index_or heard.masters message.from None) heard.number && is_same stream heard.stream.held.id) (fin_map.len heard.moves.running == 0) five.0 in
          let three = and_parts (not (is_replica heard) && is_just (slice_index_or heard.masters message.from None) heard.number) (is_same stream heard.stream.held.id) four.0 in
          let two = and_parts (not (is_replica heard)) (is_just (slice_index_or heard.masters message.from None) heard.number) three.0 in
          pauses stream is (record {
            is_master = sym was.master ∙ no_master (own_master heard) (not_true (is_replica heard) two.0);
            free = elim (free_or_it heard.paused message.from five.1) [ inl none ↦ inl (sym was.paused ∙ none) | inr some ↦ inr (sym was.paused ∙ some) ];
            paused = refl;
            master = was.master;
            hands = heard_hands;
            current = was.current;
            note = was.note;
            planned = heard_planned;
            replaced = ap (λ (o : Option Replaced). option_map (λ (r : Replaced). r.master) o) was.replaced;
          })
        where
          heard_hands : handing_of heard ≡ handing_of node
          heard_hands = by_said message.body is
            where
              by_said : (said : Body) → said ≡ body.Election (of_election.Pause stream) → handing_of (judging (following (hearing (knowing node message.epoch) message.from said) message.from (replaced_in said))) ≡ handing_of node
              by_said said is = subst (λ (b : Body). handing_of (judging (following (hearing (knowing node message.epoch) message.from b) message.from (replaced_in b))) ≡ handing_of node) (sym is) refl

          heard_planned : planned_epoch heard.candidate ≡ planned_epoch node.candidate
          heard_planned = by_said message.body is
            where
              by_said : (said : Body) → said ≡ body.Election (of_election.Pause stream) → planned_epoch (judging (following (hearing (knowing node message.epoch) message.from said) message.from (replaced_in said))).candidate ≡ planned_epoch node.candidate
              by_said said is =
                  subst (λ (b : Body). planned_epoch (judging (following (hearing (knowing node message.epoch) message.from b) message.from (replaced_in b))).candidate ≡ planned_epoch node.candidate) (sym is)
                  (judged_planned node.candidate (members_of (hearing (knowing node message.epoch) message.from (body.Election (of_election.Pause stream)))) (hearing (knowing node message.epoch) message.from (body.Election (of_election.Pause stream))).health)

  -- the word that the master hands over
  noting_does : (handing : Handing) → message.body ≡ body.Election (of_election.Paused handing) → Does message node (told_of_handing heard handing).state
  noting_does handing is = by_test (is_replica heard && is_same handing.stream heard.stream.held.id) refl
    where
      was : Goes node heard
      was = goes_then message node heard (ap replaced_in is) (ready_does node message)

      knows : message.epoch ≤ heard.current_epoch
      knows = subst (λ (b : Body). message.epoch ≤ (judging (following (hearing (knowing node message.epoch) message.from b) message.from (replaced_in b))).current_epoch) (sym is) greater
        where
          greater : message.epoch ≤ max node.current_epoch message.epoch
          greater = omega arith

      same_plan : planned_epoch heard.candidate ≡ planned_epoch node.candidate
      same_plan =
          subst (λ (b : Body). planned_epoch (judging (following (hearing (knowing node message.epoch) message.from b) message.from (replaced_in b))).candidate ≡ planned_epoch node.candidate) (sym is)
          (judged_planned node.candidate (members_of (hearing (knowing node message.epoch) message.from (body.Election (of_election.Paused handing)))) (hearing (knowing node message.epoch) message.from (body.Election (of_election.Paused handing))).health)

      by_test : (b : Bool) → (is_replica heard && is_same handing.stream heard.stream.held.id) ≡ b → Does message node (cond b (record heard { handover = noting heard.handover handing }) heard)
      by_test false not_so = hears (goes was)
      by_test true so =
          let parts = and_parts (is_replica heard) (is_same handing.stream heard.stream.held.id) so in
          notes handing is (record {
            is_replica = λ none. both_ways (is_replica heard) (ap is_some (was.master ∙ none)) parts.0;
            master = was.master;
            current = was.current;
            knows = knows;
            paused = was.paused;
            note = refl;
            planned = same_plan;
            replaced = ap (λ (o : Option Replaced). option_map (λ (r : Replaced). r.master) o) was.replaced;
          })

  pub taken_does : (taken heard message.from choice message.body).promoted ≡ None → Does message node (taken heard message.from choice message.body).state
  taken_does not_now = by_body message.body refl
    where
      others : (said : Body) → message.body ≡ said → ((stream : StreamId) → said ≢ body.Election (of_election.Pause stream)) → ((handing : Handing) → said ≢ body.Election (of_election.Paused handing)) → Does message node (taken heard message.from choice message.body).state
      others said is no_pause no_word = hears (row_heard (λ stream same. no_pause stream (sym is ∙ same)) (λ handing same. no_word handing (sym is ∙ same)) not_now)

      by_body : (said : Body) → message.body ≡ said → Does message node (taken heard message.from choice message.body).state
      by_body (body.Election (of_election.Pause stream)) is = subst (λ (b : Body). Does message node (taken heard message.from choice b).state) (sym is) (pause_does stream is)
      by_body (body.Election (of_election.Paused handing)) is = subst (λ (b : Body). Does message node (taken heard message.from choice b).state) (sym is) (noting_does handing is)
      by_body (body.Slots (slots_body.Copy id pairs)) is = others (body.Slots (slots_body.Copy id pairs)) is (λ stream same. cc) (λ handing same. cc)
      by_body (body.Slots (slots_body.Ack id)) is = others (body.Slots (slots_body.Ack id)) is (λ stream same. cc) (λ handing same. cc)
      by_body (body.Slots (slots_body.Drained slot number epoch)) is = others (body.Slots (slots_body.Drained slot number epoch)) is (λ stream same. cc) (λ handing same. cc)
      by_body (body.Slots (slots_body.Claim slots replaced)) is = others (body.Slots (slots_body.Claim slots replaced)) is (λ stream same. cc) (λ handing same. cc)
      by_body (body.Report suspects) is = others (body.Report suspects) is (λ stream same. cc) (λ handing same. cc)
      by_body (body.Election (of_election.Candidacy request)) is = others (body.Election (of_election.Candidacy request)) is (λ stream same. cc) (λ handing same. cc)
      by_body (body.Election (of_election.Grant epoch)) is = others (body.Election (of_election.Grant epoch)) is (λ stream same. cc) (λ handing same. cc)
      by_body (body.Stream (of_stream.Sync sync)) is = others (body.Stream (of_stream.Sync sync)) is (λ stream same. cc) (λ handing same. cc)
      by_body (body.Stream (of_stream.Piece piece)) is = others (body.Stream (of_stream.Piece piece)) is (λ stream same. cc) (λ handing same. cc)
      by_body (body.Stream (of_stream.Snapshot snapshot)) is = others (body.Stream (of_stream.Snapshot snapshot)) is (λ stream same. cc) (λ handing same. cc)

-- ---- a tick

-- it begins an election for a handover, or goes on
pub data Ages (old new : NodeState) : Type 0 where
  stays : Goes old new → Ages old new
  begins : (handing : Handing) → Begins handing (peer_of old) (peer_of new) → Ages old new

next_is : (current epoch : ℕ) → next_epoch current ≡ Some epoch → epoch ≡ current + 1
next_is current epoch is = by_test (nat_lt current (2 ^ 64 - 1)) is
  where
    by_test : (b : Bool) → cond b (Some (current + 1)) None ≡ Some epoch → epoch ≡ current + 1
    by_test true is = sym (same_some refl is)
    by_test false is = absurd (no_some refl is)

noted_at_end : (stream : StreamView) (note : Option Handing) → is_at_end stream note ≡ true → (handing : Handing) × (note ≡ Some handing)
noted_at_end stream None is = absurd (both_ways false refl is)
noted_at_end stream (Some handing) is = (handing, refl)

module _ (node : NodeState) where
  abbrev aged : NodeState
  aged = a_tick_older (older node)

  aged_goes : Goes node aged
  aged_goes = record {
    number = refl;
    master = refl;
    current = omega arith;
    paused = refl;
    note = refl;
    planned = inl (judged_planned _ (members_of (older node)) aged.health);
    replaced = refl;
  }

  pub tick_ages : Ages node (tick node).state
  tick_ages = by_due (due_epoch aged) refl
    where
      by_plan : (epoch : ℕ) → epoch ≡ node.current_epoch + 1 → (planned : Bool) → may_take_over aged ≡ planned
          → Ages node (record aged { current_epoch = epoch; candidate = begun_so planned aged.candidate epoch; handover = noted_begun planned aged.handover })
      by_plan epoch next true may =
          let found = noted_at_end aged.stream aged.handover.note (and_parts (is_replica aged) (is_at_end aged.stream aged.handover.note) may).1 in
          begins found.0 (record {
            noted = found.1;
            master = refl;
            current = next;
            paused = refl;
            note = refl;
            planned = ap Some next;
            replaced = refl;
          })
      by_plan epoch next false may = stays (record {
        number = refl;
        master = refl;
        current = omega (arith, next);
        paused = refl;
        note = refl;
        planned = inr refl;
        replaced = refl;
      })

      due_is : (due : Bool) (epoch : ℕ) → cond due (next_epoch aged.current_epoch) None ≡ Some epoch → epoch ≡ node.current_epoch + 1
      due_is true epoch is = next_is node.current_epoch epoch is
      due_is false epoch is = absurd (no_some refl is)

      by_due : (due : Option ℕ) → due_epoch aged ≡ due → Ages node (in_election aged due)
      by_due None none = stays aged_goes
      by_due (Some epoch) is = by_plan epoch (due_is (is_now_due aged) epoch is) (may_take_over aged) refl

  -- ---- requests

  connections_go : (after : NodeState) → after ≡ record node { connections = after.connections } → Goes node after
  connections_go after same = subst (Goes node) (sym same) (same_goes node (record node { connections = after.connections }) refl refl refl refl refl refl refl)

  pub request_goes : (conn : Conn) (words : List (List ℕ)) (asks : Bool) (outcome : Outcome) → MatchBool asks (IsAnswering node conn words outcome) (outcome ≡ silent node) → Goes node outcome.state
  request_goes conn words false outcome may = subst (Stays node) (sym may) (goes_itself node)
  request_goes conn words true outcome may =
      subst (Stays node) (sym may.comes_to)
      (with_written_goes node (request_outcome node conn (command_of words)) (written_at node conn words) may.dropped
      (request_is_of_slots (Goes node) (using_up node conn) (λ keyspace table moves current handover connections known noted. of_slots node current handover _ known noted refl refl refl refl refl refl refl)
      conn (connection_at node.connections conn) (command_of words)).state)

-- ---- any event

abbrev pub EventDoes : Event → NodeState → NodeState → Type 0
EventDoes (Deliver message) old new = Does message old new
EventDoes Tick old new = Ages old new
EventDoes Open old new = Goes old new
EventDoes (Close conn) old new = Goes old new
EventDoes (Request conn words) old new = Goes old new

pub event_does : (node : NodeState) (event : Event) (outcome : Outcome) → MayCome node event outcome → outcome.promoted ≡ None → EventDoes event node outcome.state
event_does node Open outcome may not_now = subst (Stays node) (sym may.comes_to) (same_goes node _ refl refl refl refl refl refl refl)
event_does node (Close conn) outcome may not_now = by_open (is_some (connection_at node.connections conn)) may
  where
    by_open : (is_open : Bool) → MatchBool is_open (IsClosing node conn outcome) (outcome ≡ silent node) → Goes node outcome.state
    by_open false may = subst (Stays node) (sym may) (goes_itself node)
    by_open true may = subst (Stays node) (sym may.comes_to) (same_goes node _ refl refl refl refl refl refl refl)
event_does node (Request conn words) outcome may not_now = request_goes node conn words (may_ask (connection_at node.connections conn)) outcome may
event_does node (Deliver message) outcome may not_now =
    subst (λ (o : Outcome). Does message node o.state) (sym may.comes_to) (by_target (message.to == node.number) (subst (λ (o : Outcome). o.promoted ≡ None) may.comes_to not_now))
  where
    by_target : (b : Bool) → (cond b (taken (ready node message) message.from may.choice message.body) (silent node)).promoted ≡ None
        → Does message node (cond b (taken (ready node message) message.from may.choice message.body) (silent node)).state
    by_target true not_now = taken_does node message may.choice not_now
    by_target false not_now = hears (goes (goes_itself node))
event_does node Tick outcome may not_now = subst (λ (o : Outcome). Ages node o.state) (sym may.comes_to) (tick_ages node)
