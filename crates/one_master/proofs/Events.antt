-- What each step of a node leaves.
use Rattle.std.proofs.Common.{◌≡◌, ◌<◌, ◌≤◌, ◌==◌, ℕ, List, [], ◌∷◌, Bool, true, false, cond, Option, Some, None, Contains, refl, sym, ap, subst, ◌∙◌, inl, inr, arith}
use Rattle.std.proofs.lemmas.Bool.{and_parts, eqb-true, ltb-true}
use Rattle.std.specs.Prelude.{◌&&◌, ◌||◌, MatchBool, is_some, nat_le, nat_lt}
use Rattle.bus.specs.Stream.{is_same}
use Rattle.bus.specs.Syncing.{answer_to}
use Rattle.bus.specs.declared.message.Body.{Body}
use Rattle.bus.specs.declared.bodies.ElectionBody.TheVariants as of_election
use Rattle.bus.specs.declared.bodies.SlotsBody.TheVariants as of_slots
use Rattle.bus.specs.declared.bodies.StreamBody.TheVariants as of_stream
use Rattle.bus.specs.declared.message.Body.TheVariants as body
use Rattle.bus.specs.declared.bodies.Handing.{Handing}
use Rattle.bus.specs.declared.message.Message.{Message}
use Rattle.bus.specs.declared.answer.SyncAnswer.{SyncAnswer}
use Rattle.bus.specs.declared.answer.SyncAnswer.TheVariants as answers
use Rattle.bus.specs.declared.stream_id.StreamId.{StreamId}
use Rattle.command_table.specs.Table.{command_of}
use Rattle.connections.specs.Connections.{connection_at, may_ask}
use Rattle.connections.specs.declared.conn.Conn.{Conn}
use Rattle.election.specs.Electing.{after_grant, counted, counts, elected, elected_in, is_won, unless_won, with_grant}
use Rattle.election.specs.Failing.{has_failed, suspected}
use Rattle.election.specs.Health.{Election}
use Rattle.election.specs.Members.{Members, follows, is_voter}
use Rattle.election.specs.Voting.{may_grant}
use Rattle.election.specs.declared.running.Elected.{Elected}
use Rattle.election.specs.declared.voter.VoteRequest.{VoteRequest}
use Rattle.node_step.proofs.Kept.{pieced_keeps, restored_keeps, synced_is}
use Rattle.node_step.proofs.OfSlots.{AreAll, acknowledgement_is_of_slots, all_of_both, all_of_none, all_of_one, all_to_all, arrival_is_of_slots, claim_is_of_slots, noted_is_of_slots, request_is_of_slots, sent_again_are}
use Rattle.node_step.proofs.Ready.{judged_keeps, ready_keeps, succeeded_ends}
use Rattle.node_step.specs.Failing.{a_tick_older, members_of}
use Rattle.node_step.specs.Messages.{Choice, delivered, ready, taken, taken_so, written_by_message}
use Rattle.node_step.specs.Orders.{claim_of, others}
use Rattle.node_step.specs.Outcome.{Outcome, silent}
use Rattle.node_step.specs.Handovers.{asked_again, asked_to_pause, handed_again, handed_to, handing_of, handing_over, is_at_end, may_pause, may_take_over, noting, told_of_handing}
use Rattle.node_step.specs.Promotion.{handed_promotion, in_place_of, promotion, promotion_to, table_handed, table_of_master}
use Rattle.node_step.specs.Replicas.{sync_answer, sync_to}
use Rattle.node_step.specs.Requests.{request_outcome, using_up}
use Rattle.node_step.specs.State.{NodeState, is_replica, own_master}
use Rattle.node_step.specs.Step.{IsAnswering, IsClosing, MayCome, written}
use Rattle.node_step.specs.Ticks.{older, slots_tick, tick}
use Rattle.node_step.specs.Voting.{begun_so, due_epoch, grant_to, if_elected, in_election, request_of, requests_in, voters_of, voting}
use Rattle.node_step.specs.declared.event.Event.{Event}
use Rattle.node_step.specs.declared.event.Event.TheVariants.{Open, Close, Request, Deliver, Tick}
use Rattle.node_step.specs.declared.promotion.Promotion.{Promotion}
use Rattle.slot_table.specs.declared.entry.SlotEntry.{SlotEntry}
use Rattle.slot_table.specs.declared.runs.Run.{Run}
use Rattle.world_run.proofs.Lists.{contains_one}
use Rattle.world_run.specs.Ballots.{is_elected, was_cast}
use Rattle.world_run.specs.Run.{Entry, MayHappen, sent_by}
use Rattle.one_master.proofs.Casting.{elected_by_row, sent_is_cast}
use Rattle.one_master.proofs.Counting.{entered, nobody_entered}
use Rattle.one_master.proofs.Steps.{IsNoVote, IsStill, node_still, of_slots, quiet, with_written_leaves, slots_no_vote}
use Rattle.one_master.specs.Stands.{AreSent, NodeStands, StepStands}

-- ---- votes that are counted

elected_epoch : (epoch : ℕ) (won : Elected) → Some (record { epoch = epoch }) ≡ Some won → epoch ≡ won.epoch
elected_epoch epoch won is = cc

-- a vote that was sent, and whom an election counts
module _ (sent : List Message) (n from epoch : ℕ) (cast : was_cast sent from epoch n ≡ true) (members : Members) where
  one_more : (election : Election) → AreSent sent n (Some election) → counts election members from epoch ≡ true → AreSent sent n (Some (with_grant election from))
  one_more election are counts_so voter stands =
      let same_epoch : election.epoch ≡ epoch = eqb-true _ _ (and_parts (election.epoch == epoch) (is_voter members from) counts_so).0 in
      elim (entered election.granted from voter stands) [
        | inl same ↦ subst (λ (v : ℕ). was_cast sent v election.epoch n ≡ true) (sym same) (subst (λ (e : ℕ). was_cast sent from e n ≡ true) (sym same_epoch) cast)
        | inr before ↦ are voter before
      ]

  unless_sent : (election : Election) → AreSent sent n (Some election) → AreSent sent n (unless_won election members)
  unless_sent election are = by_test (is_won election members)
    where
      by_test : (b : Bool) → AreSent sent n (cond b None (Some election))
      by_test true = tt
      by_test false = are

  pub after_grant_sent : (election : Option Election) → AreSent sent n election → AreSent sent n (after_grant election members from epoch)
  after_grant_sent None are = tt
  after_grant_sent (Some election) are = by_test (counts election members from epoch) refl
    where
      by_test : (b : Bool) → counts election members from epoch ≡ b → AreSent sent n (cond b (unless_won (with_grant election from) members) (Some election))
      by_test true counts_so = unless_sent (with_grant election from) (one_more election are counts_so)
      by_test false counts_not = are

  -- who wins was elected by the votes that were sent
  pub elected_so : (election : Option Election) → AreSent sent n election → (won : Elected) → elected_in election members from epoch ≡ Some won → is_elected members.voters sent won.epoch n ≡ true
  elected_so None are won is = cc
  elected_so (Some election) are won is = by_test (counts election members from epoch && is_won (with_grant election from) members) refl is
    where
      by_test : (b : Bool) → (counts election members from epoch && is_won (with_grant election from) members) ≡ b → cond b (Some (record { epoch = epoch })) None ≡ Some won
          → is_elected members.voters sent won.epoch n ≡ true
      by_test false not_won is = cc
      by_test true wins is =
          let parts = and_parts (counts election members from epoch) (is_won (with_grant election from) members) wins in
          let same_epoch : election.epoch ≡ epoch = eqb-true _ _ (and_parts (election.epoch == epoch) (is_voter members from) parts.0).0 in
          let its_epoch : epoch ≡ won.epoch = elected_epoch epoch won is in
          subst (λ (e : ℕ). is_elected members.voters sent e n ≡ true) (same_epoch ∙ its_epoch)
          (elected_by_row members.voters sent election.epoch n (with_grant election from).granted (one_more election are parts.0) (ltb-true _ _ parts.1))

-- ---- rows

module _ (voters : List ℕ) (sent : List Message) (n : ℕ) (node : NodeState) (stands : NodeStands voters sent n node) where
  abbrev Leaves : Outcome → Type 0
  Leaves outcome = StepStands voters sent n node.voter.last_vote (is_replica node) outcome

  still : IsStill node node
  still = record { number = refl; config = refl; voter = refl; election = inl refl; role = refl }

  nothing : Leaves (silent node)
  nothing = quiet voters sent n node stands (silent node) still (all_of_none IsNoVote) refl

  -- a replica asks for a vote
  vote_leaves : (request : VoteRequest) (granted : Bool) → may_grant node.voter (members_of node) node.health node.current_epoch request ≡ granted → Leaves (voting node request granted)
  vote_leaves request false may = quiet voters sent n node stands (voting node request false) (record { number = refl; config = refl; voter = refl; election = inl refl; role = refl }) (all_of_none IsNoVote) refl
  vote_leaves request true may =
      let votes : Bool = is_voter (members_of node) node.number in
      let is_later : Bool = nat_lt node.voter.last_vote request.epoch in
      let is_current : Bool = nat_le node.current_epoch request.epoch in
      let is_replica_of : Bool = follows (members_of node) request.candidate request.master in
      let four = and_parts (votes && is_later && is_current && is_replica_of) (request.planned || has_failed node.health (members_of node) request.master) may in
      let three = and_parts (votes && is_later && is_current) is_replica_of four.0 in
      let two = and_parts (votes && is_later) is_current three.0 in
      let later : node.voter.last_vote < request.epoch = ltb-true _ _ (and_parts votes is_later two.0).1 in
      record {
        number = stands.number;
        voters_are = stands.voters_are;
        rises = omega (arith, later);
        votes = λ candidate epoch among.
            let it = the_vote candidate epoch among in
            record {
              later = subst (λ (e : ℕ). node.voter.last_vote < e) it.1 later;
              remembered = subst (λ (e : ℕ). e ≤ request.epoch) it.1 (omega arith);
              alone = λ other also. sym it.0 ∙ (the_vote other epoch also).0;
            };
        counted = stands.counted;
        stays = λ master. master;
        promoted = λ promotion is. cc;
      }
    where
      grant_epoch : Body → ℕ
      grant_epoch (body.Election (of_election.Grant epoch)) = epoch
      grant_epoch other = 0

      the_vote : (candidate epoch : ℕ) → Contains (grant_to request true) (candidate, body.Election (of_election.Grant epoch)) → (request.candidate ≡ candidate) × (request.epoch ≡ epoch)
      the_vote candidate epoch among =
          let same = contains_one (request.candidate, body.Election (of_election.Grant request.epoch)) (candidate, body.Election (of_election.Grant epoch)) among in
          (ap (λ (p : ℕ × Body). p.0) same, ap (λ (p : ℕ × Body). grant_epoch p.1) same)

  -- a node votes for this one
  module _ (from epoch : ℕ) (cast : was_cast sent from epoch n ≡ true) where
    abbrev counting : NodeState
    counting = record node { candidate = counted node.candidate (members_of node) from epoch }

    counted_leaves : Leaves (silent counting)
    counted_leaves = record {
      number = stands.number;
      voters_are = stands.voters_are;
      rises = omega arith;
      votes = λ candidate epoch among. absurd (omega (arith, among.1));
      counted = after_grant_sent sent n from epoch cast (members_of node) node.candidate.election stands.counted;
      stays = λ master. master;
      promoted = λ promotion is. cc;
    }

    promoted_leaves : (won : Elected) → elected node.candidate (members_of node) from epoch ≡ Some won → (planned : Bool) (table : List (Option SlotEntry)) (master : ℕ) → own_master node ≡ Some master
        → Leaves (promotion_to counting master won.epoch planned table)
    promoted_leaves won is planned table master own =
        let master_now : is_replica (in_place_of counting master won.epoch table) ≡ false = ap is_some (succeeded_ends node.masters master node.number) in
        record {
          number = stands.number;
          voters_are = stands.voters_are;
          rises = omega arith;
          votes = λ candidate epoch among. absurd (all_to_all IsNoVote (others counting) _ (λ epoch is. cc) candidate (body.Election (of_election.Grant epoch)) among epoch refl);
          counted = tt;
          stays = λ was. master_now;
          promoted = λ promotion told. record {
            was = ap is_some own;
            is = master_now;
            elected =
                let its_epoch : won.epoch ≡ promotion.epoch = promoted_epoch won planned promotion told in
                subst (λ (e : ℕ). is_elected voters sent e n ≡ true) its_epoch
                (subst (λ (all : List ℕ). is_elected all sent won.epoch n ≡ true) stands.voters_are
                (elected_so sent n from epoch cast (members_of node) node.candidate.election stands.counted won is));
          };
        }
      where
        promoted_epoch : (won : Elected) (planned : Bool) (promotion : Promotion) → Some (record { stream = node.stream.held.id; offset = node.stream.offset; epoch = won.epoch; planned = planned }) ≡ Some promotion → won.epoch ≡ promotion.epoch
        promoted_epoch won planned promotion is = cc

    promotion_leaves : (won : Elected) → elected node.candidate (members_of node) from epoch ≡ Some won → (master : Option ℕ) → own_master node ≡ master → Leaves (promotion counting won.epoch master)
    promotion_leaves won is None own = counted_leaves
    promotion_leaves won is (Some master) own = promoted_leaves won is false (table_of_master counting master won.epoch) master own

    handed_leaves : (won : Elected) → elected node.candidate (members_of node) from epoch ≡ Some won → (master : Option ℕ) (told : Option Handing) → own_master node ≡ master → Leaves (handed_promotion counting won.epoch master told)
    handed_leaves won is None told own = counted_leaves
    handed_leaves won is (Some master) None own = counted_leaves
    handed_leaves won is (Some master) (Some handing) own = by_place (is_at_end node.stream (Some handing))
      where
        by_place : (b : Bool) → Leaves (cond b (promotion_to counting master won.epoch true (table_handed counting handing.slots won.epoch)) (silent counting))
        by_place true = promoted_leaves won is true (table_handed counting handing.slots won.epoch) master own
        by_place false = counted_leaves

    voted_leaves : (won : Option Elected) → elected node.candidate (members_of node) from epoch ≡ won → Leaves (if_elected counting won)
    voted_leaves None is = counted_leaves
    voted_leaves (Some won) is = by_plan node.candidate.planned
      where
        by_plan : (planned : Bool) → Leaves (cond planned (handed_promotion counting won.epoch (own_master node) node.handover.note) (promotion counting won.epoch (own_master node)))
        by_plan true = handed_leaves won is (own_master node) node.handover.note refl
        by_plan false = promotion_leaves won is (own_master node) refl

  -- an answer to a replica
  sync_sent : (from : ℕ) (answer : SyncAnswer) → AreAll IsNoVote (sync_answer node from answer)
  sync_sent from answers.UpToDate = all_of_none IsNoVote
  sync_sent from (answers.Piece piece) = all_of_one IsNoVote from (body.Stream (of_stream.Piece piece)) (λ epoch is. cc)
  sync_sent from answers.Snapshot = all_of_one IsNoVote from _ (λ epoch is. cc)

  -- a master is asked to hand over, and a replica is told of it
  handed_again_sent : (replica : Option ℕ) (slots : List (Run ℕ)) → AreAll IsNoVote (handed_again node replica slots)
  handed_again_sent None slots = all_of_none IsNoVote
  handed_again_sent (Some replica) [] = all_of_none IsNoVote
  handed_again_sent (Some replica) (run ∷ slots) = all_of_one IsNoVote replica (body.Election (of_election.Paused (handing_of node))) (λ epoch is. cc)

  handed_sent : (replica : ℕ) (paused : Option ℕ) → AreAll IsNoVote (handed_to node replica paused)
  handed_sent replica None = all_of_one IsNoVote replica (body.Election (of_election.Paused (handing_of node))) (λ epoch is. cc)
  handed_sent replica (Some other) = handed_again_sent (Some replica) (claim_of node)

  pause_leaves : (from : ℕ) (stream : StreamId) → Leaves (asked_to_pause node from stream)
  pause_leaves from stream = by_test (may_pause node from stream)
    where
      by_test : (b : Bool) → Leaves (cond b (handing_over node from) (silent node))
      by_test true = quiet voters sent n node stands (handing_over node from) (record { number = refl; config = refl; voter = refl; election = inl refl; role = refl }) (handed_sent from node.paused) refl
      by_test false = nothing

  noting_leaves : (handing : Handing) → Leaves (told_of_handing node handing)
  noting_leaves handing = by_test (is_replica node && is_same handing.stream node.stream.held.id)
    where
      by_test : (b : Bool) → Leaves (silent (cond b (record node { handover = noting node.handover handing }) node))
      by_test true = quiet voters sent n node stands _ (record { number = refl; config = refl; voter = refl; election = inl refl; role = refl }) (all_of_none IsNoVote) refl
      by_test false = nothing

  -- a row of messages
  so_taken_leaves : (from : ℕ) (choice : Choice) (said : Body) → ((epoch : ℕ) → said ≡ body.Election (of_election.Grant epoch) → was_cast sent from epoch n ≡ true) → Leaves (taken_so node from choice said)
  so_taken_leaves from choice (body.Slots (of_slots.Copy id pairs)) cast =
      of_slots voters sent n node stands _ _ (arrival_is_of_slots (IsStill node) node (λ keyspace table moves current handover connections known noted. record { number = refl; config = refl; voter = refl; election = inl refl; role = refl }) from id pairs)
  so_taken_leaves from choice (body.Slots (of_slots.Ack id)) cast =
      of_slots voters sent n node stands _ _ (acknowledgement_is_of_slots (IsStill node) node (λ keyspace table moves current handover connections known noted. record { number = refl; config = refl; voter = refl; election = inl refl; role = refl }) from id)
  so_taken_leaves from choice (body.Slots (of_slots.Drained slot number epoch)) cast =
      of_slots voters sent n node stands _ _ (noted_is_of_slots (IsStill node) node (λ keyspace table moves current handover connections known noted. record { number = refl; config = refl; voter = refl; election = inl refl; role = refl }) from slot number epoch)
  so_taken_leaves from choice (body.Slots (of_slots.Claim slots replaced)) cast =
      of_slots voters sent n node stands _ _ (claim_is_of_slots (IsStill node) node (λ keyspace table moves current handover connections known noted. record { number = refl; config = refl; voter = refl; election = inl refl; role = refl }) from slots)
  so_taken_leaves from choice (body.Report suspects) cast = nothing
  so_taken_leaves from choice (body.Election (of_election.Candidacy request)) cast = vote_leaves (request_of from request) _ refl
  so_taken_leaves from choice (body.Election (of_election.Grant epoch)) cast = voted_leaves from epoch (cast epoch refl) _ refl
  so_taken_leaves from choice (body.Stream (of_stream.Sync sync)) cast =
      synced_is Leaves node from sync nothing (quiet voters sent n node stands _ (record { number = refl; config = refl; voter = refl; election = inl refl; role = refl }) (sync_sent from (answer_to node.stream sync)) refl)
  so_taken_leaves from choice (body.Stream (of_stream.Piece piece)) cast =
      quiet voters sent n node stands _ (pieced_keeps (IsStill node) node (λ stream keyspace. record { number = refl; config = refl; voter = refl; election = inl refl; role = refl }) from piece choice.follower) (all_of_none IsNoVote) refl
  so_taken_leaves from choice (body.Stream (of_stream.Snapshot snapshot)) cast =
      quiet voters sent n node stands _ (restored_keeps (IsStill node) node (λ stream keyspace. record { number = refl; config = refl; voter = refl; election = inl refl; role = refl }) from snapshot) (all_of_none IsNoVote) refl
  so_taken_leaves from choice (body.Election (of_election.Pause stream)) cast = pause_leaves from stream
  so_taken_leaves from choice (body.Election (of_election.Paused handing)) cast = noting_leaves handing

  taken_leaves : (from : ℕ) (choice : Choice) (said : Body) → ((epoch : ℕ) → said ≡ body.Election (of_election.Grant epoch) → was_cast sent from epoch n ≡ true) → Leaves (taken node from choice said)
  taken_leaves from choice said cast =
      with_written_leaves voters sent n node.voter.last_vote (is_replica node) (taken_so node from choice said) (written_by_message node from said) choice.dropped (so_taken_leaves from choice said cast)

-- ---- events

module _ (voters : List ℕ) (past : List Entry) (n : ℕ) (node : NodeState) (stands : NodeStands voters (sent_by past) n node) where
  abbrev LeavesAll : Outcome → Type 0
  LeavesAll outcome = StepStands voters (sent_by past) n node.voter.last_vote (is_replica node) outcome

  pub nothing_leaves : LeavesAll (silent node)
  nothing_leaves = nothing voters (sent_by past) n node stands

  delivered_leaves : (message : Message) (choice : Choice) → Contains (sent_by past) message → LeavesAll (delivered node message choice)
  delivered_leaves message choice among = by_target (message.to == node.number) refl
    where
      by_target : (b : Bool) → (message.to == node.number) ≡ b → LeavesAll (cond b (taken (ready node message) message.from choice message.body) (silent node))
      by_target false other = nothing voters (sent_by past) n node stands
      by_target true mine =
          let to_here : message.to ≡ n = eqb-true message.to node.number mine ∙ stands.number in
          ready_keeps (λ (ready : NodeState). LeavesAll (taken ready message.from choice message.body)) node message (λ epoch masters health candidate handover role election.
          let heard : NodeState = record node { current_epoch = epoch; masters = masters; health = health; candidate = candidate; handover = handover } in
          let still : IsStill node heard = record { number = refl; config = refl; voter = refl; election = election; role = role } in
          subst (λ (replica : Bool). StepStands voters (sent_by past) n node.voter.last_vote replica (taken heard message.from choice message.body)) role
          (taken_leaves voters (sent_by past) n heard (node_still voters (sent_by past) n node heard still stands) message.from choice message.body
          (λ epoch is. subst (λ (to : ℕ). was_cast (sent_by past) message.from epoch to ≡ true) to_here (sent_is_cast (sent_by past) message epoch among is))))

  -- a tick
  tick_leaves : LeavesAll (tick node)
  tick_leaves = by_epoch (due_epoch aged)
    where
      aged : NodeState
      aged = a_tick_older (older node)

      sync : (master : Option ℕ) → AreAll IsNoVote (sync_to node.stream master)
      sync None = all_of_none IsNoVote
      sync (Some master) = all_of_one IsNoVote master _ (λ epoch is. cc)

      requests : (epoch master : Option ℕ) → AreAll IsNoVote (requests_in aged epoch master)
      requests None master = all_of_none IsNoVote
      requests (Some epoch) None = all_of_none IsNoVote
      requests (Some epoch) (Some master) = all_to_all IsNoVote (voters_of aged) _ (λ epoch is. cc)

      asks : (asked : Bool) (master : Option ℕ) → AreAll IsNoVote (asked_again asked node.stream.held.id master)
      asks true (Some master) = all_of_one IsNoVote master _ (λ epoch is. cc)
      asks true None = all_of_none IsNoVote
      asks false master = all_of_none IsNoVote

      no_vote : AreAll IsNoVote (tick node).sent
      no_vote =
          all_of_both IsNoVote _ _
          (all_of_both IsNoVote _ _
          (all_of_both IsNoVote _ _
          (all_of_both IsNoVote _ _
          (all_of_both IsNoVote _ _ (λ to said among. slots_no_vote node said (sent_again_are node to said among))
          (all_of_both IsNoVote _ _ (all_to_all IsNoVote (others node) (body.Slots (of_slots.Claim (claim_of node) node.replaced)) (λ epoch is. cc))
          (all_to_all IsNoVote (others node) (body.Report (suspected aged.health (members_of node))) (λ epoch is. cc))))
          (sync (own_master node)))
          (asks node.handover.asked (own_master node)))
          (handed_again_sent voters (sent_by past) n node stands node.paused (claim_of node)))
          (requests (due_epoch aged) (own_master node))

      begun_counts : (planned : Bool) (epoch : ℕ) → AreSent (sent_by past) n (begun_so planned aged.candidate epoch).election
      begun_counts true epoch = λ voter stands. absurd (nobody_entered 16 voter stands)
      begun_counts false epoch = λ voter stands. absurd (nobody_entered 16 voter stands)

      by_epoch : (due : Option ℕ) → LeavesAll (record (slots_tick node) { sent = (tick node).sent; state = in_election aged due })
      by_epoch None =
          quiet voters (sent_by past) n node stands (record (slots_tick node) { sent = (tick node).sent; state = aged })
          (record { number = refl; config = refl; voter = refl; election = inl (judged_keeps _ (members_of node) aged.health); role = refl }) no_vote refl
      by_epoch (Some epoch) = record {
        number = stands.number;
        voters_are = stands.voters_are;
        rises = omega arith;
        votes = λ candidate epoch among. absurd (no_vote candidate (body.Election (of_election.Grant epoch)) among epoch refl);
        counted = begun_counts (may_take_over aged) epoch;
        stays = λ master. master;
        promoted = λ promotion is. cc;
      }

  -- a request
  answering_leaves : (conn : Conn) (words : List (List ℕ)) (outcome : Outcome) → IsAnswering node conn words outcome → LeavesAll outcome
  answering_leaves conn words outcome answering =
      subst LeavesAll (sym answering.comes_to)
      (with_written_leaves voters (sent_by past) n node.voter.last_vote (is_replica node) (request_outcome node conn (command_of words)) (written node conn words) answering.dropped
      (of_slots voters (sent_by past) n node stands _ (request_outcome node conn (command_of words))
      (request_is_of_slots (IsStill node) (using_up node conn) (λ keyspace table moves current handover connections known noted. record { number = refl; config = refl; voter = refl; election = inl refl; role = refl })
      conn (connection_at node.connections conn) (command_of words))))

  with_connections : (outcome : Outcome) → IsStill node outcome.state → outcome.sent ≡ [] → outcome.promoted ≡ None → LeavesAll outcome
  with_connections outcome still none no_promotion =
      quiet voters (sent_by past) n node stands outcome still (subst (AreAll IsNoVote) (sym none) (all_of_none IsNoVote)) no_promotion

  closing_leaves : (conn : Conn) (is_open : Bool) (outcome : Outcome) → MatchBool is_open (IsClosing node conn outcome) (outcome ≡ silent node) → LeavesAll outcome
  closing_leaves conn false outcome may = subst LeavesAll (sym may) nothing_leaves
  closing_leaves conn true outcome may =
      subst LeavesAll (sym may.comes_to)
      (with_connections (silent (record node { connections = outcome.state.connections })) (record { number = refl; config = refl; voter = refl; election = inl refl; role = refl }) refl refl)

  request_leaves : (conn : Conn) (words : List (List ℕ)) (asks : Bool) (outcome : Outcome) → MatchBool asks (IsAnswering node conn words outcome) (outcome ≡ silent node) → LeavesAll outcome
  request_leaves conn words false outcome may = subst LeavesAll (sym may) nothing_leaves
  request_leaves conn words true outcome may = answering_leaves conn words outcome may

  pub event_leaves : (event : Event) (outcome : Outcome) → MayHappen past event → MayCome node event outcome → LeavesAll outcome
  event_leaves Open outcome happens may =
      subst LeavesAll (sym may.comes_to) (with_connections _ (record { number = refl; config = refl; voter = refl; election = inl refl; role = refl }) refl refl)
  event_leaves (Close conn) outcome happens may = closing_leaves conn (is_some (connection_at node.connections conn)) outcome may
  event_leaves (Request conn words) outcome happens may = request_leaves conn words (may_ask (connection_at node.connections conn)) outcome may
  event_leaves (Deliver message) outcome happens may = subst LeavesAll (sym may.comes_to) (delivered_leaves message may.choice happens)
  event_leaves Tick outcome happens may = subst LeavesAll (sym may.comes_to) tick_leaves
