-- What a planned promotion is: the replica noted what its master hands over, is elected for it, and has the whole stream up to there.
use Rattle.std.proofs.Common.{◌≡◌, ◌≤◌, ◌==◌, ◌&&◌, ℕ, Bool, true, false, cond, Option, Some, None, refl, sym, ap, subst, ◌∙◌, inl, inr}
use Rattle.std.proofs.lemmas.Bool.{and_parts, both_ways, eqb-true}
use Rattle.std.specs.Prelude.{MatchBool, is_some, option_map}
use Rattle.bus.specs.Stream.{StreamView}
use Rattle.bus.specs.declared.message.Body.{Body}
use Rattle.bus.specs.declared.bodies.ElectionBody.TheVariants as of_election
use Rattle.bus.specs.declared.bodies.SlotsBody.TheVariants as of_slots
use Rattle.bus.specs.declared.bodies.StreamBody.TheVariants as of_stream
use Rattle.bus.specs.declared.message.Body.TheVariants as body
use Rattle.bus.specs.declared.bodies.Handing.{Handing}
use Rattle.bus.specs.declared.message.Message.{Message}
use Rattle.command_table.specs.Table.{command_of}
use Rattle.connections.specs.Connections.{connection_at, may_ask}
use Rattle.election.specs.Electing.{counted, counts, elected, elected_in, is_won, with_grant}
use Rattle.election.specs.Health.{Election}
use Rattle.election.specs.Members.{Members, is_voter}
use Rattle.election.specs.declared.running.Elected.{Elected}
use Rattle.node_step.proofs.Kept.{synced_is}
use Rattle.node_step.proofs.OfSlots.{acknowledgement_is_of_slots, arrival_is_of_slots, claim_is_of_slots, request_is_of_slots}
use Rattle.node_step.proofs.Ready.{ready_keeps}
use Rattle.node_step.proofs.WithWritten.{with_written_promoted}
use Rattle.node_step.specs.Failing.{members_of}
use Rattle.node_step.specs.Handovers.{handing_over, is_at_end, may_pause}
use Rattle.node_step.specs.Messages.{Choice, ready, taken, taken_so, written_by_message}
use Rattle.node_step.specs.Outcome.{Outcome, silent}
use Rattle.node_step.specs.Promotion.{handed_promotion, promotion, promotion_to, table_handed}
use Rattle.node_step.specs.Requests.{request_outcome, using_up}
use Rattle.node_step.specs.Roles.{replaced_in}
use Rattle.node_step.specs.State.{NodeState, own_master}
use Rattle.node_step.specs.Step.{IsAnswering, IsClosing, MayCome, written as written_at}
use Rattle.node_step.specs.Voting.{if_elected, voted_for}
use Rattle.node_step.specs.declared.event.Event.{Event}
use Rattle.node_step.specs.declared.event.Event.TheVariants.{Open, Close, Request, Deliver, Tick}
use Rattle.node_step.specs.declared.promotion.Promotion.{Promotion}
use Rattle.single_keyspace.proofs.Peering.{Goes, goes_then, ready_does}
use Rattle.single_keyspace.proofs.Seen.{no_some, same_some}
use Rattle.single_keyspace.specs.Handing.{planned_epoch}

-- the node that counts the last vote has the slots, the keys and the stream that the node had
pub record Succession (node : NodeState) (outcome : Outcome) : Type 0 where
  pub counting : NodeState
  pub number : counting.number ≡ node.number
  pub table : counting.table ≡ node.table
  pub moves : counting.moves ≡ node.moves
  pub keyspace : counting.keyspace ≡ node.keyspace
  pub paused : counting.paused ≡ node.paused
  pub current : node.current_epoch ≤ counting.current_epoch
  pub master : ℕ
  pub epoch : ℕ
  pub handing : Handing
  pub follows : own_master node ≡ Some master
  pub noted : node.handover.note ≡ Some handing
  pub planned : planned_epoch node.candidate ≡ Some epoch
  pub at_end : is_at_end node.stream (Some handing) ≡ true
  pub comes_to : outcome ≡ promotion_to counting master epoch true (table_handed counting handing.slots epoch)

-- what a message leaves as it is before it is taken
record IsLike (node heard : NodeState) : Type 0 where
  number : heard.number ≡ node.number
  table : heard.table ≡ node.table
  moves : heard.moves ≡ node.moves
  keyspace : heard.keyspace ≡ node.keyspace
  stream : heard.stream ≡ node.stream

-- who wins an election has it
elected_epoch : (election : Option Election) (members : Members) (from epoch : ℕ) (won : Elected) → elected_in election members from epoch ≡ Some won
    → option_map (λ (e : Election). e.epoch) election ≡ Some won.epoch
elected_epoch None members from epoch won is = absurd (no_some refl is)
elected_epoch (Some election) members from epoch won is = by_test (counts election members from epoch && is_won (with_grant election from) members) refl is
  where
    by_test : (b : Bool) → (counts election members from epoch && is_won (with_grant election from) members) ≡ b → cond b (Some (record { epoch = epoch })) None ≡ Some won → Some election.epoch ≡ Some won.epoch
    by_test false lost is = absurd (no_some refl is)
    by_test true wins is =
        let parts = and_parts (counts election members from epoch) (is_won (with_grant election from) members) wins in
        ap Some (eqb-true election.epoch epoch (and_parts (election.epoch == epoch) (is_voter members from) parts.0).0 ∙ ap (λ (w : Elected). w.epoch) (same_some refl is))

module _ (node heard : NodeState) (goes : Goes node heard) (like : IsLike node heard) (from epoch : ℕ) (promoted : Promotion) (planned : promoted.planned ≡ true) where
  abbrev counts_it : NodeState
  counts_it = record heard { candidate = counted heard.candidate (members_of heard) from epoch }

  not_planned : (promotion : Promotion) → promotion.planned ≡ false → promotion ≡ promoted → ⊥
  not_planned promotion not_so same = both_ways promotion.planned not_so (ap (λ (p : Promotion). p.planned) same ∙ planned)

  voted_turns : (voted_for heard from epoch).promoted ≡ Some promoted → Succession node (voted_for heard from epoch)
  voted_turns = by_won (elected heard.candidate (members_of heard) from epoch) refl
    where
      by_won : (won : Option Elected) → elected heard.candidate (members_of heard) from epoch ≡ won → (if_elected counts_it won).promoted ≡ Some promoted → Succession node (if_elected counts_it won)
      by_won None lost now = absurd (no_some refl now)
      by_won (Some won) wins now = by_plan heard.candidate.planned refl now
        where
          failed : (master : Option ℕ) → (promotion counts_it won.epoch master).promoted ≡ Some promoted → Succession node (promotion counts_it won.epoch master)
          failed None now = absurd (no_some refl now)
          failed (Some master) now = absurd (not_planned (record { stream = heard.stream.held.id; offset = heard.stream.offset; epoch = won.epoch; planned = false }) refl (same_some refl now))

          handed : heard.candidate.planned ≡ true → (master : Option ℕ) → own_master heard ≡ master → (told : Option Handing) → heard.handover.note ≡ told
              → (handed_promotion counts_it won.epoch master told).promoted ≡ Some promoted → Succession node (handed_promotion counts_it won.epoch master told)
          handed plans None follows told noted now = absurd (no_some refl now)
          handed plans (Some master) follows None noted now = absurd (no_some refl now)
          handed plans (Some master) follows (Some handing) noted now = by_place (is_at_end heard.stream (Some handing)) refl now
            where
              its_epoch : planned_epoch heard.candidate ≡ Some won.epoch
              its_epoch = ap (λ (b : Bool). cond b (option_map (λ (e : Election). e.epoch) heard.candidate.election) None) plans ∙ elected_epoch heard.candidate.election (members_of heard) from epoch won wins

              by_place : (b : Bool) → is_at_end heard.stream (Some handing) ≡ b
                  → (cond b (promotion_to counts_it master won.epoch true (table_handed counts_it handing.slots won.epoch)) (silent counts_it)).promoted ≡ Some promoted
                  → Succession node (cond b (promotion_to counts_it master won.epoch true (table_handed counts_it handing.slots won.epoch)) (silent counts_it))
              by_place false behind now = absurd (no_some refl now)
              by_place true at_end now = record {
                counting = counts_it;
                number = like.number;
                table = like.table;
                moves = like.moves;
                keyspace = like.keyspace;
                paused = goes.paused;
                current = goes.current;
                master = master;
                epoch = won.epoch;
                handing = handing;
                follows = sym goes.master ∙ follows;
                noted = sym goes.note ∙ noted;
                planned = elim goes.planned [ inl same ↦ sym same ∙ its_epoch | inr none ↦ absurd (no_some none its_epoch) ];
                at_end = ap (λ (s : StreamView). is_at_end s (Some handing)) (sym like.stream) ∙ at_end;
                comes_to = refl;
              }

          by_plan : (plans : Bool) → heard.candidate.planned ≡ plans
              → (cond plans (handed_promotion counts_it won.epoch (own_master heard) heard.handover.note) (promotion counts_it won.epoch (own_master heard))).promoted ≡ Some promoted
              → Succession node (cond plans (handed_promotion counts_it won.epoch (own_master heard) heard.handover.note) (promotion counts_it won.epoch (own_master heard)))
          by_plan true plans now = handed plans (own_master heard) refl heard.handover.note refl now
          by_plan false plans now = failed (own_master heard) now

-- ---- nothing else promotes a node

module _ (node : NodeState) where
  abbrev IsQuiet : Outcome → Type 0
  IsQuiet outcome = outcome.promoted ≡ None

  acknowledged_or_not : (from : ℕ) (b : Bool) → IsQuiet (cond b (handing_over node from) (silent node))
  acknowledged_or_not from true = refl
  acknowledged_or_not from false = refl

  row_quiet : (from : ℕ) (choice : Choice) (said : Body) → ((epoch : ℕ) → said ≡ body.Election (of_election.Grant epoch) → ⊥) → IsQuiet (taken_so node from choice said)
  row_quiet from choice (body.Slots (of_slots.Copy id pairs)) no_grant =
      (arrival_is_of_slots (λ s. s.number ≡ node.number) node (λ keyspace table moves current handover connections known noted. refl) from id pairs).promoted
  row_quiet from choice (body.Slots (of_slots.Ack id)) no_grant =
      (acknowledgement_is_of_slots (λ s. s.number ≡ node.number) node (λ keyspace table moves current handover connections known noted. refl) from id).promoted
  row_quiet from choice (body.Slots (of_slots.Drained slot number epoch)) no_grant = refl
  row_quiet from choice (body.Slots (of_slots.Claim slots replaced)) no_grant =
      (claim_is_of_slots (λ s. s.number ≡ node.number) node (λ keyspace table moves current handover connections known noted. refl) from slots).promoted
  row_quiet from choice (body.Report suspects) no_grant = refl
  row_quiet from choice (body.Election (of_election.Candidacy request)) no_grant = refl
  row_quiet from choice (body.Election (of_election.Grant epoch)) no_grant = absurd (no_grant epoch refl)
  row_quiet from choice (body.Stream (of_stream.Sync sync)) no_grant = synced_is IsQuiet node from sync refl refl
  row_quiet from choice (body.Stream (of_stream.Piece piece)) no_grant = refl
  row_quiet from choice (body.Stream (of_stream.Snapshot snapshot)) no_grant = refl
  row_quiet from choice (body.Election (of_election.Pause stream)) no_grant = acknowledged_or_not from (may_pause node from stream)
  row_quiet from choice (body.Election (of_election.Paused handing)) no_grant = refl

-- ---- any event

pub event_turns : (node : NodeState) (event : Event) (outcome : Outcome) → MayCome node event outcome → (promoted : Promotion) → outcome.promoted ≡ Some promoted → promoted.planned ≡ true
    → (message : Message) × (event ≡ Deliver message) × Succession node outcome
event_turns node Open outcome may promoted now planned = absurd (no_some (ap (λ (o : Outcome). o.promoted) may.comes_to) now)
event_turns node (Close conn) outcome may promoted now planned = absurd (no_some (by_open (is_some (connection_at node.connections conn)) may) now)
  where
    by_open : (is_open : Bool) → MatchBool is_open (IsClosing node conn outcome) (outcome ≡ silent node) → outcome.promoted ≡ None
    by_open false may = ap (λ (o : Outcome). o.promoted) may
    by_open true may = ap (λ (o : Outcome). o.promoted) may.comes_to
event_turns node (Request conn words) outcome may promoted now planned = absurd (no_some (by_asking (may_ask (connection_at node.connections conn)) may) now)
  where
    by_asking : (asks : Bool) → MatchBool asks (IsAnswering node conn words outcome) (outcome ≡ silent node) → outcome.promoted ≡ None
    by_asking false may = ap (λ (o : Outcome). o.promoted) may
    by_asking true may =
        ap (λ (o : Outcome). o.promoted) may.comes_to
        ∙ with_written_promoted (request_outcome node conn (command_of words)) (written_at node conn words) may.dropped
        ∙ (request_is_of_slots (λ s. s.number ≡ node.number) (using_up node conn) (λ keyspace table moves current handover connections known noted. refl) conn (connection_at node.connections conn) (command_of words)).promoted
event_turns node (Deliver message) outcome may promoted now planned =
    (message, refl, subst (Succession node) (sym may.comes_to) (by_target (message.to == node.number) (ap (λ (o : Outcome). o.promoted) (sym may.comes_to) ∙ now)))
  where
    like : IsLike node (ready node message)
    like = ready_keeps (IsLike node) node message (λ epoch masters health candidate handover role election. record { number = refl; table = refl; moves = refl; keyspace = refl; stream = refl })

    others : (said : Body) → ((epoch : ℕ) → said ≡ body.Election (of_election.Grant epoch) → ⊥) → (taken (ready node message) message.from may.choice said).promoted ≡ Some promoted → Succession node (taken (ready node message) message.from may.choice said)
    others said no_grant now =
        absurd (no_some (with_written_promoted (taken_so (ready node message) message.from may.choice said) (written_by_message (ready node message) message.from said) may.choice.dropped ∙ row_quiet (ready node message) message.from may.choice said no_grant) now)

    by_body : (said : Body) → message.body ≡ said → (taken (ready node message) message.from may.choice said).promoted ≡ Some promoted → Succession node (taken (ready node message) message.from may.choice said)
    by_body (body.Election (of_election.Grant epoch)) is now = voted_turns node (ready node message) (goes_then message node (ready node message) (ap replaced_in is) (ready_does node message)) like message.from epoch promoted planned now
    by_body (body.Slots (of_slots.Copy id pairs)) is now = others (body.Slots (of_slots.Copy id pairs)) (λ epoch same. cc) now
    by_body (body.Slots (of_slots.Ack id)) is now = others (body.Slots (of_slots.Ack id)) (λ epoch same. cc) now
    by_body (body.Slots (of_slots.Drained slot number e)) is now = others (body.Slots (of_slots.Drained slot number e)) (λ epoch same. cc) now
    by_body (body.Slots (of_slots.Claim slots replaced)) is now = others (body.Slots (of_slots.Claim slots replaced)) (λ epoch same. cc) now
    by_body (body.Report suspects) is now = others (body.Report suspects) (λ epoch same. cc) now
    by_body (body.Election (of_election.Candidacy request)) is now = others (body.Election (of_election.Candidacy request)) (λ epoch same. cc) now
    by_body (body.Stream (of_stream.Sync sync)) is now = others (body.Stream (of_stream.Sync sync)) (λ epoch same. cc) now
    by_body (body.Stream (of_stream.Piece piece)) is now = others (body.Stream (of_stream.Piece piece)) (λ epoch same. cc) now
    by_body (body.Stream (of_stream.Snapshot snapshot)) is now = others (body.Stream (of_stream.Snapshot snapshot)) (λ epoch same. cc) now
    by_body (body.Election (of_election.Pause stream)) is now = others (body.Election (of_election.Pause stream)) (λ epoch same. cc) now
    by_body (body.Election (of_election.Paused handing)) is now = others (body.Election (of_election.Paused handing)) (λ epoch same. cc) now

    by_target : (b : Bool) → (cond b (taken (ready node message) message.from may.choice message.body) (silent node)).promoted ≡ Some promoted
        → Succession node (cond b (taken (ready node message) message.from may.choice message.body) (silent node))
    by_target false now = absurd (no_some refl now)
    by_target true now = by_body message.body refl now
event_turns node Tick outcome may promoted now planned = absurd (no_some (ap (λ (o : Outcome). o.promoted) may.comes_to) now)
