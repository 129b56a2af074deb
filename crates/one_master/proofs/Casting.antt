-- Votes among messages.
use Rattle.std.proofs.Common.{◌≡◌, ◌<◌, ◌==◌, ◌*◌, ℕ, List, map, Bool, true, false, Option, Some, None, Contains, length, refl, sym, ap, ap₂, subst, ◌∙◌, inl, inr, arith}
use Rattle.std.proofs.lemmas.Bool.{and_from, and_parts, both_ways, cases_eq, eq-eqb, eqb-true, lt-ltb, ltb-true}
use Rattle.std.specs.Prelude.{◌&&◌, count_by, slice_index_or}
use Rattle.bus.specs.declared.message.Body.{Body}
use Rattle.bus.specs.declared.bodies.ElectionBody.TheVariants as of_election
use Rattle.bus.specs.declared.bodies.SlotsBody.TheVariants as of_slots
use Rattle.bus.specs.declared.bodies.StreamBody.TheVariants as of_stream
use Rattle.bus.specs.declared.message.Body.TheVariants as body
use Rattle.bus.specs.declared.message.Message.{Message}
use Rattle.election.specs.Health.{Election}
use Rattle.node_step.specs.Outcome.{stamped}
use Rattle.world_run.proofs.Lists.{from_map}
use Rattle.world_run.specs.Ballots.{grants, is_elected, is_vote, was_cast}
use Rattle.one_master.proofs.Counting.{any_from, any_of, any_of_more, count_more, count_share}
use Rattle.one_master.specs.Stands.{AreSent}

-- ---- one message

granted_is : (said : Body) (epoch : ℕ) → grants said epoch ≡ true → said ≡ body.Election (of_election.Grant epoch)
granted_is (body.Election (of_election.Grant granted)) epoch is = ap (λ (said : ℕ). body.Election (of_election.Grant said)) (eqb-true granted epoch is)
granted_is (body.Slots (of_slots.Copy id pairs)) epoch is = absurd (both_ways false refl is)
granted_is (body.Slots (of_slots.Ack id)) epoch is = absurd (both_ways false refl is)
granted_is (body.Slots (of_slots.Drained slot number said)) epoch is = absurd (both_ways false refl is)
granted_is (body.Slots (of_slots.Claim slots replaced)) epoch is = absurd (both_ways false refl is)
granted_is (body.Report suspects) epoch is = absurd (both_ways false refl is)
granted_is (body.Election (of_election.Candidacy request)) epoch is = absurd (both_ways false refl is)
granted_is (body.Stream (of_stream.Sync sync)) epoch is = absurd (both_ways false refl is)
granted_is (body.Stream (of_stream.Piece piece)) epoch is = absurd (both_ways false refl is)
granted_is (body.Stream (of_stream.Snapshot snapshot)) epoch is = absurd (both_ways false refl is)
granted_is (body.Election (of_election.Pause stream)) epoch is = absurd (both_ways false refl is)
granted_is (body.Election (of_election.Paused handing)) epoch is = absurd (both_ways false refl is)

-- what a vote is
record IsVote (voter epoch candidate : ℕ) (message : Message) : Type 0 where
  from : message.from ≡ voter
  to : message.to ≡ candidate
  body : message.body ≡ body.Election (of_election.Grant epoch)

vote_parts : (voter epoch candidate : ℕ) (message : Message) → is_vote voter epoch candidate message ≡ true → IsVote voter epoch candidate message
vote_parts voter epoch candidate message is =
    let parts = and_parts (message.from == voter && message.to == candidate) (grants message.body epoch) is in
    let ends = and_parts (message.from == voter) (message.to == candidate) parts.0 in
    record { from = eqb-true message.from voter ends.0; to = eqb-true message.to candidate ends.1; body = granted_is message.body epoch parts.1 }

-- a vote that was sent was cast
pub sent_is_cast : (sent : List Message) (message : Message) (epoch : ℕ) → Contains sent message → message.body ≡ body.Election (of_election.Grant epoch) → was_cast sent message.from epoch message.to ≡ true
sent_is_cast sent message epoch among is =
    any_of (is_vote message.from epoch message.to) sent message among
    (and_from (message.from == message.from && message.to == message.to) (grants message.body epoch)
    (and_from (message.from == message.from) (message.to == message.to) (eq-eqb message.from message.from refl) (eq-eqb message.to message.to refl))
    (ap (λ said. grants said epoch) is ∙ eq-eqb epoch epoch refl))

-- ---- votes of a step

-- a vote among the messages of a step is its node's
pub record IsOfStep (n : ℕ) (sent : List (ℕ × Body)) (voter epoch candidate : ℕ) : Type 0 where
  pub by : voter ≡ n
  pub among : Contains sent (candidate, body.Election (of_election.Grant epoch))

pub cast_now : (n ticket current : ℕ) (sent : List (ℕ × Body)) (voter epoch candidate : ℕ) → was_cast (map (stamped n ticket current) sent) voter epoch candidate ≡ true → IsOfStep n sent voter epoch candidate
cast_now n ticket current sent voter epoch candidate is =
    let found = any_from (is_vote voter epoch candidate) (map (stamped n ticket current) sent) is in
    let vote = vote_parts voter epoch candidate found.it found.is in
    let source = from_map (stamped n ticket current) sent found.it found.among in
    let same : source.0 ≡ (candidate, body.Election (of_election.Grant epoch)) =
    ap₂ (λ (to : ℕ) (said : Body). (to, said)) (ap (λ (m : Message). m.to) source.2 ∙ vote.to) (ap (λ (m : Message). m.body) source.2 ∙ vote.body) in
    record {
      by = sym vote.from ∙ sym (ap (λ (m : Message). m.from) source.2);
      among = subst (λ (p : ℕ × Body). Contains sent p) same source.1;
    }

-- ---- elections

pub elected_more : (voters : List ℕ) (sent more : List Message) (epoch candidate : ℕ) → ((message : Message) → Contains sent message → Contains more message)
    → is_elected voters sent epoch candidate ≡ true → is_elected voters more epoch candidate ≡ true
elected_more voters sent more epoch candidate all is =
    let most : length voters < 2 * count_by (λ voter. was_cast sent voter epoch candidate) voters = ltb-true _ _ is in
    let as_many = count_more (λ voter. was_cast sent voter epoch candidate) (λ voter. was_cast more voter epoch candidate) voters
    (λ voter cast. any_of_more (is_vote voter epoch candidate) sent more all cast) in
    lt-ltb _ _ (omega (arith, most, as_many))

-- more than half of the voters stand in a row of votes that were sent
pub elected_by_row : (voters : List ℕ) (sent : List Message) (epoch n : ℕ) (granted : List Bool) → AreSent sent n (Some (record { epoch = epoch; granted = granted }))
    → length voters < 2 * count_by (λ voter. slice_index_or granted voter false) voters → is_elected voters sent epoch n ≡ true
elected_by_row voters sent epoch n granted are most =
    let as_many = count_more (λ voter. slice_index_or granted voter false) (λ voter. was_cast sent voter epoch n) voters are in
    lt-ltb _ _ (omega (arith, most, as_many))

-- no voter votes for two nodes in one epoch
abbrev pub VoteOnce : List Message → Type 0
VoteOnce sent = (voter epoch candidate other : ℕ) → was_cast sent voter epoch candidate ≡ true → was_cast sent voter epoch other ≡ true → candidate ≡ other

-- so no epoch elects two
pub elects_one : (voters : List ℕ) (sent : List Message) → VoteOnce sent → (epoch candidate other : ℕ) → is_elected voters sent epoch candidate ≡ true → is_elected voters sent epoch other ≡ true → candidate ≡ other
elects_one voters sent once epoch candidate other one two =
    elim (cases_eq candidate other) [
      | inl same ↦ same
      | inr apart ↦
          let most : length voters < 2 * count_by (λ voter. was_cast sent voter epoch candidate) voters = ltb-true _ _ one in
          let also : length voters < 2 * count_by (λ voter. was_cast sent voter epoch other) voters = ltb-true _ _ two in
          let shared = count_share (λ voter. was_cast sent voter epoch candidate) (λ voter. was_cast sent voter epoch other) voters (λ voter first second. apart (once voter epoch candidate other first second)) in
          absurd (omega (arith, most, also, shared))
    ]

-- votes stay sent
pub sent_more : (sent more : List Message) (n : ℕ) (election : Option Election) → ((message : Message) → Contains sent message → Contains more message) → AreSent sent n election → AreSent more n election
sent_more sent more n None all are = tt
sent_more sent more n (Some election) all are = λ voter stands. any_of_more (is_vote voter election.epoch n) sent more all (are voter stands)
