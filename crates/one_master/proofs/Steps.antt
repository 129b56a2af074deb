-- What a step of a node leaves, if it neither votes nor wins.
use Rattle.std.proofs.Common.{◌≡◌, ◌≤◌, ◌++◌, ℕ, List, [], ◌∷◌, Bool, Option, Some, None, Contains, refl, sym, ap, subst, ◌∙◌, inl, inr, arith}
use Rattle.std.proofs.lemmas.List.Elements.{Contains-append_cases}
use Rattle.bus.specs.declared.message.Body.{Body}
use Rattle.bus.specs.declared.bodies.ElectionBody.TheVariants as of_election
use Rattle.bus.specs.declared.message.Body.TheVariants as body
use Rattle.bus.specs.declared.message.Message.{Message}
use Rattle.cluster_config.specs.Config.{ClusterConfig}
use Rattle.election.specs.Health.{Candidate, Voter}
use Rattle.node_step.proofs.OfSlots.{AreAll, IsOfSlots, IsOfSlotsAlone, all_to_all}
use Rattle.node_step.proofs.Ready.{IsOldOrOver}
use Rattle.node_step.specs.Orders.{to_all}
use Rattle.node_step.specs.Outcome.{Outcome}
use Rattle.node_step.specs.Roles.{replicas_of}
use Rattle.node_step.specs.State.{NodeState, is_replica}
use Rattle.node_step.specs.Streams.{Requests, with_written}
use Rattle.node_step.specs.declared.promotion.Promotion.{Promotion}
use Rattle.one_master.specs.Stands.{AreSent, NodeStands, StepStands}

-- ---- no votes

abbrev pub IsNoVote : Body → Type 0
IsNoVote said = (epoch : ℕ) → said ≡ body.Election (of_election.Grant epoch) → ⊥

pub slots_no_vote : (own : NodeState) (said : Body) → IsOfSlots own said → IsNoVote said
slots_no_vote own said of epoch is = subst (IsOfSlots own) is of

no_vote_of_slots : (own : NodeState) (sent : List (ℕ × Body)) → AreAll (IsOfSlots own) sent → AreAll IsNoVote sent
no_vote_of_slots own sent are to said among = slots_no_vote own said (are to said among)

-- ---- the same node, as far as votes are concerned

pub record IsStill (before after : NodeState) : Type 0 where
  pub number : after.number ≡ before.number
  pub config : after.config ≡ before.config
  pub voter : after.voter ≡ before.voter
  pub election : IsOldOrOver before.candidate after.candidate
  pub role : is_replica after ≡ is_replica before

-- what an election counts, if it goes on
pub counted_still : (sent : List Message) (n : ℕ) (old new : Candidate) → IsOldOrOver old new → AreSent sent n old.election → AreSent sent n new.election
counted_still sent n old new (inl same) are = subst (AreSent sent n) (sym same) are
counted_still sent n old new (inr over) are = subst (AreSent sent n) (sym over) tt

-- what is written is no vote
vote_before : (outcome : Outcome) (numbers : List ℕ) (said : Body) → IsNoVote said → (candidate epoch : ℕ) → Contains (outcome.sent ++ to_all numbers said) (candidate, body.Election (of_election.Grant epoch))
    → Contains outcome.sent (candidate, body.Election (of_election.Grant epoch))
vote_before outcome numbers said no_vote candidate epoch among =
    elim (Contains-append_cases outcome.sent (to_all numbers said) (candidate, body.Election (of_election.Grant epoch)) among) [
      | inl here ↦ here
      | inr there ↦ absurd (all_to_all IsNoVote numbers said no_vote candidate (body.Election (of_election.Grant epoch)) there epoch refl)
    ]

module _ (voters : List ℕ) (sent : List Message) (n : ℕ) where
  pub node_still : (before after : NodeState) → IsStill before after → NodeStands voters sent n before → NodeStands voters sent n after
  node_still before after still stands = record {
    number = still.number ∙ stands.number;
    voters_are = ap (λ (config : ClusterConfig). config.voters) still.config ∙ stands.voters_are;
    voted = λ epoch candidate cast. subst (λ (voter : Voter). epoch ≤ voter.last_vote) (sym still.voter) (stands.voted epoch candidate cast);
    counted = counted_still sent n before.candidate after.candidate still.election stands.counted;
  }

  abbrev pub Leaves : NodeState → Outcome → Type 0
  Leaves before outcome = StepStands voters sent n before.voter.last_vote (is_replica before) outcome

  -- nobody is voted for, and nobody is promoted
  pub quiet : (before : NodeState) → NodeStands voters sent n before → (outcome : Outcome) → IsStill before outcome.state → AreAll IsNoVote outcome.sent → outcome.promoted ≡ None → Leaves before outcome
  quiet before stands outcome still no_vote none =
      let after = node_still before outcome.state still stands in
      let same_last : before.voter.last_vote ≡ outcome.state.voter.last_vote = ap (λ (voter : Voter). voter.last_vote) (sym still.voter) in
      record {
        number = after.number;
        voters_are = after.voters_are;
        rises = omega (arith, same_last);
        votes = λ candidate epoch among. absurd (no_vote candidate (body.Election (of_election.Grant epoch)) among epoch refl);
        counted = after.counted;
        stays = λ master. still.role ∙ master;
        promoted = λ promotion is. absurd (promoted_none outcome.promoted promotion none is);
      }
    where
      promoted_none : (o : Option Promotion) (promotion : Promotion) → o ≡ None → o ≡ Some promotion → ⊥
      promoted_none o promotion none is = cc

  -- with slots alone
  pub of_slots : (before : NodeState) → NodeStands voters sent n before → (own : NodeState) (outcome : Outcome) → IsOfSlotsAlone own (IsStill before) outcome → Leaves before outcome
  of_slots before stands own outcome alone = quiet before stands outcome alone.state (no_vote_of_slots own outcome.sent alone.sent) alone.promoted

  pub with_written_leaves : (last : ℕ) (replica : Bool) (outcome : Outcome) (requests : Requests) (dropped : ℕ) → StepStands voters sent n last replica outcome
      → StepStands voters sent n last replica (with_written outcome requests dropped)
  with_written_leaves last replica outcome [] dropped step = step
  with_written_leaves last replica outcome (request ∷ requests) dropped step = record {
    number = step.number;
    voters_are = step.voters_are;
    rises = step.rises;
    votes = λ candidate epoch among.
        let vote = step.votes candidate epoch (before candidate epoch among) in
        record { later = vote.later; remembered = vote.remembered; alone = λ other also. vote.alone other (before other epoch also) };
    counted = step.counted;
    stays = step.stays;
    promoted = λ promotion is. let won = step.promoted promotion is in record { was = won.was; is = won.is; elected = won.elected };
  }
    where
      before : (candidate epoch : ℕ) → Contains (with_written outcome (request ∷ requests) dropped).sent (candidate, body.Election (of_election.Grant epoch)) → Contains outcome.sent (candidate, body.Election (of_election.Grant epoch))
      before = vote_before outcome (replicas_of outcome.state.masters outcome.state.number) _ (λ epoch is. cc)
