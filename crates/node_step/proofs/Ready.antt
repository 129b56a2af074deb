-- What any message tells, and the age of a tick, change nothing of a node's slots, keys, streams and clients.
use Rattle.std.proofs.Common.{◌≡◌, ◌≢◌, ◌==◌, ◌⊎◌, ℕ, zero, suc, List, [], ◌∷◌, map, Bool, true, false, cond, Option, Some, None, refl, sym, ap, ◌∙◌, inl, inr}
use Rattle.std.proofs.lemmas.Bool.{eqb-false}
use Rattle.std.specs.Prelude.{is_some, slice_index_or, slice_set}
use Rattle.bus.specs.declared.message.Message.{Message}
use Rattle.bus.specs.declared.bodies.Replaced.{Replaced}
use Rattle.election.specs.Electing.{is_held_failed, judged, lasting}
use Rattle.election.specs.Health.{Candidate, Health, no_candidate}
use Rattle.election.specs.Members.{Members, own_master as master_of}
use Rattle.node_step.specs.Failing.{hearing, judging, members_of}
use Rattle.node_step.specs.Messages.{knowing, ready}
use Rattle.node_step.specs.Roles.{following, instead, is_just, replaced_in, succeeded, with_master}
use Rattle.node_step.specs.State.{Handover, NodeState, is_replica, own_master}
use Rattle.node_step.specs.Voting.{in_election}

-- ---- who follows whom

other_stays : (masters : List (Option ℕ)) (i j : ℕ) → j ≢ i → slice_index_or (slice_set masters i None) j None ≡ slice_index_or masters j None
other_stays [] i j apart = refl
other_stays (m ∷ masters) zero zero apart = absurd (apart refl)
other_stays (m ∷ masters) zero (suc j) apart = refl
other_stays (m ∷ masters) (suc i) zero apart = refl
other_stays (m ∷ masters) (suc i) (suc j) apart = other_stays masters i j (λ same. apart (ap suc same))

instead_is_one : (former next : ℕ) (master : Option ℕ) → is_some (instead former next master) ≡ is_some master
instead_is_one former next None = refl
instead_is_one former next (Some master) = by_test (master == former)
  where
    by_test : (b : Bool) → is_some (cond b (Some next) (Some master)) ≡ true
    by_test true = refl
    by_test false = refl

others_stay : (masters : List (Option ℕ)) (former next j : ℕ) → is_some (slice_index_or (map (instead former next) masters) j None) ≡ is_some (slice_index_or masters j None)
others_stay [] former next j = refl
others_stay (m ∷ masters) former next zero = instead_is_one former next m
others_stay (m ∷ masters) former next (suc j) = others_stay masters former next j

-- a node takes the place of another one: each other node has a master as before
pub succeeded_keeps : (masters : List (Option ℕ)) (former next node : ℕ) → node ≢ next
    → is_some (slice_index_or (succeeded masters former next) node None) ≡ is_some (slice_index_or masters node None)
succeeded_keeps masters former next node apart = ap is_some (other_stays (map (instead former next) masters) next node apart) ∙ others_stay masters former next node

none_there : (masters : List (Option ℕ)) (i : ℕ) → slice_index_or (slice_set masters i None) i None ≡ None
none_there [] i = refl
none_there (m ∷ masters) zero = refl
none_there (m ∷ masters) (suc i) = none_there masters i

-- and that one has none
pub succeeded_ends : (masters : List (Option ℕ)) (former next : ℕ) → slice_index_or (succeeded masters former next) next None ≡ None
succeeded_ends masters former next = none_there (map (instead former next) masters) next

-- ---- what a message tells

-- an election goes on, or is over
abbrev pub IsOldOrOver : Candidate → Candidate → Type 0
IsOldOrOver old new = (new.election ≡ old.election) ⊎ (new.election ≡ None)

pub judged_keeps : (candidate : Candidate) (members : Members) (health : Health) → (judged candidate members health).election ≡ candidate.election
judged_keeps candidate members health = by_test (is_held_failed health members (master_of members))
  where
    by_test : (b : Bool) → (cond b (record candidate { failed = lasting candidate.failed }) (record candidate { failed = None; started = None })).election ≡ candidate.election
    by_test true = refl
    by_test false = refl

followed_so : (own : Bool) (candidate : Candidate) → IsOldOrOver candidate (cond own no_candidate candidate)
followed_so true candidate = inr refl
followed_so false candidate = inl refl

judged_so : (old candidate : Candidate) (members : Members) (health : Health) → IsOldOrOver old candidate → IsOldOrOver old (judged candidate members health)
judged_so old candidate members health (inl same) = inl (judged_keeps candidate members health ∙ same)
judged_so old candidate members health (inr over) = inr (judged_keeps candidate members health ∙ over)

-- what holds of the node whatever it knows of epochs and others, and whoever follows whom, as long as itself has a master as before, and
-- begins no election, and whatever it knows of a handover
abbrev pub HoldsHowever : (NodeState → Type 0) → NodeState → Type 0
HoldsHowever P node = (epoch : ℕ) (masters : List (Option ℕ)) (health : Health) (candidate : Candidate) (handover : Handover) → is_some (slice_index_or masters node.number None) ≡ is_replica node
    → IsOldOrOver node.candidate candidate → P (record node { current_epoch = epoch; masters = masters; health = health; candidate = candidate; handover = handover })

-- holds of it as a message is taken
pub ready_keeps : (P : NodeState → Type 0) (node : NodeState) (message : Message) → HoldsHowever P node → P (ready node message)
ready_keeps P node message holds = by_claim (replaced_in message.body)
  where
    heard_so : NodeState
    heard_so = hearing (knowing node message.epoch) message.from message.body

    by_claim : (replaced : Option Replaced) → P (judging (following heard_so message.from replaced))
    by_claim None = holds _ _ _ _ _ refl (judged_so node.candidate node.candidate (members_of heard_so) heard_so.health (inl refl))
    by_claim (Some replaced) = by_sender (message.from == node.number) refl
      where
        by_sender : (own : Bool) → (message.from == node.number) ≡ own → P (judging (cond own heard_so (with_master heard_so replaced.master message.from)))
        by_sender true own = holds _ _ _ _ _ refl (judged_so node.candidate node.candidate (members_of heard_so) heard_so.health (inl refl))
        by_sender false other =
            holds _ _ _ _ _ (succeeded_keeps node.masters replaced.master message.from node.number (λ same. eqb-false message.from node.number other (sym same)))
            (judged_so node.candidate _ (members_of (with_master heard_so replaced.master message.from)) heard_so.health (followed_so (is_just (own_master node) replaced.master) node.candidate))

-- and behind a tick, whether an election begins or not
pub in_election_keeps : (P : NodeState → Type 0) (node : NodeState) (epoch : Option ℕ) → ((current : ℕ) (candidate : Candidate) (handover : Handover) → P (record node { current_epoch = current; candidate = candidate; handover = handover }))
    → P (in_election node epoch)
in_election_keeps P node None holds = holds node.current_epoch node.candidate node.handover
in_election_keeps P node (Some epoch) holds = holds _ _ _
