-- A tick, as a node drafts it.
use Rattle.std.proofs.Common.{◌≡◌, ◌++◌, ℕ, List, [], ◌∷◌, map, Bool, true, false, Option, Some, None, refl, sym, ap, subst, ◌∙◌}
use Rattle.std.specs.Prelude.{Result, Ok, Err, OnErr}
use Rattle.bus.specs.declared.message.Body.{Body}
use Rattle.command_table.specs.declared.error_line.ErrorLine.TheVariants as line
use Rattle.connections.specs.Connections.{is_over, waiting}
use Rattle.node_core.proofs.VoteLemmas.{just_drafted}
use Rattle.node_core.specs.Comes.{IsJust}
use Rattle.node_core.specs.Ticking.{ticked_in, told_in}
use Rattle.node_parts.proofs.ChangeLemmas.{can_be_made, made_comes}
use Rattle.node_parts.proofs.ElectionLemmas.{tick_keeps_rest}
use Rattle.node_parts.specs.Becomes.{CanBeMade}
use Rattle.node_parts.specs.Drafts.{Comes, Drafts, at_epoch, stamped_draft}
use Rattle.node_parts.specs.Electing.{KeepsRest, election_of, with_election}
use Rattle.node_parts.specs.Making.{IsApplied}
use Rattle.node_parts.specs.declared.draft.Draft.{Draft}
use Rattle.node_step.specs.Failing.{a_tick_older}
use Rattle.node_step.specs.Handovers.{asked_again, handed_again, may_take_over}
use Rattle.node_step.specs.Orders.{claim_of}
use Rattle.node_step.specs.Outcome.{Outcome, error, release, silent}
use Rattle.node_step.specs.Replicas.{sync_to}
use Rattle.node_step.specs.State.{NodeState, own_master}
use Rattle.node_step.specs.Step.{NodeStep}
use Rattle.node_step.specs.Ticks.{older, signs, slots_tick, tick}
use Rattle.node_step.specs.Voting.{begun_so, due_epoch, has_due_epoch, in_election, noted_begun, requests_in}
use Rattle.node_step.specs.declared.event.Event.TheVariants.{Tick}
use Rattle.node_step.specs.declared.outputs.Outputs.{Outputs}
use Rattle.node_step.specs.declared.outputs.Release.{Release}
use Rattle.resp_values.specs.declared.reply.Reply.{Reply}

-- who waited as long as wanted is told, copies are sent again, and others are told what a tick tells them
pub tick_drafted : (node : NodeState) (epoch : Option ℕ) (released : List Release) (bodies : List (ℕ × Body)) (draft : Draft) → released ≡ (slots_tick node).released → bodies ≡ (ticked_in node epoch).sent
    → ((after : NodeState) → after ≡ older node → Drafts node (record (silent after) { released = released; sent = bodies }) draft) → Drafts node (ticked_in node epoch) draft
tick_drafted node epoch released bodies draft gives sent drafts =
    subst (λ (b : List (ℕ × Body)). Drafts node (record (silent (older node)) { released = (slots_tick node).released; sent = b }) draft) sent
    (subst (λ (r : List Release). Drafts node (record (silent (older node)) { released = r; sent = bodies }) draft) gives (drafts (older node) refl))

-- one part behind another, as a whole and one by one
five_behind : {A : Type 0} (all one two three four five : List A) → all ++ (one ++ two ++ three ++ four ++ five) ≡ all ++ one ++ two ++ three ++ four ++ five
five_behind [] one two three four five = refl
five_behind (item ∷ all) one two three four five = ap (λ (rest : List _). item ∷ rest) (five_behind all one two three four five)

abbrev told_so : NodeState → List (ℕ × Body) → Option ℕ → List (ℕ × Body)
told_so node before epoch =
    before ++ signs node ++ sync_to node.stream (own_master node) ++ asked_again node.handover.asked node.stream.held.id (own_master node)
    ++ handed_again node node.paused (claim_of node) ++ requests_in node epoch (own_master node)

told_in_order : (node : NodeState) (epoch : Option ℕ) → ticked_in node epoch ≡ record (slots_tick node) { sent = told_so node (slots_tick node).sent epoch }
told_in_order node epoch =
    ap (λ (sent : List (ℕ × Body)). record (slots_tick node) { sent = sent })
    (five_behind (slots_tick node).sent (signs node) (sync_to node.stream (own_master node)) (asked_again node.handover.asked node.stream.held.id (own_master node))
    (handed_again node node.paused (claim_of node)) (requests_in node epoch (own_master node)))

-- a node that grew older before drafts the tick of the node that it was
abbrev ticked_so : NodeState → Option ℕ → Outcome
ticked_so old epoch = let node = a_tick_older (older old) in record (slots_tick old) { sent = told_so node (slots_tick old).sent epoch; state = in_election node epoch }

begun_before : (old : NodeState) (epoch : Option ℕ) → due_epoch (a_tick_older old) ≡ epoch → ticked_in (in_election (a_tick_older old) epoch) epoch ≡ tick old
begun_before old None is = told_in_order (a_tick_older old) None ∙ ap (ticked_so old) (sym is)
begun_before old (Some epoch) is =
    told_in_order (in_election (a_tick_older old) (Some epoch)) (Some epoch) ∙ by_plan (may_take_over (a_tick_older old)) ∙ ap (ticked_so old) (sym is)
  where
    begun_so_at : Bool → NodeState → NodeState
    begun_so_at planned node = record node { current_epoch = epoch; candidate = begun_so planned node.candidate epoch; handover = noted_begun planned node.handover }

    by_plan : (planned : Bool)
        → record (slots_tick (begun_so_at planned (a_tick_older old))) { sent = told_so (begun_so_at planned (a_tick_older old)) (slots_tick (begun_so_at planned (a_tick_older old))).sent (Some epoch) }
        ≡ record (ticked_so old (Some epoch)) { state = begun_so_at planned (a_tick_older (older old)) }
    by_plan true = refl
    by_plan false = refl

module _ (ticket : ℕ) (old aged begun : NodeState) (epoch : Option ℕ) (draft : Draft)
    (ages : aged ≡ a_tick_older old) (due : epoch ≡ due_epoch aged) (begins : begun ≡ in_election aged (due_epoch aged)) where
  as_tick : ticked_in begun epoch ≡ tick old
  as_tick =
      ap (λ (node : NodeState). ticked_in node epoch) (begins ∙ ap (in_election aged) (sym due) ∙ ap (λ (node : NodeState). in_election node epoch) ages)
      ∙ begun_before old epoch (ap due_epoch (sym ages) ∙ sym due)

  pub tick_can_be_made : Drafts begun (ticked_in begun epoch) draft → CanBeMade begun draft.plan draft.change
  tick_can_be_made drafts = can_be_made (at_epoch begun draft.epoch) draft.plan draft.change (ticked_in begun epoch).state drafts.state

  -- a tick that is drafted so and made is a step
  pub tick_is_step : (outputs : Outputs) (new : NodeState) → has_due_epoch aged ≡ true → Drafts begun (ticked_in begun epoch) draft → outputs ≡ stamped_draft begun ticket draft → IsApplied begun draft new
      → NodeStep ticket old Tick outputs new
  tick_is_step outputs new has drafts are applied =
      let comes : Comes ticket (IsJust (ticked_in begun epoch)) outputs new =
      made_comes ticket begun (IsJust (ticked_in begun epoch)) draft outputs new (just_drafted begun (IsJust (ticked_in begun epoch)) (ticked_in begun epoch) draft refl drafts) are applied in
      record {
        outcome = comes.outcome;
        may_come = record { number = ap has_due_epoch (sym ages) ∙ has; comes_to = comes.may ∙ as_tick };
        outputs_are = comes.outputs_are;
        state = comes.state;
      }

-- a tick that was begun leaves all but elections
pub tick_left : {A E : Type 0} (result : Result A E) (old kept aged begun : NodeState) (epoch : Option ℕ) → kept ≡ old → aged ≡ a_tick_older kept → begun ≡ in_election aged epoch
    → OnErr result (KeepsRest old begun)
tick_left (Ok made) old kept aged begun epoch keeps ages begins = tt
tick_left (Err fault) old kept aged begun epoch keeps ages begins =
    ap (λ (node : NodeState). with_election node (election_of old)) (begins ∙ ap (λ (node : NodeState). in_election node epoch) (ages ∙ ap a_tick_older keeps)) ∙ tick_keeps_rest old epoch

pub tick_unmade : {A E : Type 0} (result : Result A E) (old begun new : NodeState) → new ≡ begun → OnErr result (KeepsRest old begun) → OnErr result (KeepsRest old new)
tick_unmade (Ok made) old begun new same left = tt
tick_unmade (Err fault) old begun new same left = ap (λ (node : NodeState). with_election node (election_of old)) same ∙ left
