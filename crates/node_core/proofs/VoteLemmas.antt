-- Votes, as a node takes them.
use Rattle.std.proofs.Common.{◌≡◌, ℕ, Bool, true, false, cond, [], Option, Some, None, refl, sym, ap, subst, ◌∙◌, arith}
use Rattle.std.proofs.lemmas.Option.{none-some}
use Rattle.bus.specs.declared.bodies.ElectionBody.TheVariants.{Grant, Candidacy}
use Rattle.bus.specs.declared.message.Body.TheVariants.{Election}
use Rattle.bus.specs.declared.bodies.Handing.{Handing}
use Rattle.bus.specs.declared.bodies.Candidacy.{Candidacy as Asked}
use Rattle.election.specs.Electing.{counted, elected}
use Rattle.election.specs.Voting.{after_request, may_grant}
use Rattle.election.specs.declared.running.Elected.{Elected}
use Rattle.node_core.specs.Comes.{IsJust, MayBeTaken, choosing}
use Rattle.node_parts.proofs.ChangeLemmas.{made_comes, promotion_comes, records_nothing}
use Rattle.node_parts.specs.Drafts.{Comes, Drafts, IsDraftOf, Promotes, stamped_draft}
use Rattle.node_parts.specs.Making.{IsApplied}
use Rattle.node_parts.specs.declared.draft.Draft.{Draft}
use Rattle.node_step.specs.Failing.{members_of}
use Rattle.node_step.specs.Outcome.{Outcome, no_outputs, silent}
use Rattle.node_step.specs.Handovers.{is_at_end}
use Rattle.node_step.specs.Promotion.{handed_promotion, promotion, promotion_to, table_handed}
use Rattle.node_step.specs.State.{NodeState, own_master}
use Rattle.node_step.specs.Voting.{grant_to, if_elected, request_of, voting}
use Rattle.node_step.specs.declared.outputs.Outputs.{Outputs}

-- a draft of one outcome, which writes nothing
pub just_drafted : (node : NodeState) (May : Outcome → Type 0) (outcome : Outcome) (draft : Draft) → May outcome → Drafts node outcome draft → IsDraftOf node May draft
just_drafted node May outcome draft may drafts =
    record { outcome = outcome; requests = []; may_come = λ dropped within. may; records = records_nothing node outcome draft drafts }

-- a request for a vote
module _ (ticket : ℕ) (old voted : NodeState) (from : ℕ) (request : Asked) (granted : Bool) (draft : Draft)
    (grants : granted ≡ may_grant old.voter (members_of old) old.health old.current_epoch (request_of from request))
    (votes : voted ≡ record old { voter = after_request old.voter (request_of from request) granted }) where
  may_vote : MayBeTaken old from (Election (Candidacy request)) (record (silent voted) { sent = grant_to (request_of from request) granted })
  may_vote = record {
    choice = choosing old 0;
    may_choose = record { follower = tt; dropped = omega arith };
    comes_to =
        ap (λ (node : NodeState). record (silent node) { sent = grant_to (request_of from request) granted }) votes
        ∙ ap (voting old (request_of from request)) grants;
  }

  pub vote_drafted : Drafts voted (record (silent voted) { sent = grant_to (request_of from request) granted }) draft
      → IsDraftOf voted (MayBeTaken old from (Election (Candidacy request))) draft
  vote_drafted drafts = just_drafted voted (MayBeTaken old from (Election (Candidacy request))) (record (silent voted) { sent = grant_to (request_of from request) granted }) draft may_vote drafts

  pub vote_taken : (outputs : Outputs) (new : NodeState) → Drafts voted (record (silent voted) { sent = grant_to (request_of from request) granted }) draft
      → outputs ≡ stamped_draft voted ticket draft → IsApplied voted draft new → Comes ticket (MayBeTaken old from (Election (Candidacy request))) outputs new
  vote_taken outputs new drafts are applied = made_comes ticket voted (MayBeTaken old from (Election (Candidacy request))) draft outputs new (vote_drafted drafts) are applied

-- a vote for this node
module _ (ticket : ℕ) (old after : NodeState) (from epoch : ℕ) (wins : Option Elected) (is : wins ≡ elected old.candidate (members_of old) from epoch)
    (counts : after ≡ record old { candidate = counted old.candidate (members_of old) from epoch }) where
  may_count : (outcome : Outcome) → outcome ≡ if_elected after wins → MayBeTaken old from (Election (Grant epoch)) outcome
  may_count outcome comes = record {
    choice = choosing old 0;
    may_choose = record { follower = tt; dropped = omega arith };
    comes_to = comes ∙ ap (λ (node : NodeState). if_elected node wins) counts ∙ ap (if_elected (record old { candidate = counted old.candidate (members_of old) from epoch })) is;
  }

  -- it elects nobody
  pub only_counted : (outputs : Outputs) (new : NodeState) → wins ≡ None → outputs ≡ no_outputs ticket → new ≡ after → Comes ticket (MayBeTaken old from (Election (Grant epoch))) outputs new
  only_counted outputs new none are same =
      record { outcome = silent after; may = may_count (silent after) (sym (ap (if_elected after) none)); outputs_are = are; state = same }

  -- it elects this node
  pub promoted_by_vote : (outputs : Outputs) (new : NodeState) (won : Elected) → wins ≡ Some won → Comes ticket (IsJust (if_elected after (Some (record { epoch = won.epoch })))) outputs new
      → Comes ticket (MayBeTaken old from (Election (Grant epoch))) outputs new
  promoted_by_vote outputs new won some comes =
      record { outcome = comes.outcome; may = may_count comes.outcome (comes.may ∙ sym (ap (if_elected after) some)); outputs_are = comes.outputs_are; state = comes.state }

-- the promotion is made
pub promotion_made : (ticket : ℕ) (node : NodeState) (outcome : Outcome) (draft : Draft) (outputs : Outputs) (new : NodeState)
    → Promotes node outcome draft → outputs ≡ stamped_draft node ticket draft → IsApplied node draft new → Comes ticket (IsJust outcome) outputs new
promotion_made ticket node outcome draft outputs new promotes are applied = promotion_comes ticket node (IsJust outcome) outcome draft outputs new refl promotes are applied

-- nothing comes of the election
pub stays_replica : (ticket : ℕ) (node : NodeState) (outcome : Outcome) (outputs : Outputs) (new : NodeState) → silent node ≡ outcome → outputs ≡ no_outputs ticket → new ≡ node
    → Comes ticket (IsJust outcome) outputs new
stays_replica ticket node outcome outputs new nothing are same = record { outcome = silent node; may = nothing; outputs_are = are; state = same }

pub as_outcome : (ticket : ℕ) (one other : Outcome) (outputs : Outputs) (new : NodeState) → one ≡ other → Comes ticket (IsJust one) outputs new → Comes ticket (IsJust other) outputs new
as_outcome ticket one other outputs new same comes = subst (λ (outcome : Outcome). Comes ticket (IsJust outcome) outputs new) same comes

module _ (node : NodeState) (epoch : ℕ) where
  abbrev elected_so : Bool → Option ℕ → Outcome
  elected_so planned master = cond planned (handed_promotion node epoch master node.handover.note) (promotion node epoch master)

  -- a node without a master takes nobody's place
  pub nobody_replaced : own_master node ≡ None → silent node ≡ if_elected node (Some (record { epoch = epoch }))
  nobody_replaced none = by_plan node.candidate.planned ∙ ap (elected_so node.candidate.planned) (sym none)
    where
      by_plan : (planned : Bool) → silent node ≡ elected_so planned None
      by_plan true = refl
      by_plan false = refl

  module _ (master : ℕ) (own : own_master node ≡ Some master) where
    pub elected_by_plan : node.candidate.planned ≡ true → handed_promotion node epoch (Some master) node.handover.note ≡ if_elected node (Some (record { epoch = epoch }))
    elected_by_plan planned = ap (λ (b : Bool). elected_so b (Some master)) (sym planned) ∙ ap (elected_so node.candidate.planned) (sym own)

    pub elected_in_place : node.candidate.planned ≡ false → promotion node epoch (Some master) ≡ if_elected node (Some (record { epoch = epoch }))
    elected_in_place planned = ap (λ (b : Bool). elected_so b (Some master)) (sym planned) ∙ ap (elected_so node.candidate.planned) (sym own)

  module _ (master : ℕ) where
    abbrev held : Handing → Option Handing → Handing
    held other None = other
    held other (Some handing) = handing

    -- what the master handed over, all of it, is taken
    handed_by : (note : Option Handing) (handing : Handing) → cond (is_at_end node.stream note) note None ≡ Some handing
        → promotion_to node master epoch true (table_handed node handing.slots epoch) ≡ handed_promotion node epoch (Some master) note
    handed_by None handing found = absurd (none-some handing found)
    handed_by (Some noted) handing found = by_end (is_at_end node.stream (Some noted)) found
      where
        by_end : (at_end : Bool) → cond at_end (Some noted) None ≡ Some handing
            → promotion_to node master epoch true (table_handed node handing.slots epoch) ≡ cond at_end (promotion_to node master epoch true (table_handed node noted.slots epoch)) (silent node)
        by_end true found = ap (λ (h : Handing). promotion_to node master epoch true (table_handed node h.slots epoch)) (sym (ap (held handing) found))
        by_end false found = absurd (none-some handing found)

    pub handed_over : (found : Option Handing) (handing : Handing) → found ≡ cond (is_at_end node.stream node.handover.note) node.handover.note None → found ≡ Some handing
        → promotion_to node master epoch true (table_handed node handing.slots epoch) ≡ handed_promotion node epoch (Some master) node.handover.note
    handed_over found handing is some = handed_by node.handover.note handing (sym is ∙ some)

    -- and else nothing
    kept_by : (note : Option Handing) → cond (is_at_end node.stream note) note None ≡ None → silent node ≡ handed_promotion node epoch (Some master) note
    kept_by None found = refl
    kept_by (Some noted) found = by_end (is_at_end node.stream (Some noted)) found
      where
        by_end : (at_end : Bool) → cond at_end (Some noted) None ≡ None → silent node ≡ cond at_end (promotion_to node master epoch true (table_handed node noted.slots epoch)) (silent node)
        by_end true found = absurd (none-some noted (sym found))
        by_end false found = refl

    pub not_handed_over : (found : Option Handing) → found ≡ cond (is_at_end node.stream node.handover.note) node.handover.note None → found ≡ None
        → silent node ≡ handed_promotion node epoch (Some master) node.handover.note
    not_handed_over found is none = kept_by node.handover.note (sym is ∙ none)
