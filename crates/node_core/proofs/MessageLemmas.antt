-- Messages by their kinds, and the whole step.
use Rattle.std.proofs.Common.{◌≡◌, ◌==◌, ℕ, Bool, true, false, not, List, true≢false, refl, sym, subst, ◌∙◌, arith}
use Rattle.std.proofs.lemmas.Bool.{cond-false, cond-true, not-false, not-true}
use Rattle.bus.specs.declared.bodies.ElectionBody.TheVariants.{Pause, Paused}
use Rattle.bus.specs.declared.bodies.Handing.{Handing}
use Rattle.bus.specs.declared.bodies.SlotsBody.{SlotsBody}
use Rattle.bus.specs.declared.bodies.StreamBody.TheVariants.{Sync}
use Rattle.bus.specs.declared.message.Body.{Body}
use Rattle.bus.specs.declared.message.Body.TheVariants.{Slots, Stream, Election, Report}
use Rattle.bus.specs.declared.message.Message.{Message}
use Rattle.bus.specs.declared.stream_id.StreamId.{StreamId}
use Rattle.bus.specs.declared.sync.Sync.{Sync as Asked}
use Rattle.node_core.specs.Comes.{MayBeTaken, choosing}
use Rattle.node_core.proofs.VoteLemmas.{just_drafted}
use Rattle.node_parts.proofs.ChangeLemmas.{made_comes}
use Rattle.node_parts.specs.Drafts.{Comes, Drafts, IsDraftOf, Records, stamped_draft}
use Rattle.node_parts.specs.Making.{IsApplied}
use Rattle.node_parts.specs.declared.draft.Draft.{Draft}
use Rattle.node_step.specs.Handovers.{asked_to_pause, told_of_handing}
use Rattle.node_step.specs.Messages.{ready, taken, taken_of_slots, written_by_slots}
use Rattle.node_step.specs.Outcome.{no_outputs, silent}
use Rattle.node_step.specs.Replicas.{synced}
use Rattle.node_step.specs.State.{NodeState}
use Rattle.node_step.specs.Step.{NodeStep}
use Rattle.node_step.specs.declared.event.Event.TheVariants.{Deliver}
use Rattle.node_step.specs.declared.outputs.Outputs.{Outputs}

-- ---- a message by its kind

-- what is said of slots may come, with what it writes
pub slots_drafted : (node : NodeState) (from : ℕ) (body : SlotsBody) (draft : Draft) → Records node (taken_of_slots node from body) (written_by_slots node from body) draft
    → IsDraftOf node (MayBeTaken node from (Slots body)) draft
slots_drafted node from body draft records = record {
  outcome = taken_of_slots node from body;
  requests = written_by_slots node from body;
  may_come = λ dropped within. record {
    choice = choosing node dropped;
    may_choose = record { follower = tt; dropped = within };
    comes_to = refl;
  };
  records = records;
}

-- and it comes once the draft is made
pub slots_taken : (ticket : ℕ) (node : NodeState) (from : ℕ) (body : SlotsBody) (draft : Draft) (outputs : Outputs) (new : NodeState)
    → IsDraftOf node (MayBeTaken node from (Slots body)) draft → outputs ≡ stamped_draft node ticket draft → IsApplied node draft new
    → Comes ticket (MayBeTaken node from (Slots body)) outputs new
slots_taken ticket node from body draft outputs new is are applied = made_comes ticket node (MayBeTaken node from (Slots body)) draft outputs new is are applied

-- of a report nothing comes any more
pub report_noted : (ticket : ℕ) (node : NodeState) (from : ℕ) (said : Body) (suspects : List Bool) (outputs : Outputs) (new : NodeState) → said ≡ Report suspects
    → outputs ≡ no_outputs ticket → new ≡ node → Comes ticket (MayBeTaken node from said) outputs new
report_noted ticket node from said suspects outputs new is none same =
    subst (λ (body : Body). Comes ticket (MayBeTaken node from body) outputs new) (sym is)
    (record {
      outcome = silent node;
      may = record {
        choice = choosing node 0;
        may_choose = record { follower = tt; dropped = omega arith };
        comes_to = refl;
      };
      outputs_are = none;
      state = same;
    })

-- a draft of one outcome, which writes nothing
module _ (ticket : ℕ) (node : NodeState) (from : ℕ) (draft : Draft) where
  sync_may : (sync : Asked) → MayBeTaken node from (Stream (Sync sync)) (synced node from sync)
  sync_may sync = record { choice = choosing node 0; may_choose = record { follower = tt; dropped = omega arith }; comes_to = refl }

  pub sync_drafted : (sync : Asked) → Drafts node (synced node from sync) draft → IsDraftOf node (MayBeTaken node from (Stream (Sync sync))) draft
  sync_drafted sync drafts = just_drafted node (MayBeTaken node from (Stream (Sync sync))) (synced node from sync) draft (sync_may sync) drafts

  pause_may : (stream : StreamId) → MayBeTaken node from (Election (Pause stream)) (asked_to_pause node from stream)
  pause_may stream = record { choice = choosing node 0; may_choose = record { follower = tt; dropped = omega arith }; comes_to = refl }

  pub pause_drafted : (stream : StreamId) → Drafts node (asked_to_pause node from stream) draft → IsDraftOf node (MayBeTaken node from (Election (Pause stream))) draft
  pause_drafted stream drafts = just_drafted node (MayBeTaken node from (Election (Pause stream))) (asked_to_pause node from stream) draft (pause_may stream) drafts

  paused_may : (handing : Handing) → MayBeTaken node from (Election (Paused handing)) (told_of_handing node handing)
  paused_may handing = record { choice = choosing node 0; may_choose = record { follower = tt; dropped = omega arith }; comes_to = refl }

  pub paused_drafted : (handing : Handing) → Drafts node (told_of_handing node handing) draft → IsDraftOf node (MayBeTaken node from (Election (Paused handing))) draft
  paused_drafted handing drafts = just_drafted node (MayBeTaken node from (Election (Paused handing))) (told_of_handing node handing) draft (paused_may handing) drafts

-- ---- what was heard, and the whole step

-- a message for another node is not taken
pub passed_by : (ticket : ℕ) (old : NodeState) (message : Message) (outputs : Outputs) (new : NodeState) → not (message.to == old.number) ≡ true → outputs ≡ no_outputs ticket → new ≡ old
    → NodeStep ticket old (Deliver message) outputs new
passed_by ticket old message outputs new other none same =
    let apart : (message.to == old.number) ≡ false = not-true (message.to == old.number) other in
    let choice = choosing old 0 in
    record {
      outcome = silent old;
      may_come = record {
        choice = choice;
        may_choose = λ own. absurd (true≢false (sym own ∙ apart));
        comes_to = sym (cond-false (message.to == old.number) (taken (ready old message) message.from choice message.body) (silent old) apart);
      };
      outputs_are = none;
      state = same;
    }

-- one for this node is
pub taken_is_step : (ticket : ℕ) (old : NodeState) (message : Message) (outputs : Outputs) (new : NodeState) → not (message.to == old.number) ≡ false
    → Comes ticket (MayBeTaken (ready old message) message.from message.body) outputs new → NodeStep ticket old (Deliver message) outputs new
taken_is_step ticket old message outputs new own comes =
    let same : (message.to == old.number) ≡ true = not-false (message.to == old.number) own in
    record {
      outcome = comes.outcome;
      may_come = record {
        choice = comes.may.choice;
        may_choose = λ here. comes.may.may_choose;
        comes_to = comes.may.comes_to ∙ sym (cond-true (message.to == old.number) (taken (ready old message) message.from comes.may.choice message.body) (silent old) same);
      };
      outputs_are = comes.outputs_are;
      state = comes.state;
    }
