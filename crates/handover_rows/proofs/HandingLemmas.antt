-- A request to hand over, as a node drafts what comes of it.
use Rattle.std.proofs.Common.{◌≡◌, ℕ, Bool, true, false, List, [], Some, sym, subst, ◌∙◌}
use Rattle.std.proofs.lemmas.Bool.{cond-false, cond-true}
use Rattle.bus.specs.declared.message.Body.{Body}
use Rattle.bus.specs.declared.stream_id.StreamId.{StreamId}
use Rattle.node_parts.specs.Drafts.{Drafts}
use Rattle.node_parts.specs.declared.draft.Draft.{Draft}
use Rattle.node_step.specs.Handovers.{asked_to_pause, handed_to, handing_over, may_pause}
use Rattle.node_step.specs.Outcome.{Outcome, silent}
use Rattle.node_step.specs.State.{NodeState}
use Rattle.node_step.specs.declared.outputs.Release.{Release}

module _ (node : NodeState) (from : ℕ) (stream : StreamId) (draft : Draft) where
  -- it goes on
  pub goes_on : may_pause node from stream ≡ false → Drafts node (silent node) draft → Drafts node (asked_to_pause node from stream) draft
  goes_on may_not drafts =
      subst (λ (outcome : Outcome). Drafts node outcome draft) (sym (cond-false (may_pause node from stream) (handing_over node from) (silent node) may_not)) drafts

  -- or hands over, and says so
  pub hands_over : (released : List Release) (bodies : List (ℕ × Body)) → may_pause node from stream ≡ true → released ≡ [] → bodies ≡ handed_to node from node.paused
      → Drafts node (record (silent (record node { paused = Some from })) { released = released; sent = bodies }) draft → Drafts node (asked_to_pause node from stream) draft
  hands_over released bodies may none words drafts =
      subst (λ (outcome : Outcome). Drafts node outcome draft) (sym (cond-true (may_pause node from stream) (handing_over node from) (silent node) may))
      (subst (λ (sent : List (ℕ × Body)). Drafts node (record (silent (record node { paused = Some from })) { sent = sent }) draft) words
      (subst (λ (r : List Release). Drafts node (record (silent (record node { paused = Some from })) { released = r; sent = bodies }) draft) none drafts))
