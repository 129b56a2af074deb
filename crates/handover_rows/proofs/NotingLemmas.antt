-- What a master hands over, as a node drafts that it notes it.
use Rattle.std.proofs.Common.{◌≡◌, ◌&&◌, Bool, true, false, cond, Some, sym, ap, subst, ◌∙◌}
use Rattle.std.proofs.lemmas.Bool.{cond-false, cond-true}
use Rattle.bus.specs.Stream.{is_same}
use Rattle.bus.specs.declared.bodies.Handing.{Handing}
use Rattle.node_parts.specs.Becomes.{learning}
use Rattle.node_parts.specs.Drafts.{Drafts}
use Rattle.node_parts.specs.declared.draft.Draft.{Draft}
use Rattle.node_step.specs.Handovers.{noting, told_of_handing}
use Rattle.node_step.specs.Outcome.{silent}
use Rattle.node_step.specs.State.{NodeState, is_replica}

module _ (node : NodeState) (handing : Handing) (draft : Draft) where
  abbrev concerns : Bool
  concerns = is_replica node && is_same handing.stream node.stream.held.id

  -- it is none of the node's
  pub passed_over : concerns ≡ false → Drafts node (silent node) draft → Drafts node (told_of_handing node handing) draft
  passed_over other drafts =
      subst (λ (after : NodeState). Drafts node (silent after) draft) (sym (cond-false concerns (record node { handover = noting node.handover handing }) node other)) drafts

  -- it is
  pub noted : (copy : Handing) → concerns ≡ true → copy ≡ handing → Drafts node (silent (learning node (Some copy))) draft → Drafts node (told_of_handing node handing) draft
  noted copy own same drafts =
      subst (λ (after : NodeState). Drafts node (silent after) draft) (sym (cond-true concerns (record node { handover = noting node.handover handing }) node own))
      (subst (λ (h : Handing). Drafts node (silent (learning node (Some h))) draft) same drafts)
