-- What a node answers to a sync, as it drafts it.
use Rattle.std.proofs.Common.{◌≡◌, ℕ, true, false, List, [], sym, ap, subst, ◌∙◌}
use Rattle.std.proofs.lemmas.Bool.{cond-false, cond-true}
use Rattle.bus.specs.Syncing.{answer_to}
use Rattle.bus.specs.declared.message.Body.{Body}
use Rattle.bus.specs.declared.sync.Sync.{Sync}
use Rattle.node_parts.specs.Drafts.{Drafts}
use Rattle.node_parts.specs.declared.draft.Draft.{Draft}
use Rattle.node_step.specs.Outcome.{Outcome, silent}
use Rattle.node_step.specs.Replicas.{sync_answer, synced}
use Rattle.node_step.specs.State.{NodeState, is_replica}
use Rattle.node_step.specs.declared.outputs.Release.{Release}

module _ (old : NodeState) (from : ℕ) (sync : Sync) (draft : Draft) where
  abbrev answered : Outcome
  answered = record (silent old) { sent = sync_answer old from (answer_to old.stream sync) }

  -- a replica answers nothing
  pub replica_synced : is_replica old ≡ true → Drafts old (silent old) draft → Drafts old (synced old from sync) draft
  replica_synced is drafts = subst (λ (outcome : Outcome). Drafts old outcome draft) (sym (cond-true (is_replica old) (silent old) answered is)) drafts

  pub master_synced : (bodies : List (ℕ × Body)) (released : List Release) → is_replica old ≡ false → bodies ≡ sync_answer old from (answer_to old.stream sync) → released ≡ []
      → Drafts old (record (silent old) { released = released; sent = bodies }) draft → Drafts old (synced old from sync) draft
  master_synced bodies released is words none drafts =
      subst (λ (outcome : Outcome). Drafts old outcome draft)
      (ap (λ (r : List Release). record (silent old) { released = r; sent = bodies }) none
      ∙ ap (λ (sent : List (ℕ × Body)). record (silent old) { sent = sent }) words
      ∙ sym (cond-false (is_replica old) (silent old) answered is)) drafts
