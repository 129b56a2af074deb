-- A copy, as a node takes it.
use Rattle.std.proofs.Common.{◌≡◌, ℕ, Bool, List, [], refl, sym, ap, subst, ◌∙◌}
use Rattle.bus.specs.declared.message.Body.{Body}
use Rattle.keyspace.specs.declared.value.Value.{Value}
use Rattle.migrate.proofs.Verdicts.{installs_count}
use Rattle.migrate.specs.Arriving.{arrival_verdict}
use Rattle.migrate.specs.declared.arriving.ArrivalVerdict.{ArrivalVerdict}
use Rattle.migrate.specs.declared.arriving.ArrivalVerdict.TheVariants.{Ignored, Installs, Repeats}
use Rattle.node_parts.specs.Becomes.{Becomes}
use Rattle.node_parts.specs.Drafts.{Drafts}
use Rattle.keyspace.specs.Keyspace.{Keyspace}
use Rattle.keyspace.specs.Plan.{committed}
use Rattle.node_parts.specs.declared.change.Change.{Change}
use Rattle.node_parts.specs.declared.change.Change.TheVariants.{Nothing, Installs as InstallsCopy}
use Rattle.keyspace.specs.declared.plans.Plan.{Plan}
use Rattle.node_parts.specs.declared.draft.Draft.{Draft}
use Rattle.node_step.specs.Copies.{ack_by, arrival, arrived, keep_limits, with_copied}
use Rattle.node_step.specs.Outcome.{silent}
use Rattle.node_step.specs.State.{NodeState}
use Rattle.node_step.specs.declared.outputs.Release.{Release}
use Rattle.slot_state.specs.Moves.{move_of}
use Rattle.slot_state.specs.declared.copy_id.CopyId.{CopyId}

module _ (old : NodeState) (from : ℕ) (id : CopyId) (pairs : List (List ℕ × Value)) (fits : Bool) (verdict : ArrivalVerdict) (released : List Release) (bodies : List (ℕ × Body)) (plan : Plan) (draft : Draft)
    (is : verdict ≡ arrival_verdict (move_of old.moves id.slot) from id.number id.copy fits) (limits : fits ≡ keep_limits pairs) (none : released ≡ []) (words : bodies ≡ ack_by from id verdict) where
  -- the outcome by the verdict is that of the copy
  as_arrival : Drafts old (arrived old from id pairs verdict) draft → Drafts old (arrival old from id pairs) draft
  as_arrival drafts =
      subst (λ v. Drafts old (arrived old from id pairs v) draft) (is ∙ ap (arrival_verdict (move_of old.moves id.slot) from id.number id.copy) limits) drafts

  -- with these words, and nobody else told
  with_words : (after : NodeState) → Drafts old (record (silent after) { released = released; sent = bodies }) draft
      → Drafts old (record (silent after) { sent = ack_by from id verdict }) draft
  with_words after drafts =
      subst (λ (sent : List (ℕ × Body)). Drafts old (record (silent after) { released = []; sent = sent }) draft) words
      (subst (λ (r : List Release). Drafts old (record (silent after) { released = r; sent = bodies }) draft) none drafts)

  abbrev DraftsBy : Change → Type 0
  DraftsBy change = (after : NodeState) → Becomes old plan change after → Drafts old (record (silent after) { released = released; sent = bodies }) draft

  -- a copy that is only acknowledged again changes nothing
  pub repeats_copy : verdict ≡ Repeats → DraftsBy Nothing → Drafts old (arrival old from id pairs) draft
  repeats_copy same drafts =
      as_arrival (subst (λ v. Drafts old (arrived old from id pairs v) draft) (sym same)
      (subst (λ v. Drafts old (record (silent old) { sent = ack_by from id v }) draft) same (with_words old (drafts old refl))))

  -- nor does one that is ignored
  pub ignores_copy : verdict ≡ Ignored → DraftsBy Nothing → Drafts old (arrival old from id pairs) draft
  ignores_copy same drafts =
      as_arrival (subst (λ v. Drafts old (arrived old from id pairs v) draft) (sym same)
      (subst (λ v. Drafts old (record (silent old) { sent = ack_by from id v }) draft) same (with_words old (drafts old refl))))

  -- one that is installed
  pub installs_copy : verdict ≡ Installs → ((keyspace : Keyspace) → committed keyspace plan ≡ with_copied keyspace pairs) → DraftsBy (InstallsCopy id.slot id.copy) → Drafts old (arrival old from id pairs) draft
  installs_copy same puts drafts =
      let after = (arrived old from id pairs Installs).state in
      let leads : Becomes old plan (InstallsCopy id.slot id.copy) after =
      ap (λ (keyspace : Keyspace). record old { keyspace = keyspace; moves = (arrived old from id pairs Installs).state.moves }) (sym (puts old.keyspace))
      ∙ ap (λ moves. record old { keyspace = committed old.keyspace plan; moves = moves }) (sym (installs_count old.moves id.slot from id.number id.copy fits (sym is ∙ same))) in
      as_arrival (subst (λ v. Drafts old (arrived old from id pairs v) draft) (sym same)
      (subst (λ v. Drafts old (record (silent after) { sent = ack_by from id v }) draft) same
      (with_words after (drafts after leads))))
