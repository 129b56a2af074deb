-- What a command comes to that is served, and one that isn't.
use Rattle.std.proofs.Common.{◌≡◌, ◌≢◌, Bool, true, false, true≢false, OnOk, sym, refl, ap, ◌∙◌, subst}
use Rattle.std.specs.Prelude.{Result, Ok, Err}
use Rattle.command_table.specs.declared.command.DataCommand.{DataCommand}
use Rattle.resp_values.specs.declared.reply.Reply.{Reply}
use Rattle.redirect.specs.declared.decision.Decision.{Decision}
use Rattle.redirect.specs.declared.decision.Decision.TheVariants.{Serve, ServeImport, CrossSlot, Down, TryAgain, Ask, Moved}
use Rattle.node_parts.specs.Drafts.{Drafts}
use Rattle.node_parts.specs.declared.draft.Draft.{Draft}
use Rattle.key_rows.specs.Refusals.{refusal}
use Rattle.redirect.specs.Decision.{is_served}
use Rattle.node_step.specs.Commands.{command_outcome, served}
use Rattle.node_step.specs.Outcome.{replied}
use Rattle.node_step.specs.State.{NodeState}
use Rattle.node_step.specs.declared.response.Why.TheVariants.{Decided}

-- the keys of a command that is served are in one slot
pub served_in_one_slot : (made : Decision) → is_served made ≡ true → made ≢ CrossSlot
served_in_one_slot made is crosses = true≢false (sym is ∙ ap is_served crosses)

served_outcome : (node : NodeState) (numbered : Bool) (command : DataCommand) (made : Decision) → is_served made ≡ true
    → served node command made ≡ command_outcome node numbered command made
served_outcome node numbered command Serve is = refl
served_outcome node numbered command (ServeImport number) is = refl
served_outcome node numbered command CrossSlot is = absurd (true≢false (sym is))
served_outcome node numbered command Down is = absurd (true≢false (sym is))
served_outcome node numbered command (TryAgain reason) is = absurd (true≢false (sym is))
served_outcome node numbered command (Ask slot to number) is = absurd (true≢false (sym is))
served_outcome node numbered command (Moved slot to) is = absurd (true≢false (sym is))

refused_outcome : (node : NodeState) (numbered : Bool) (command : DataCommand) (made : Decision) → is_served made ≡ false
    → replied node (Decided made) (refusal node.config numbered made) ≡ command_outcome node numbered command made
refused_outcome node numbered command Serve is = absurd (true≢false is)
refused_outcome node numbered command (ServeImport number) is = absurd (true≢false is)
refused_outcome node numbered command CrossSlot is = refl
refused_outcome node numbered command Down is = refl
refused_outcome node numbered command (TryAgain reason) is = refl
refused_outcome node numbered command (Ask slot to number) is = refl
refused_outcome node numbered command (Moved slot to) is = refl

module _ (old node : NodeState) (numbered : Bool) (command : DataCommand) (made decided : Decision) (draft : Draft) (test : Bool)
    (is : made ≡ decided) (tests : test ≡ is_served made) where
  -- one that is served comes to what its execution does
  pub drafts_serving : test ≡ true → Drafts old (served node command made) draft → Drafts old (command_outcome node numbered command decided) draft
  drafts_serving holds drafts =
      subst (λ d. Drafts old (command_outcome node numbered command d) draft) is
      (subst (λ outcome. Drafts old outcome draft) (served_outcome node numbered command made (sym tests ∙ holds)) drafts)

  -- one that isn't comes to its reply, and nothing else
  pub drafts_refusing : (reply : Reply) → test ≡ false → reply ≡ refusal node.config numbered made
      → Drafts old (replied node (Decided made) reply) draft → Drafts old (command_outcome node numbered command decided) draft
  drafts_refusing reply fails replies drafts =
      subst (λ d. Drafts old (command_outcome node numbered command d) draft) is
      (subst (λ outcome. Drafts old outcome draft) (refused_outcome node numbered command made (sym tests ∙ fails))
      (subst (λ r. Drafts old (replied node (Decided made) r) draft) replies drafts))

-- the same of a call that may fail
pub drafts_serving_if_made : {A E : Type 0} (old node : NodeState) (numbered : Bool) (command : DataCommand) (made decided : Decision) (draft : Draft) (result : Result A E) (test : Bool)
    → made ≡ decided → test ≡ is_served made → test ≡ true → OnOk result (Drafts old (served node command made) draft)
    → OnOk result (Drafts old (command_outcome node numbered command decided) draft)
drafts_serving_if_made old node numbered command made decided draft (Ok value) test is tests holds drafts =
    drafts_serving old node numbered command made decided draft test is tests holds drafts
drafts_serving_if_made old node numbered command made decided draft (Err error) test is tests holds drafts = tt
