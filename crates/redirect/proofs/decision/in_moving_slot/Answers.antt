use Rattle.std.proofs.Common.{◌∙◌, sym, ap}
use Rattle.redirect.specs.Asked.{asked}
use Rattle.redirect.specs.Decision.{leaving}
use Rattle.redirect.specs.declared.decision.Decision.TheVariants.{Ask}
use Rattle.redirect.proofs.DecisionLemmas.{in_slot-asked, in_slot-leaving}
use Rattle.redirect.proofs.decision.in_moving_slot.Goals as goal

pub returns-in-Comes : goal.returns-in-Comes
returns-in-Comes c paused =
    c.coming.ensures c.args.asking paused ∙ sym (in_slot-asked _ _ _ _ _ _ _ _ c.in-Comes.is (sym c.is_right.ensures ∙ c.if-is_right.true))

pub returns-in-Some : goal.returns-in-Some
returns-in-Some c paused =
    c.leaving.ensures c.args.asking paused
    ∙ ap (λ frozen. leaving (Ask c.args.slot c.in-Leaves.to c.in-Leaves.number) frozen (asked c.args.keys.now c.args.there.now c.args.asking paused)) c.as_ref.ensures.value
    ∙ sym (in_slot-leaving _ _ _ _ _ _ _ _ _ c.in-Some.is c.in-Leaves.is)
