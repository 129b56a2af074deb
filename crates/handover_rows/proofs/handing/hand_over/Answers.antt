use Rattle.std.proofs.Common.{refl, rules, sym, ◌∙◌}
use Rattle.handover_rows.proofs.HandingLemmas.{goes_on, hands_over}
use Rattle.handover_rows.proofs.handing.hand_over.Goals as goal

pub returns-then-not-may_pause : goal.returns-then-not-may_pause
returns-then-not-may_pause g c =
    goes_on c.args.node.now c.args.from c.args.stream c.draft_change.new.draft (sym c.may_pause.ensures ∙ c.if-not-may_pause.true) (c.draft_change.ensures _ refl)

pub returns : goal.returns
returns g c =
    hands_over c.args.node.now c.args.from c.args.stream c.draft_releases.new.draft _ _ (sym c.may_pause.ensures ∙ c.if-not-may_pause.false) (search rules)
    (c.in_ok-bodies.ensures ∙ c.in_ok-handed_to.ensures) (c.draft_releases.ensures _ refl)
