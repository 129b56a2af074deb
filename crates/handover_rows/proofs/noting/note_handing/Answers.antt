use Rattle.std.proofs.Common.{refl, sym, ◌∙◌}
use Rattle.handover_rows.proofs.NotingLemmas.{noted, passed_over}
use Rattle.handover_rows.proofs.noting.note_handing.Goals as goal

pub returns-then-not-concerns : goal.returns-then-not-concerns
returns-then-not-concerns g c = passed_over c.args.node.now c.args.handing.now c.draft_change.new.draft (sym c.concerns.ensures ∙ c.if-not-concerns.true) (c.draft_change.ensures _ refl)

pub returns : goal.returns
returns g c =
    noted c.args.node.now c.args.handing.now c.draft_change-2.new.draft _ (sym c.concerns.ensures ∙ c.if-not-concerns.false) c.in_ok-clone.ensures.cases (c.draft_change-2.ensures _ refl)
