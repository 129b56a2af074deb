use Rattle.std.proofs.Common.{refl, sym, ◌∙◌}
use Rattle.redirect.specs.Asked.{Asked, asked}
use Rattle.redirect.proofs.DecisionLemmas.{all-in_slot, all-say, crossed-says, found, in_slot-says}
use Rattle.redirect.proofs.decision.decide_in_slot.Goals as goal

pub returns-then-has_other_slot-clause-value : goal.returns-then-has_other_slot-clause-value
returns-then-has_other_slot-clause-value c table moves owns runs =
    let at = c.args.at in
    let it : Asked = asked c.args.keys.now c.args.there.now c.args.asking at.is_paused in
    let says = crossed-says table moves at.node c.args.slot _ it _ refl (sym c.has_other_slot.ensures ∙ c.if-has_other_slot.true) in
    (all-say table moves at.node c.args.slot c.args.keys.now _ _ it _ c.in-Some.ensures.cases.0 says).value

pub returns-clause-value : goal.returns-clause-value
returns-clause-value c table moves owns runs =
    let at = c.args.at in
    let it : Asked = asked c.args.keys.now c.args.there.now c.args.asking at.is_paused in
    let made = found table moves at.node c.args.slot c.args.keys.now it _ _ _ owns runs c.in_one_slot.ensures in
    let says = in_slot-says table moves at.node c.args.slot _ it _ made (sym c.has_other_slot.ensures ∙ c.if-has_other_slot.false) in
    (all-say table moves at.node c.args.slot c.args.keys.now _ _ it _ c.in-Some.ensures.cases.0 says).value

pub returns-clause-one_slot : goal.returns-clause-one_slot
returns-clause-one_slot c same other = all-in_slot c.args.slot c.args.keys.now _ _ c.in-Some.ensures.cases.0 (sym c.has_other_slot.ensures ∙ c.if-has_other_slot.false) same
