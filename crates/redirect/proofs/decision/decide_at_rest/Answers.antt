use Rattle.std.proofs.Common.{◌∷◌, None, refl, sym, ◌∙◌}
use Rattle.redirect.specs.Asked.{Asked, bytes_of}
use Rattle.redirect.proofs.DecisionLemmas.{crossed-says, found, in_slot-says, others-in_slot}
use Rattle.redirect.proofs.decision.decide_at_rest.Goals as goal

pub returns-then-has_other_slot-clause-value : goal.returns-then-has_other_slot-clause-value
returns-then-has_other_slot-clause-value c table moves first there asking owns rests same =
    let at = c.args.at in
    let asked : Asked = record { keys = first ∷ bytes_of c.args.others.now; there = there; asking = asking; paused = at.is_paused } in
    (crossed-says table moves at.node c.args.slot c.args.others.now asked _ refl (sym c.has_other_slot.ensures ∙ c.if-has_other_slot.true)).value first same

pub returns-clause-value : goal.returns-clause-value
returns-clause-value c table moves first there asking owns rests same =
    let at = c.args.at in
    let asked : Asked = record { keys = first ∷ bytes_of c.args.others.now; there = there; asking = asking; paused = at.is_paused } in
    let made = found table moves at.node c.args.slot c.args.others.now asked _ None _ owns rests (c.in_resting_slot.ensures asked refl) in
    (in_slot-says table moves at.node c.args.slot c.args.others.now asked _ made (sym c.has_other_slot.ensures ∙ c.if-has_other_slot.false)).value first same

pub returns-clause-one_slot : goal.returns-clause-one_slot
returns-clause-one_slot c _ = others-in_slot c.args.slot c.args.others.now (sym c.has_other_slot.ensures ∙ c.if-has_other_slot.false)
