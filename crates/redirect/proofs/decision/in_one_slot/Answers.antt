use Rattle.std.proofs.Common.{Option, refl, sym, ap, ◌∙◌}
use Rattle.std.specs.Option.{option_copied}
use Rattle.redirect.specs.Asked.{Asked, asked}
use Rattle.redirect.specs.Decision.{in_slot}
use Rattle.slot_state.specs.State.{state_of}
use Rattle.slot_state.specs.declared.running.Move.{Move}
use Rattle.redirect.proofs.decision.in_one_slot.Goals as goal

pub returns-in-None : goal.returns-in-None
returns-in-None c =
    let at = c.args.at in
    let it : Asked = asked c.args.keys.now c.args.there.now c.args.asking at.is_paused in
    c.in_resting_slot.ensures it refl
    ∙ ap (λ (move : Option Move). in_slot c.args.slot at.owner (state_of at.owner move at.node) it) (sym (ap option_copied c.in-None.is))
