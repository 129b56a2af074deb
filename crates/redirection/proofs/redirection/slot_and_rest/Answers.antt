use Rattle.redirection.proofs.Parts.{no_slot}
use Rattle.redirection.proofs.redirection.slot_and_rest.Goals as goal

pub returns-in_err-slot_in-clause-none : goal.returns-in_err-slot_in-clause-none
returns-in_err-slot_in-clause-none c =
    rw c.from_residual-in_err-slot_in.ensures
    (no_slot c.args.text.now c.in_ok-slot.slot.now c.in_ok-slot.rest.now c.in_ok-slot.ensures.found c.in_err-slot_in.ensures.none)
