use Rattle.std.proofs.Common.{rules}
use Rattle.redirection.proofs.Parts.{no_number_behind, number_behind}
use Rattle.redirection.proofs.redirection.split_number.Goals as goal

pub returns-in_err-move_no_in-in-Some-clause-none : goal.returns-in_err-move_no_in-in-Some-clause-none
returns-in_err-move_no_in-in-Some-clause-none c =
    rw c.from_residual.ensures (no_number_behind c.args.text.now c.in-Some.address.now c.in-Some.number.now c.in-Some.ensures.found (search rules))

pub returns-in_ok-move_no_in-in-Some-clause-found : goal.returns-in_ok-move_no_in-in-Some-clause-found
returns-in_ok-move_no_in-in-Some-clause-found c =
    number_behind c.args.text.now c.in-Some.address.now c.in-Some.number.now c.in_ok-move_no_in-in-Some.field-0 c.in-Some.ensures.found (search rules)
