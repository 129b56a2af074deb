use Rattle.std.proofs.Common.{rules}
use Rattle.redirection.proofs.Redirections.{no_ask_address, no_ask_number}
use Rattle.redirection.proofs.redirection.read_ask.Goals as goal

pub returns-in_default-split_number-clause-none : goal.returns-in_default-split_number-clause-none
returns-in_default-split_number-clause-none c = no_ask_number c.args.text.now _ c.in-Some.slot (search rules) c.in_default-split_number.ensures.none

pub returns-in-None-clause-none : goal.returns-in-None-clause-none
returns-in-None-clause-none c =
    no_ask_address c.args.text.now _ c.in-Some-split_number.address.now c.in-Some.slot c.in-Some-split_number.number (search rules)
    c.in-Some-split_number.ensures.found (search rules)
