use Rattle.std.proofs.Common.{rules, sym}
use Rattle.redirection.proofs.Parts.{no_short, short_found, short_not_found}
use Rattle.redirection.proofs.splitting.short_in.Goals as goal

pub returns-in_err-number_in-clause-none : goal.returns-in_err-number_in-clause-none
returns-in_err-number_in-clause-none c = rw c.from_residual.ensures (no_short c.args.text.now (search rules))

pub returns-clause-found : goal.returns-clause-found
returns-clause-found c = rw c.ok.ensures.value (short_found c.args.text.now c.in_ok-number_in.field-0 c.try_from.result (sym c.in_ok-number_in.ensures) c.try_from.ensures)

pub returns-clause-none : goal.returns-clause-none
returns-clause-none c = rw c.ok.ensures.value (short_not_found c.args.text.now c.in_ok-number_in.field-0 c.try_from.result (sym c.in_ok-number_in.ensures) c.try_from.ensures)
