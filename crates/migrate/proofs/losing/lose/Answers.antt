use Rattle.std.proofs.Common.{ap, sym, ◌∙◌}
use Rattle.migrate.specs.Losing.{is_leaving}
use Rattle.migrate.proofs.Losses.{ended-after_loss, same-after_loss}
use Rattle.migrate.proofs.losing.lose.Goals as goal

pub returns-then-is_leaving : goal.returns-then-is_leaving
returns-then-is_leaving c =
    c.end.ensures ∙ ended-after_loss c.args.moves.now c.args.slot (sym (c.is_leaving.ensures ∙ ap is_leaving c.get.ensures) ∙ c.if-is_leaving.true)

pub returns-else-is_leaving : goal.returns-else-is_leaving
returns-else-is_leaving c =
    same-after_loss c.args.moves.now c.args.slot (sym (c.is_leaving.ensures ∙ ap is_leaving c.get.ensures) ∙ c.if-is_leaving.false)
