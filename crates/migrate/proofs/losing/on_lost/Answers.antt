use Rattle.std.proofs.Common.{◌==◌, ap, ◌∙◌}
use Rattle.migrate.specs.Losing.{after_loss}
use Rattle.migrate.proofs.Losses.{after_loss-more, after_loss-none}
use Rattle.migrate.proofs.losing.on_lost.Goals as goal

pub loop-slot-init : goal.loop-slot-init
loop-slot-init c = after_loss-none c.args.moves.now

pub loop-slot-preserved : goal.loop-slot-preserved
loop-slot-preserved c =
    c.lose.ensures ∙ ap (λ moves. after_loss moves (λ other. c.slot-item.result == other)) c.loop-slot.invariant
    ∙ after_loss-more c.args.moves.now c.args.lost.now c.loop-slot.slot-index _ c.loop-slot-test.true c.slot-item.is
