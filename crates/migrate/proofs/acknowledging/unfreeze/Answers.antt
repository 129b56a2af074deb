use Rattle.std.proofs.Common.{◌∙◌}
use Rattle.migrate.specs.Acknowledging.{unfrozen}
use Rattle.migrate.proofs.Changes.{changed-changed_at, where_lent}
use Rattle.migrate.proofs.acknowledging.unfreeze.Goals as goal

pub returns-clause-moves : goal.returns-clause-moves
returns-clause-moves c =
    where_lent _ _ c.in_ok-get_mut.was (c.get_mut.follows.holds c.take_frozen.new.running)
    ∙ changed-changed_at c.args.moves.now c.args.slot _ _ c.in_ok-get_mut.ensures.value unfrozen c.take_frozen.ensures.left
