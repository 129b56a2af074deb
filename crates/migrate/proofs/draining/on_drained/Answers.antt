use Rattle.std.proofs.Common.{◌∙◌}
use Rattle.migrate.specs.Draining.{note_drained}
use Rattle.migrate.proofs.Changes.{changed-changed_at, where_lent}
use Rattle.migrate.proofs.draining.on_drained.Goals as goal

pub returns-in-Some : goal.returns-in-Some
returns-in-Some c =
    where_lent _ _ c.in-Some.is (c.get_mut.follows.holds c.note_drained.new.running)
    ∙ changed-changed_at c.args.moves.now c.args.slot _ _ c.in-Some.ensures.value (note_drained c.args.from c.args.number c.args.epoch) c.note_drained.ensures
