use Rattle.std.proofs.Common.{◌∙◌}
use Rattle.migrate.specs.Sending.{with_frozen}
use Rattle.migrate.proofs.Changes.{changed-changed_at, where_lent}
use Rattle.migrate.proofs.sending.freeze.Goals as goal

pub returns-in-Some : goal.returns-in-Some
returns-in-Some c =
    where_lent _ _ c.in-Some.is (c.get_mut.follows.holds c.put_frozen.new.running)
    ∙ changed-changed_at c.args.moves.now c.args.slot _ _ c.in-Some.ensures.value (with_frozen c.args.copy c.args.keys) c.put_frozen.ensures
