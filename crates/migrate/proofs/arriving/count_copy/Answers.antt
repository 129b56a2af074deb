use Rattle.std.proofs.Common.{◌∙◌}
use Rattle.migrate.specs.Arriving.{with_last}
use Rattle.migrate.proofs.Changes.{changed-changed_at, where_lent}
use Rattle.migrate.proofs.arriving.count_copy.Goals as goal

pub returns-in-Some : goal.returns-in-Some
returns-in-Some c =
    where_lent _ _ c.in-Some.is (c.get_mut.follows.holds c.put_last.new.running)
    ∙ changed-changed_at c.args.moves.now c.args.slot _ _ c.in-Some.ensures.value (with_last c.args.copy) c.put_last.ensures
