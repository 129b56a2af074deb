use Rattle.std.proofs.Common.{refl}
use Rattle.move_rows.proofs.copies.take_drained.Goals as goal

pub returns : goal.returns
returns g c = c.draft_change.ensures _ refl
