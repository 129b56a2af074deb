use Rattle.std.proofs.lemmas.Bool.Decides.{not_from_Decides}
use Rattle.std.proofs.lemmas.Slice.Eq.{slice_eq-Decides}
use Rattle.std.specs.Cmp.{booleans_Decides}
use Rattle.same_messages.proofs.same.are_same_marks.Goals as goal

pub returns-clause-same : goal.returns-clause-same
returns-clause-same c = (slice_eq-Decides booleans_Decides c.args.one.now c.args.other.now c.eq.result c.eq.ensures).0

pub returns-clause-differ : goal.returns-clause-differ
returns-clause-differ c = not_from_Decides c.eq.result (slice_eq-Decides booleans_Decides c.args.one.now c.args.other.now c.eq.result c.eq.ensures)
