use Rattle.std.proofs.Common.{rules, ◌≢◌, Some}
use Rattle.std.specs.Prelude.{slice_get}
use Rattle.resp2.proofs.LeafSteps.{natural_found}
use Rattle.resp2.proofs.leaf.read_integer.Goals as goal

pub overflow_cast-result : goal.overflow_cast-result
overflow_cast-result c =
    let other : slice_get c.args.bytes.now 1 ≢ Some 45 = search rules in
    (natural_found c.args.bytes.now c.in_ok-header.field-0 c.in-Some.header c.requires other c.in_ok-header.ensures c.in-Some.is).0

pub returns : goal.returns
returns c =
    let other : slice_get c.args.bytes.now 1 ≢ Some 45 = search rules in
    let found = natural_found c.args.bytes.now c.in_ok-header.field-0 c.in-Some.header c.requires other c.in_ok-header.ensures c.in-Some.is in
    (found.1, found.2)
