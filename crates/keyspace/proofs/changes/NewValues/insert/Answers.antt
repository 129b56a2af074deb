use Rattle.std.proofs.Common.{ap, ◌∙◌}
use Rattle.std.specs.FinMap as map
use Rattle.keyspace.proofs.FirstChange.{insert_first, insert_more}
use Rattle.keyspace.proofs.Parted.{on_ok_then}
use Rattle.keyspace.proofs.changes.NewValues.insert.Goals as goal

pub returns-in-Some-clause-ok : goal.returns-in-Some-clause-ok
returns-in-Some-clause-ok c = insert_first _ _ _ c.self.view_is _ _ _ _ c.in-Some.is c.if-eq.ensures

pub returns-in-Some-2-clause-ok : goal.returns-in-Some-2-clause-ok
returns-in-Some-2-clause-ok c =
    on_ok_then c.put.result (λ is. ap (λ d. map.insert d c.in-Some.first c.in-Some.former) is ∙ insert_more _ _ _ c.self.view_is _ _ _ _ c.in-Some.is c.if-eq.ensures) c.put.ensures.ok
