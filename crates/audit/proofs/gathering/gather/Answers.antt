use Rattle.std.proofs.Common.{rules, length}
use Rattle.audit.specs.Gathered.{parts_of}
use Rattle.audit.proofs.TakenApart.{not_each_once, of_all, stranger_of_all}
use Rattle.audit.proofs.gathering.gather.Goals as goal

pub returns-in-Some-clause-run : goal.returns-in-Some-clause-run
returns-in-Some-clause-run g c =
    of_all g.K.Deployment.config g.K.Deployment.table g.K.Deployment.seats c.in-Some.taken c.merge.result (parts_of c.args.cells.items) (search rules) c.merge.ensures.run

pub returns-in-None-clause-stranger : goal.returns-in-None-clause-stranger
returns-in-None-clause-stranger g c _ =
    not_each_once g.K.Deployment.config (length c.nodes-count.result.now) (parts_of c.args.cells.items) c.in_ok-parts.parts.items (search rules) (search rules) (search rules)

pub returns-in-Some-clause-stranger : goal.returns-in-Some-clause-stranger
returns-in-Some-clause-stranger g c =
    stranger_of_all g.K.Deployment.config g.K.Deployment.table g.K.Deployment.seats c.in-Some.taken c.merge.result (parts_of c.args.cells.items) (search rules) c.merge.ensures.stranger
