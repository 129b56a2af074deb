use Rattle.std.proofs.Common.{sym}
use Rattle.listener.proofs.BatchLemmas.{puts_in_front, writes_behind}
use Rattle.listener.proofs.outgoing.Outgoing.write_some.Goals as goal

pub returns-clause-wrote : goal.returns-clause-wrote
returns-clause-wrote g c = writes_behind c.write_once.result _ _ _ _ _ _ c.settle.ensures.same c.write_once.ensures.wrote

pub returns-clause-put : goal.returns-clause-put
returns-clause-put g c = rw (sym c.settle.ensures.same) (puts_in_front c.write_once.result _ _ _ _ _ c.write_once.ensures.put)
