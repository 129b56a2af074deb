use Rattle.listener.proofs.BatchLemmas.{puts_some}
use Rattle.listener.proofs.batch.write_once.Goals as goal

pub returns-in-Ok-clause-put : goal.returns-in-Ok-clause-put
returns-in-Ok-clause-put g c = puts_some _ _ c.args.batch.now.items _ c.args.sent.now c.in-Ok.count (rw (c.rest_of-rest.ensures, c.as_slice.ensures.value) at c.in-Ok.ensures.bytes) c.note_sent.ensures
