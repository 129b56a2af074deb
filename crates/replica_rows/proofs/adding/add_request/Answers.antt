use Rattle.std.proofs.Common.{refl, rules}
use Rattle.keyspace.proofs.InPlace.{ok_leads}
use Rattle.resp_values.specs.Request.{request_spelling}
use Rattle.replica_rows.proofs.AddingLemmas.{request_is_written}
use Rattle.replica_rows.proofs.adding.add_request.Goals as goal

pub returns-then-is_unread-clause-records : goal.returns-then-is_unread-clause-records
returns-then-is_unread-clause-records g c =
    ok_leads c.count.result
    (request_is_written c.args.node.now c.args.words.now c.args.is_write c.is_recorded.result (request_spelling c.args.words.now) c.args.draft.now c.count.new.draft
    c.is_recorded.ensures c.if-not-is_recorded.false refl) c.count.ensures.ok

pub returns-clause-records : goal.returns-clause-records
returns-clause-records g c =
    request_is_written c.args.node.now c.args.words.now c.args.is_write c.is_recorded.result c.in_ok-bytes.bytes.items c.args.draft.now c.add.new.draft
    c.is_recorded.ensures c.if-not-is_recorded.false (search rules) c.in_ok-add.ensures.ok
