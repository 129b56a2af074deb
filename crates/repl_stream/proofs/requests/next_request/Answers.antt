use Rattle.std.proofs.Common.{◌∙◌, sym}
use Rattle.repl_stream.proofs.ReadingLemmas.{bad_found, none_at_empty, none_found, none_in_nothing, request_found}
use Rattle.repl_stream.proofs.requests.next_request.Goals as goal

pub returns-then-is_empty-clause-none : goal.returns-then-is_empty-clause-none
returns-then-is_empty-clause-none c = none_in_nothing _ (sym c.is_empty.ensures ∙ c.if-is_empty.true)

pub returns-then-starts_with-clause-none : goal.returns-then-starts_with-clause-none
returns-then-starts_with-clause-none c = none_at_empty _ c.no_spelling_begins_another.ensures (sym c.starts_with.ensures.value ∙ c.if-starts_with.true)

pub returns-in-Ok-clause-request : goal.returns-in-Ok-clause-request
returns-in-Ok-clause-request c =
    request_found c.args.bytes.now c.in-Ok.found c.args.reader.now c.next.new.self c.requires (sym c.starts_with.ensures.value ∙ c.if-starts_with.false) c.in-Ok.ensures.request

pub returns-in-Ok-clause-none : goal.returns-in-Ok-clause-none
returns-in-Ok-clause-none c =
    none_found c.args.bytes.now c.in-Ok.found c.args.reader.now c.next.new.self c.requires c.no_unfinished_is_whole.ensures
    (sym c.starts_with.ensures.value ∙ c.if-starts_with.false) c.in-Ok.ensures.unfinished

pub returns-in_ok-check-in-Err-clause-none : goal.returns-in_ok-check-in-Err-clause-none
returns-in_ok-check-in-Err-clause-none c =
    bad_found c.args.bytes.now c.in-Err.fault c.args.reader.now c.next.new.self c.requires c.in_ok-check-in-Err.ensures
    (sym c.starts_with.ensures.value ∙ c.if-starts_with.false) c.in-Err.ensures.fault
