use Rattle.std.proofs.Common.{◌≡◌, ◌∙◌, arith, length, subst, sym, take, true}
use Rattle.std.proofs.Math.Seq.{take-length}
use Rattle.std.proofs.lemmas.List.{take_all}
use Rattle.resharder.proofs.MigrationLemmas.{all_at_once, at_most, behind_first, counted_more, is_migration}
use Rattle.resharder.specs.Migration.{keep_limits}
use Rattle.resharder.specs.Orders.{migrate_words}
use Rattle.resharder.proofs.fitting.count_at_once.Goals as goal

pub returns-then-not-is_request-clause-count : goal.returns-then-not-is_request-clause-count
returns-then-not-is_request-clause-count c =
    at_most c.args.to.now c.args.keys.now c.loop-place.place c.index-keys-place.result c.loop-place.len c.bulk_len-len.result c.is_request.result c.len_before-len.ensures.host c.len_before-len.ensures.port c.loop-place-test.true
    c.index-keys-place.is c.len.ensures.short (c.bulk_len-len.ensures.len c.index-keys-place.result (sym c.len.ensures.len)) c.loop-place.invariant c.is_request.ensures c.if-not-is_request.true

pub returns-then-not-is_request-clause-some : goal.returns-then-not-is_request-clause-some
returns-then-not-is_request-clause-some c = λ some.
    behind_first c.args.to.now c.args.keys.now c.loop-place.place c.loop-place.len c.bulk_len-len.result c.is_request.result (omega (arith, c.len_before-len.ensures.len, c.len_before-len.ensures.small)) c.loop-place.invariant
    (omega (arith, c.len.ensures.len, c.len.ensures.short, c.bulk_len-len.ensures.small)) c.is_request.ensures c.if-not-is_request.true

pub returns-then-not-is_request-clause-request : goal.returns-then-not-is_request-clause-request
returns-then-not-is_request-clause-request c = is_migration c.args.to.now (take c.loop-place.place c.args.keys.now) c.loop-place.invariant.keep

pub loop-place-preserved : goal.loop-place-preserved
loop-place-preserved c =
    counted_more c.args.to.now c.args.keys.now c.loop-place.place c.index-keys-place.result c.loop-place.len c.bulk_len-len.result c.is_request.result c.len_before-len.ensures.host c.len_before-len.ensures.port c.loop-place-test.true
    c.index-keys-place.is c.len.ensures.short (c.bulk_len-len.ensures.len c.index-keys-place.result (sym c.len.ensures.len)) c.loop-place.invariant c.is_request.ensures c.if-not-is_request.false

pub returns-clause-count : goal.returns-clause-count
returns-clause-count c = all_at_once c.args.to.now c.args.keys.now c.loop-place.place c.loop-place.len c.loop-place.invariant c.loop-place-test.false

pub returns-clause-request : goal.returns-clause-request
returns-clause-request c =
    let keys = c.args.keys.now in
    is_migration c.args.to.now (take (length keys) keys) (subst (λ front. keep_limits (migrate_words c.args.to.now front) ≡ true) (take_all c.loop-place.place keys c.loop-place-test.false ∙ sym (take-length keys)) c.loop-place.invariant.keep)
