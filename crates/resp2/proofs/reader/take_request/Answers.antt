use Rattle.std.proofs.Common.{◌≡◌, ◌+◌, ◌-◌, ◌∙◌, ap, subst, length, arith}
use Rattle.std.proofs.lemmas.Result.{err_from_is_err_and}
use Rattle.resp2.specs.Progress.{Refuses, pending_of}
use Rattle.resp2.specs.Reading.{reading}
use Rattle.resp2.proofs.Overlong.{counted_still, handed_out, part_too_long, part_wants, waits_for_more, whole_is_found, whole_too_long}
use Rattle.resp2.proofs.reader.take_request.Goals as goal

pub returns-in_err-hand_out-in-Ok-true-clause-takes : goal.returns-in_err-hand_out-in-Ok-true-clause-takes
returns-in_err-hand_out-in-Ok-true-clause-takes c =
    let fault = err_from_is_err_and c.from_residual.result c.from_residual.ensures.1 in
    let left : c.args.consumed.now + c.len.result - c.len-2.result + length c.take_words-taken.new.input.items ≡ length (pending_of c.args.progress.now c.args.input.now.items) =
    omega (arith, c.len.ensures.value, c.len-2.ensures.value, c.take_words-taken.ensures.shrinks, c.requires.counted.counted) in
    rw (fault.1, fault.2)
    (whole_too_long _ _ _ _ _ (whole_is_found _ _ _ _ c.in-Ok-true.field-0-test c.in-Ok-true.ensures.takes) left c.in_err-hand_out-in-Ok-true.ensures.many.1 c.in_err-hand_out-in-Ok-true.ensures.many.0)

pub returns-in_err-wait-in-Ok-false-clause-takes : goal.returns-in_err-wait-in-Ok-false-clause-takes
returns-in_err-wait-in-Ok-false-clause-takes c =
    let fault = err_from_is_err_and c.from_residual-in_err-wait-in-Ok-false.result c.from_residual-in_err-wait-in-Ok-false.ensures.1 in
    let total : c.args.consumed.now + c.len.result ≡ length (pending_of c.args.progress.now c.args.input.now.items) = omega (arith, c.len.ensures.value, c.requires.counted.counted) in
    rw (fault.1, fault.2)
    (part_too_long _ _ _ (part_wants _ _ _ _ c.in-Ok-false.field-0-test c.in-Ok-false.ensures.takes) total c.in_err-wait-in-Ok-false.ensures.many.1 c.in_err-wait-in-Ok-false.ensures.many.0)

pub returns-in_ok-hand_out-in-Ok-true-clause-takes : goal.returns-in_ok-hand_out-in-Ok-true-clause-takes
returns-in_ok-hand_out-in-Ok-true-clause-takes c =
    let left : c.args.consumed.now + c.len.result - c.len-2.result + length c.take_words-taken.new.input.items ≡ length (pending_of c.args.progress.now c.args.input.now.items) =
    omega (arith, c.len.ensures.value, c.len-2.ensures.value, c.take_words-taken.ensures.shrinks, c.requires.counted.counted) in
    handed_out _ _ _ _ _ _ (whole_is_found _ _ _ _ c.in-Ok-true.field-0-test c.in-Ok-true.ensures.takes) left c.in_ok-hand_out-in-Ok-true.ensures.few c.in_ok-hand_out-in-Ok-true.ensures.frame c.in_ok-hand_out-in-Ok-true.ensures.again.0

pub returns-in_ok-wait-in-Ok-false-clause-takes : goal.returns-in_ok-wait-in-Ok-false-clause-takes
returns-in_ok-wait-in-Ok-false-clause-takes c =
    let total : c.args.consumed.now + c.len.result ≡ length (pending_of c.args.progress.now c.args.input.now.items) = omega (arith, c.len.ensures.value, c.requires.counted.counted) in
    waits_for_more _ _ (part_wants _ _ _ _ c.in-Ok-false.field-0-test c.in-Ok-false.ensures.takes) total c.in_ok-wait-in-Ok-false.ensures.few.1

pub returns-in-Err-clause-takes : goal.returns-in-Err-clause-takes
returns-in-Err-clause-takes c = subst (λ t. Refuses c.first_fault-fault.result (reading t)) c.in-Err.ensures.kept c.first_fault-fault.ensures.refuses

pub returns-in-Err-clause-counted : goal.returns-in-Err-clause-counted
returns-in-Err-clause-counted c =
    let same = ap length (c.first_fault-fault.ensures.kept ∙ c.in-Err.ensures.kept) in
    counted_still c.first_fault-fault.result c.first_fault-fault.new.progress c.first_fault-fault.new.input.items c.stop_at.new.self _
    c.stop_at.ensures.partial (c.stop_at.ensures.fault c.first_fault-fault.ensures.sound)
    (omega (arith, same, c.len.ensures.value, c.len-2.ensures.value, c.len-in-Err.ensures.value, c.take_words-taken.ensures.shrinks, c.first_fault-fault.ensures.shrinks, c.requires.counted.counted))
    (λ e. let few = c.first_fault-fault.ensures.few e in
    omega (arith, few, c.len.ensures.value, c.len-2.ensures.value, c.len-in-Err.ensures.value, c.take_words-taken.ensures.shrinks, c.first_fault-fault.ensures.shrinks))
