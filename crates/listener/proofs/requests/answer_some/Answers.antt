use Rattle.std.proofs.Common.{arith, inl, refl}
use Rattle.std.proofs.lemmas.Result.{err_from_is_err_and}
use Rattle.resp_header.specs.declared.fault.Fault.TheVariants.{Protocol, TooLong}
use Rattle.listener.specs.Streams.{Stream}
use Rattle.listener.proofs.DeskLemmas.{answers_again, answers_before, answers_nothing, answers_over, halts_again, halts_here}
use Rattle.listener.proofs.TurnLemmas.{grows_shorter, parks_again, passes_over, stays_sound}
use Rattle.listener.proofs.requests.answer_some.Goals as goal

pub requests-init : goal.requests-init
requests-init g c =
    record {
      answers = λ out. answers_nothing _ _ _;
      good = λ none. none;
      here = c.requires;
      shorter = omega arith;
      first = λ _. refl;
    }

pub requests-preserved : goal.requests-preserved
requests-preserved g c =
    let hands_out = rw c.in-Ok-Some.field-0-is at c.in-Ok-Some.ensures.request in
    let so_far = c.requests.invariant in
    record {
      answers = λ out. answers_again _ _ _ _ _ (answers_before _ _ _ _ _ _ _ (so_far.answers out) refl hands_out)
          (rw c.if-not-branch.false at c.in_ok-answer_request-in-Ok-Some.ensures.answered _ out);
      good = λ _. hands_out.still_sound;
      here = rw c.if-not-branch.false at c.in_ok-answer_request-in-Ok-Some.ensures.held;
      shorter = grows_shorter _ _ _ _ _ hands_out so_far.shorter;
      first = λ zero. absurd (omega (arith, zero));
    }

pub returns-in_err-answer_request-in-Ok-Some-clause-halts : goal.returns-in_err-answer_request-in-Ok-Some-clause-halts
returns-in_err-answer_request-in-Ok-Some-clause-halts g c =
    let p = err_from_is_err_and c.from_residual.result c.from_residual.ensures.1 in
    let hands_out = rw c.in-Ok-Some.field-0-is at c.in-Ok-Some.ensures.request in
    rw (p.1, p.2)
    (λ (out : Stream). halts_again _ _ _ _ _ _ (answers_before _ _ _ _ _ _ _ (c.requests.invariant.answers out) refl hands_out)
    (c.in_err-answer_request-in-Ok-Some.ensures.halts _ _ out))

pub returns-then-not-branch-clause-turns : goal.returns-then-not-branch-clause-turns
returns-then-not-branch-clause-turns g c out =
    let hands_out = rw c.in-Ok-Some.field-0-is at c.in-Ok-Some.ensures.request in
    parks_again _ _ _ _ _ (answers_before _ _ _ _ _ _ _ (c.requests.invariant.answers out) refl hands_out)
    (rw c.if-not-branch.true at c.in_ok-answer_request-in-Ok-Some.ensures.answered _ out)

pub returns-in-Ok-None-clause-turns : goal.returns-in-Ok-None-clause-turns
returns-in-Ok-None-clause-turns g c out =
    let waits = rw c.in-Ok-None.field-0-is at c.in-Ok-None.ensures.unfinished in
    answers_over _ _ _ _ _ _ (c.requests.invariant.answers out) refl waits.passes_over

pub returns-in-Err-Memory-clause-halts : goal.returns-in-Err-Memory-clause-halts
returns-in-Err-Memory-clause-halts g c out = halts_here _ _ _ _ _ _ (c.requests.invariant.answers out) (λ e. cc) (inl refl)

pub returns-in-Err-Memory-clause-sound : goal.returns-in-Err-Memory-clause-sound
returns-in-Err-Memory-clause-sound g c none =
    stays_sound c.requests.requests.fault c.requests.requests c.next.new.self (c.requests.invariant.good none) refl
    (rw c.in-Err-Memory.field-0-is at c.in-Err-Memory.ensures.fault)

pub returns-in-Err-Protocol-clause-turns : goal.returns-in-Err-Protocol-clause-turns
returns-in-Err-Protocol-clause-turns g c out =
    answers_over _ _ _ _ _ _ (c.requests.invariant.answers out) refl
    (passes_over Protocol c.requests.requests.fault _ _ (rw c.in-Err-Protocol.field-0-is at c.in-Err-Protocol.ensures.fault)
    (rw c.in-Err-Protocol.field-0-is at c.in-Err-Protocol.ensures.again))

pub returns-in-Err-TooLong-clause-turns : goal.returns-in-Err-TooLong-clause-turns
returns-in-Err-TooLong-clause-turns g c out =
    answers_over _ _ _ _ _ _ (c.requests.invariant.answers out) refl
    (passes_over TooLong c.requests.requests.fault _ _ (rw c.in-Err-TooLong.field-0-is at c.in-Err-TooLong.ensures.fault)
    (rw c.in-Err-TooLong.field-0-is at c.in-Err-TooLong.ensures.again))
