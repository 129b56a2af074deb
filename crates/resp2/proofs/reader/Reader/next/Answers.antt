use Rattle.std.proofs.Common.{◌∙◌, ap, sym, subst}
use Rattle.std.specs.Prelude.{IfNone}
use Rattle.std.proofs.lemmas.Result.{err_from_is_err_and}
use Rattle.resp2.specs.Progress.{IsCounted, pending_of}
use Rattle.resp2.proofs.ReaderSteps.{fails, found_frame, frame_limits, hands_out, passes_one, same_if_none, shorter, waits, wants_more}
use Rattle.resp2.proofs.reader.Reader.next.Goals as goal

pub returns-in_err-frame-clause-fault : goal.returns-in_err-frame-clause-fault
returns-in_err-frame-clause-fault c =
    let fault = err_from_is_err_and c.from_residual-in_err-frame.result c.from_residual-in_err-frame.ensures.1 in
    rw (fault.1, fault.2)
    (fails _ c.args.self.now _ _ _ (ap (λ s. s.fault) (sym c.self.view_is) ∙ c.in_ok-check.ensures.ok) c.requests.invariant.so_far c.in_err-frame.ensures.unchanged c.in_err-frame.ensures.takes c.in_err-frame.ensures.fault)

pub returns-in_default-clause-unfinished : goal.returns-in_default-clause-unfinished
returns-in_default-clause-unfinished c =
    waits c.args.self.now _ _ _ (ap (λ s. s.fault) (sym c.self.view_is) ∙ c.in_ok-check.ensures.ok) c.requests.invariant.so_far
    (same_if_none c.in_ok-frame.field-0 _ _ c.in_default.is c.in_ok-frame.ensures.unfinished) (wants_more _ _ _ c.in_default.is c.in_ok-frame.ensures.takes) c.in_ok-frame.ensures.sound

pub into_words-requires : goal.into_words-requires
into_words-requires c =
    frame_limits c.in-Some.frame (pending_of c.requests.self-inside.progress c.requests.self-inside.input.items) (pending_of c.take_request.new.progress c.take_request.new.input.items)
    (found_frame _ _ _ _ c.in-Some.is c.in_ok-frame.ensures.takes)

pub returns-in-Some-into_words-clause-request : goal.returns-in-Some-into_words-clause-request
returns-in-Some-into_words-clause-request c =
    hands_out c.args.self.now _ _ _ _ _ (ap (λ s. s.fault) (sym c.self.view_is) ∙ c.in_ok-check.ensures.ok) c.requests.invariant.so_far
    c.in-Some-into_words.ensures.some (found_frame _ _ _ _ c.in-Some.is c.in_ok-frame.ensures.takes) c.in_ok-frame.ensures.sound

pub requests-smaller : goal.requests-smaller
requests-smaller c = shorter _ _ _ (found_frame _ _ _ _ c.in-Some.is c.in_ok-frame.ensures.takes)

pub requests-preserved : goal.requests-preserved
requests-preserved c = record {
  sound = c.in_ok-frame.ensures.sound;
  progress = c.take_request.ensures.progress;
  counted = subst (λ o. IfNone o (IsCounted c.take_request.new.consumed c.take_request.new.progress c.take_request.new.input.items)) c.in_ok-frame.ensures.sound c.in_ok-frame.ensures.counted;
  so_far = passes_one c.args.self.now _ _ _ c.requests.invariant.so_far c.in_default-into_words.ensures.none (found_frame _ _ _ _ c.in-Some.is c.in_ok-frame.ensures.takes);
}
