use Rattle.std.proofs.Common.{refl}
use Rattle.std.proofs.lemmas.Result.{err_from_is_err_and}
use Rattle.listener.specs.Conversation.IsUnopened.{was_refused, gave_none}
use Rattle.listener.proofs.talk.open.Goals as goal

pub returns-in_err-step-clause-err : goal.returns-in_err-step-clause-err
returns-in_err-step-clause-err g c =
    let p = err_from_is_err_and c.from_residual.result c.from_residual.ensures.1 in
    rw (p.1, p.2)
    (record { asks = _; history = rw c.in_err-step.was at c.ask_alone.ensures; why = was_refused c.in_err-step.field-0.0 refl refl })

pub returns-in_default : goal.returns-in_default
returns-in_default g c =
    record {
      ok = tt;
      err = record {
        asks = _;
        history = rw c.in_ok-step.was at c.ask_alone.ensures;
        why = gave_none _ refl (rw c.response.ensures at c.in_default.not-Opened) refl;
      };
    }
