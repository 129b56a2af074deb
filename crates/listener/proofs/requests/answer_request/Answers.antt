use Rattle.std.proofs.Common.{refl, sym, ◌∙◌, ◌++◌, ap, drop, List, ℕ}
use Rattle.std.proofs.lemmas.Result.{err_from_is_err_and}
use Rattle.listener.specs.Streams.{Stream}
use Rattle.listener.specs.Turns.{held_bytes}
use Rattle.listener.proofs.DeskLemmas.{answers_at_once, halts_refused, halts_unanswered, refusals_are_of_answering}
use Rattle.listener.proofs.TurnLemmas.{parks_now, puts_behind}
use Rattle.listener.proofs.requests.answer_request.Goals as goal

pub returns-in_err-step-clause-halts : goal.returns-in_err-step-clause-halts
returns-in_err-step-clause-halts g c =
    let p = err_from_is_err_and c.from_residual.result c.from_residual.ensures.1 in
    rw (p.1, p.2)
    (λ (behind pending : List ℕ) (out : Stream). halts_refused _ _ c.args.words c.in_err-step.field-0.0 _ _ pending behind c.requires.request refl
    (rw c.in_err-step.was at c.ask_node.ensures))

pub returns-in_err-step-clause-fault : goal.returns-in_err-step-clause-fault
returns-in_err-step-clause-fault g c =
    let p = err_from_is_err_and c.from_residual.result c.from_residual.ensures.1 in
    rw (p.1, p.2) (refusals_are_of_answering c.in_err-step.field-0.0)

pub returns-in-Parked-clause-answered : goal.returns-in-Parked-clause-answered
returns-in-Parked-clause-answered g c behind out =
    parks_now _ _ c.args.words _ _ _ c.requires.request (sym c.response.ensures ∙ c.in-Parked.is) refl (rw c.in_ok-step.was at c.ask_node.ensures)
    (ap (λ held. drop c.args.outgoing.now.sent c.args.outgoing.now.batch.items ++ held_bytes g.S.Answered.gave held) (sym c.requires.room.nothing)) refl

pub returns-in_default-clause-halts : goal.returns-in_default-clause-halts
returns-in_default-clause-halts g c behind pending out =
    halts_unanswered _ _ c.args.words _ _ _ pending behind c.requires.request (rw c.response.ensures at c.in_default.not-Replied)
    (λ parked. c.in_default.not-Parked (c.response.ensures ∙ parked)) refl (rw c.in_ok-step.was at c.ask_node.ensures)

pub returns-clause-answered : goal.returns-clause-answered
returns-clause-answered g c behind out =
    answers_at_once _ _ c.args.words _ c.in-Replied.field-0 _ _ c.requires.request (sym c.response.ensures ∙ c.in-Replied.is) refl
    (rw c.in_ok-step.was at c.ask_node.ensures) (puts_behind out _ _ _ (rw (sym c.response.ensures ∙ c.in-Replied.is) at c.put.ensures.put)) refl
