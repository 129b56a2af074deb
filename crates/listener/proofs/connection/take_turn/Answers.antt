use Rattle.std.proofs.Common.{refl, ap}
use Rattle.std.specs.Prelude.{None}
use Rattle.std.proofs.lemmas.Result.{err_from_is_err_and}
use Rattle.resp2.specs.Reader.{ReaderState}
use Rattle.listener.specs.Streams.{Stream}
use Rattle.listener.proofs.TurnLemmas.{parks_denied, parks_heard, parks_shorter, room_is_here}
use Rattle.listener.proofs.connection.take_turn.Goals as goal

pub returns-in-Read-clause-answered : goal.returns-in-Read-clause-answered
returns-in-Read-clause-answered g c out = rw c.in-Read.is at c.in_ok-answer.ensures.turns (room_is_here _ c.requires.room) out

pub returns-in-BadByte-clause-answered : goal.returns-in-BadByte-clause-answered
returns-in-BadByte-clause-answered g c out = rw c.in-BadByte.is at c.in_ok-answer.ensures.turns (room_is_here _ c.requires.room) out

pub returns-in-Write-clause-answered : goal.returns-in-Write-clause-answered
returns-in-Write-clause-answered g c out = rw c.in-Write.is at c.in_ok-answer.ensures.turns (room_is_here _ c.requires.room) out

pub returns-in-Answer-clause-answered : goal.returns-in-Answer-clause-answered
returns-in-Answer-clause-answered g c out = rw c.in-Answer.is at c.in_ok-answer.ensures.turns (room_is_here _ c.requires.room) out

pub returns-in_err-wait-in-Hear-clause-halts : goal.returns-in_err-wait-in-Hear-clause-halts
returns-in_err-wait-in-Hear-clause-halts g c =
    let p = err_from_is_err_and c.from_residual-in_err-wait-in-Hear.result c.from_residual-in_err-wait-in-Hear.ensures.1 in
    rw (p.1, p.2, c.in_err-wait-in-Hear.ensures.fault, c.in_err-wait-in-Hear.ensures.kept)
    (λ (out : Stream). parks_denied _ _ _ _ _ _ (rw c.in-Hear.is at c.in_ok-answer.ensures.turns (room_is_here _ c.requires.room) out)
    (rw c.answer.ensures.same at c.in_err-wait-in-Hear.ensures.none))

pub returns-in_ok-wait-in-Hear-clause-answered : goal.returns-in_ok-wait-in-Hear-clause-answered
returns-in_ok-wait-in-Hear-clause-answered g c out =
    parks_heard _ _ _ _ _ (rw c.in-Hear.is at c.in_ok-answer.ensures.turns (room_is_here _ c.requires.room) out)
    (rw c.answer.ensures.same at c.in_ok-wait-in-Hear.ensures.heard)
    (ap (λ (state : ReaderState). state.pending) c.wait.ensures.same.1) refl

pub returns-in_ok-wait-in-Hear-clause-shorter : goal.returns-in_ok-wait-in-Hear-clause-shorter
returns-in_ok-wait-in-Hear-clause-shorter g c =
    rw c.wait.ensures.same.1
    (parks_shorter _ _ _ _ (rw c.in-Hear.is at c.in_ok-answer.ensures.turns (room_is_here _ c.requires.room) (record { bytes = None; failures = 0; at_failure = None })))
