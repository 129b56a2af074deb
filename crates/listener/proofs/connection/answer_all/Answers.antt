use Rattle.std.proofs.Common.{refl, ◌∙◌}
use Rattle.std.proofs.lemmas.Result.{err_from_is_err_and}
use Rattle.listener.specs.declared.requests.Rest.TheVariants.{BadByte}
use Rattle.listener.specs.Streams.{stream_of}
use Rattle.listener.proofs.DeskLemmas.{answers_again, answers_flush, answers_nothing, halts_again, halts_unsent}
use Rattle.listener.proofs.connection.answer_all.Goals as goal

pub turns-init : goal.turns-init
turns-init g c = record { answers = answers_nothing _ _ _; good = c.requires.sound; room = c.requires.room; same = refl }

pub returns-in_err-rest-clause-halts : goal.returns-in_err-rest-clause-halts
returns-in_err-rest-clause-halts g c =
    let p = err_from_is_err_and c.from_residual.result c.from_residual.ensures.1 in
    rw (p.1, p.2)
    (halts_again _ _ _ _ _ _ c.turns.invariant.answers (rw c.turns.invariant.same at c.in_err-rest.ensures.halts (stream_of g.W.Write.contents c.turns.writer)))

pub returns-in-Some-clause-answered : goal.returns-in-Some-clause-answered
returns-in-Some-clause-answered g c =
    answers_again _ _ _ _ _ c.turns.invariant.answers (rw c.turns.invariant.same at c.in_ok-rest.ensures.answered (stream_of g.W.Write.contents c.turns.writer))

pub turns-preserved : goal.turns-preserved
turns-preserved g c =
    let so_far = c.turns.invariant in
    let answered = answers_again _ _ _ _ _ so_far.answers (rw so_far.same at c.in_ok-rest.ensures.answered (stream_of g.W.Write.contents c.turns.writer)) in
    record {
      answers = rw (c.in-Ok.ensures.asked, c.in-Ok.ensures.same.1) (answers_flush _ _ _ _ _ _ answered c.in-Ok.ensures.sends c.in-Ok.ensures.empty);
      good = rw c.in-Ok.ensures.same.1 (c.in_ok-rest.ensures.good (c.in_default.not-Some BadByte));
      room = c.in-Ok.ensures.room c.in_ok-rest.ensures.here;
      same = c.in-Ok.ensures.same.0 ∙ c.in_ok-rest.ensures.same ∙ so_far.same;
    }

pub returns-in_default-write_out-clause-halts : goal.returns-in_default-write_out-clause-halts
returns-in_default-write_out-clause-halts g c =
    let so_far = c.turns.invariant in
    let answered = answers_again _ _ _ _ _ so_far.answers (rw so_far.same at c.in_ok-rest.ensures.answered (stream_of g.W.Write.contents c.turns.writer)) in
    rw c.in_default-write_out.ensures.asked (halts_again _ _ _ _ _ _ answered (halts_unsent _ _ _ _ _ _ c.in_default-write_out.ensures.sends))
