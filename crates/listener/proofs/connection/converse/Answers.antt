use Rattle.std.proofs.Common.{append-nil, arith, refl, ◌∙◌}
use Rattle.std.proofs.KnownBytes.{Consumes-nil, Consumes-trans}
use Rattle.std.proofs.lemmas.List.{nil_from_length}
use Rattle.std.proofs.lemmas.Result.{err_from_is_err_and}
use Rattle.listener.proofs.DeskLemmas.{answers_again, answers_fed, answers_flush, answers_nothing, halts_again, halts_here, halts_unsent, more_came, nothing_is_unfinished, reads_on, stops_fed}
use Rattle.listener.proofs.TurnLemmas.{stops_unread}
use Rattle.listener.proofs.connection.converse.Goals as goal

pub reads-init : goal.reads-init
reads-init g c =
    record {
      came = _;
      read = Consumes-nil _;
      long = omega arith;
      answers = rw (c.requires.begins.0, c.requires.empty) (answers_nothing _ _ _);
      unfinished = nothing_is_unfinished _ c.requires.begins.0;
      good = c.requires.begins.1;
      empty = c.requires.empty;
      free = c.requires.free;
      same = refl;
      reader = refl;
      room = c.requires.room;
    }

pub returns-then-count-eq0-clause-stops : goal.returns-then-count-eq0-clause-stops
returns-then-count-eq0-clause-stops g c =
    let so_far = c.reads.invariant in
    let got = c.in_ok-count.ensures.read in
    rw (c.requires.empty, c.read_some.ensures.same.1)
    (stops_fed _ _ _ _ _ _ _ _ _ _ _ _ so_far.read got.read so_far.answers got.fed
    (halts_here _ _ _ _ _ _ (answers_nothing _ _ _) (λ e. cc) (refl, rw (got.fed, nil_from_length got.bytes (got.counted ∙ c.if-count-eq0.true), append-nil) so_far.unfinished))
    (got.end c.if-count-eq0.true, got.same ∙ so_far.reader))

pub returns-in_err-count-clause-stops : goal.returns-in_err-count-clause-stops
returns-in_err-count-clause-stops g c =
    let so_far = c.reads.invariant in
    let p = err_from_is_err_and c.from_residual.result c.from_residual.ensures.1 in
    rw (p.1, p.2, c.requires.empty, c.read_some.ensures.same.1)
    (stops_unread _ _ _ _ _ _ _ _ _ _ so_far.read so_far.answers so_far.unfinished so_far.reader c.in_err-count.ensures.failed)

pub returns-in_err-answer_all-clause-stops : goal.returns-in_err-answer_all-clause-stops
returns-in_err-answer_all-clause-stops g c =
    let so_far = c.reads.invariant in
    let got = c.in_ok-count.ensures.read in
    let p = err_from_is_err_and c.from_residual-in_err-answer_all.result c.from_residual-in_err-answer_all.ensures.1 in
    rw (p.1, p.2, c.requires.empty)
    (stops_fed _ _ _ _ _ _ _ _ _ _ _ _ so_far.read got.read so_far.answers got.fed
    (rw (c.read_some.ensures.same.0, c.read_some.ensures.same.1, so_far.same) at c.in_err-answer_all.ensures.halts)
    (reads_on _ _ _ c.in_err-answer_all.ensures.fault (got.same ∙ so_far.reader)))

pub returns-in-BadByte-clause-stops : goal.returns-in-BadByte-clause-stops
returns-in-BadByte-clause-stops g c =
    let so_far = c.reads.invariant in
    let got = c.in_ok-count.ensures.read in
    rw c.requires.empty
    (stops_fed _ _ _ _ _ _ _ _ _ _ _ _ so_far.read got.read so_far.answers got.fed
    (halts_here _ _ _ _ _ _ (rw (c.read_some.ensures.same.0, c.read_some.ensures.same.1, so_far.same) at c.in_ok-answer_all.ensures.answered)
    (λ e. cc) (refl, rw c.in-BadByte.is at c.in_ok-answer_all.ensures.rest))
    (got.same ∙ so_far.reader))

pub returns-in_default-clause-stops : goal.returns-in_default-clause-stops
returns-in_default-clause-stops g c =
    let so_far = c.reads.invariant in
    let got = c.in_ok-count.ensures.read in
    rw (c.in_default.ensures.asked, c.requires.empty)
    (stops_fed _ _ _ _ _ _ _ _ _ _ _ _ so_far.read got.read so_far.answers got.fed
    (halts_again _ _ _ _ _ _ (rw (c.read_some.ensures.same.0, c.read_some.ensures.same.1, so_far.same) at c.in_ok-answer_all.ensures.answered)
    (halts_unsent _ _ _ _ _ _ c.in_default.ensures.sends))
    (got.same ∙ so_far.reader))

pub reads-preserved : goal.reads-preserved
reads-preserved g c =
    let so_far = c.reads.invariant in
    let got = c.in_ok-count.ensures.read in
    let fed = answers_fed _ _ _ _ _ _ so_far.answers got.fed in
    let answered = answers_again _ _ _ _ _ fed
    (rw (c.read_some.ensures.same.0, c.read_some.ensures.same.1, so_far.same) at c.in_ok-answer_all.ensures.answered) in
    record {
      came = _;
      read = Consumes-trans _ _ _ _ _ so_far.read got.read;
      long = more_came _ _ _ so_far.long (omega (arith, got.counted, c.if-count-eq0.false));
      answers = rw (c.in-Ok.ensures.asked, c.in-Ok.ensures.same.1)
          (answers_flush _ _ _ _ _ _ answered c.in-Ok.ensures.sends c.in-Ok.ensures.empty);
      unfinished = rw (c.in-Ok.ensures.same.1) (rw c.in-Unfinished.is at c.in_ok-answer_all.ensures.rest);
      good = rw (c.in-Ok.ensures.same.1) (c.in_ok-answer_all.ensures.good c.in-Unfinished.is);
      empty = c.in-Ok.ensures.empty;
      free = c.in-Ok.ensures.room c.in_ok-answer_all.ensures.here;
      same = c.in-Ok.ensures.same.0 ∙ c.in_ok-answer_all.ensures.same ∙ c.read_some.ensures.same.0 ∙ so_far.same;
      reader = got.same ∙ so_far.reader;
      room = c.fit.ensures;
    }

pub returns-clause-stops : goal.returns-clause-stops
returns-clause-stops g c =
    let so_far = c.reads.invariant in
    rw c.requires.empty
    (record {
      came = so_far.came;
      read = so_far.read;
      halts = halts_here _ _ _ _ _ _ so_far.answers (λ e. cc) (refl, so_far.unfinished);
      reads = (omega arith, so_far.reader);
    })
