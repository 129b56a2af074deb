-- Turns of a conversation, one behind another.
use Rattle.std.proofs.Common.{◌≡◌, ◌≢◌, ℕ, List, [], ◌∷◌, ◌++◌, Result, Err, append_assoc, append-nil, arith, refl, sym, ◌∙◌, ap, subst}
use Rattle.connections.specs.declared.conn.Conn.{Conn}
use Rattle.node_gate.specs.Asks.{Asked}
use Rattle.listener.specs.Conversation.{line_of, replies_bytes}
use Rattle.resp_values.specs.Request.{request_spelling}
use Rattle.listener.specs.InTurns.{AreTurns, Course, IsHeld, IsReading, Parts, Stage, Turn, TurnsMakeAConversation, desk_in, holding, opened, stage_behind}
use Rattle.listener.specs.InTurns.Stage.{Answering, Awaiting, Over, Parting}
use Rattle.listener.specs.InTurns.Turn.{answers, closes, ends, fails, hears, hears_nothing, reads, writes}
use Rattle.listener.specs.Progress.{Answers, Desk, Halts, Puts, desk}
use Rattle.listener.specs.Streams.{Stream, change}
use Rattle.listener.specs.Turns.{Parks, Turns}
use Rattle.listener.specs.declared.fault.ConnFault.{ConnFault}
use Rattle.listener.specs.declared.fault.ConnFault.TheVariants.{Writer}
use Rattle.listener.specs.declared.requests.Next.{Next}
use Rattle.listener.specs.declared.requests.Next.TheVariants as next
use Rattle.listener.specs.declared.requests.Rest.{Rest}
use Rattle.listener.proofs.BatchLemmas.{puts_again, puts_nothing}
use Rattle.listener.proofs.DeskLemmas.{answers_again, answers_fed, answers_nothing, halts_again, halts_here}
use Rattle.listener.proofs.TurnLemmas.{parks_again, parks_denied, parks_heard}

module _ (allowed : Asked → Type 0) (conn : Conn) where
  -- some of what waited went out
  answers_put : (a b : Desk) (left : List ℕ) (out : Stream) → Answers allowed conn a b → Puts (change b.out out) (change b.waiting left) [] → out.failures ≡ b.out.failures
      → Answers allowed conn a (record b { waiting = left; out = out })
  answers_put a b left out p puts same =
      record {
        exchanges = p.exchanges;
        history = p.history;
        requests = p.requests;
        answered = p.answered;
        spelled = p.spelled;
        puts = subst (λ w. Puts (change a.out out) (change a.waiting left) w) (append-nil (replies_bytes p.exchanges))
            (puts_again _ _ _ _ _ _ _ _ p.puts puts);
        same = same ∙ p.same;
      }

  parks_put : (a b : Desk) (left : List ℕ) (out : Stream) → Parks allowed conn a b → Puts (change b.out out) (change b.waiting left) [] → out.failures ≡ b.out.failures
      → Parks allowed conn a (record b { waiting = left; out = out })
  parks_put a b left out p puts same =
      record {
        before = record p.before { waiting = left; out = out };
        answers = answers_put a p.before left out p.answers (rw (sym p.out, sym p.waiting) puts) (same ∙ ap (λ (stream : Stream). stream.failures) p.out);
        words = p.words;
        outputs = p.outputs;
        is_request = p.is_request;
        parked = p.parked;
        spelled = p.spelled;
        history = p.history;
        waiting = refl;
        out = refl;
      }

  halts_put : (ended : Result Rest ConnFault) (a b : Desk) (left : List ℕ) (out : Stream) → ended ≢ Err Writer → Halts allowed conn ended a b
      → Puts (change b.out out) (change b.waiting left) [] → out.failures ≡ b.out.failures → Halts allowed conn ended a (record b { waiting = left; out = out })
  halts_put ended a b left out other p puts same =
      record {
        exchanges = p.exchanges;
        tail = p.tail;
        left = left;
        history = p.history;
        requests = p.requests;
        answered = p.answered;
        spelled = p.spelled;
        puts = subst (λ w. Puts (change a.out out) (change a.waiting left) w) (append-nil (replies_bytes p.exchanges))
            (puts_again _ _ _ _ _ _ _ _ p.puts (subst (λ w. Puts (change b.out out) (change w left) []) (sym (p.waits other)) puts));
        waits = λ _. refl;
        count = record { failed = λ is. absurd (other is); same = λ _. same ∙ p.count.same other };
        ends = p.ends;
      }

  -- more bytes came while a reply is awaited
  parks_fed : (a b : Desk) (bytes : List ℕ) → Parks allowed conn a b
      → Parks allowed conn (record a { pending = a.pending ++ bytes }) (record b { pending = b.pending ++ bytes })
  parks_fed a b bytes p =
      record {
        before = record p.before { pending = p.before.pending ++ bytes };
        answers = answers_fed allowed conn a p.before bytes _ p.answers refl;
        words = p.words;
        outputs = p.outputs;
        is_request = p.is_request;
        parked = p.parked;
        spelled = ap (λ w. w ++ bytes) p.spelled ∙ append_assoc (request_spelling p.words) b.pending bytes;
        history = p.history;
        waiting = p.waiting;
        out = p.out;
      }

  -- a writer that has not failed ended nothing
  not_by_writer : (ended : Result Rest ConnFault) (a b : Desk) → a.out.failures ≡ 0 → b.out.failures ≡ 0 → Halts allowed conn ended a b → ended ≢ Err Writer
  not_by_writer ended a b none still halts is = absurd (let risen = (halts.count.failed is).risen in omega (arith, risen, none, still))

  -- what a turn was, behind what was held before
  parts_put : (ended : Result Rest ConnFault) (start : Desk) (course : Course) (sent waits : List ℕ) → Parts allowed conn ended start course
      → Puts (change (holding course.sent) (holding sent)) (change course.waits waits) [] → Parts allowed conn ended start (record course { sent = sent; waits = waits })
  parts_put ended start course sent waits p puts =
      record { before = p.before; halts = p.halts; closes = p.closes; puts = puts_again _ _ _ _ _ _ _ _ p.puts puts }

  held_read : (stage : Stage) (asked : List Asked) (old : Course) (bytes : List ℕ) → IsReading stage → IsHeld stage allowed conn asked old
      → IsHeld stage allowed conn asked (record old { read = old.read ++ bytes; pending = old.pending ++ bytes })
  held_read Answering asked old bytes is held = answers_fed allowed conn _ _ bytes _ held refl
  held_read Awaiting asked old bytes is held = parks_fed _ _ bytes held
  held_read (Over ended) asked old bytes is held = absurd is
  held_read (Parting ended) asked old bytes is held = absurd is

  held_written : (stage : Stage) (asked : List Asked) (old : Course) (sent waits : List ℕ) → Puts (change (holding old.sent) (holding sent)) (change old.waits waits) []
      → IsHeld stage allowed conn asked old → IsHeld stage allowed conn asked (record old { sent = sent; waits = waits })
  held_written Answering asked old sent waits puts held = answers_put _ _ waits (holding sent) held puts refl
  held_written Awaiting asked old sent waits puts held = parks_put _ _ waits (holding sent) held puts refl
  held_written (Over ended) asked old sent waits puts held =
      halts_put ended _ _ waits (holding sent) (not_by_writer ended _ _ refl refl held) held puts refl
  held_written (Parting ended) asked old sent waits puts held = parts_put ended _ old sent waits held puts

  held_answered : (next : Next) (asked : List Asked) (old : Course) (more : List Asked) (pending waits : List ℕ)
      → Turns allowed conn next (desk_in old) (desk more pending waits (holding old.sent)) → IsHeld Answering allowed conn asked old
      → IsHeld (stage_behind next) allowed conn asked (record old { stage = stage_behind next; asked = more; pending = pending; waits = waits })
  held_answered next.Read asked old more pending waits turns held = answers_again allowed conn _ _ _ held turns
  held_answered next.BadByte asked old more pending waits turns held = answers_again allowed conn _ _ _ held turns
  held_answered next.Write asked old more pending waits turns held = answers_again allowed conn _ _ _ held turns
  held_answered next.Hear asked old more pending waits turns held = parks_again allowed conn _ _ _ held turns
  held_answered next.Answer asked old more pending waits turns held = answers_again allowed conn _ _ _ held turns

  at_stage : (asked : List Asked) (stage : Stage) (course : Course) → course.stage ≡ stage → IsHeld course.stage allowed conn asked course
      → IsHeld stage allowed conn asked course
  at_stage asked stage course is held = subst (λ (s : Stage). IsHeld s allowed conn asked course) is held

  held_behind : (asked : List Asked) (old new : Course) → IsHeld old.stage allowed conn asked old → Turn allowed conn old new → IsHeld new.stage allowed conn asked new
  held_behind asked old new held (reads bytes is then) = rw then (held_read old.stage asked old bytes is held)
  held_behind asked old new held (answers next more pending waits is turns then) =
      rw then (held_answered next asked old more pending waits turns (at_stage asked Answering old is held))
  held_behind asked old new held (fails fault more pending waits is halts then) =
      rw then (halts_again allowed conn (Err fault) _ _ _ (at_stage asked Answering old is held) halts)
  held_behind asked old new held (hears more waits is heard then) =
      rw then (parks_heard allowed conn _ _ _ (at_stage asked Awaiting old is held) heard refl refl)
  held_behind asked old new held (hears_nothing more is denied then) =
      rw then (parks_denied allowed conn _ _ more old.pending (at_stage asked Awaiting old is held) denied)
  held_behind asked old new held (ends ended is other by then) =
      rw then (halts_here allowed conn ended _ _ old.pending (at_stage asked Answering old is held) other by)
  held_behind asked old new held (writes sent waits puts then) = rw then (held_written old.stage asked old sent waits puts held)
  held_behind asked old new held (closes ended more is closed then) =
      rw then
      (record {
        before = desk_in old;
        halts = at_stage asked (Over ended) old is held;
        closes = closed;
        puts = puts_nothing (holding old.sent) (old.waits ++ line_of ended);
      })

  held_through : (asked : List Asked) (courses : List Course) (old new : Course) → IsHeld old.stage allowed conn asked old → AreTurns allowed conn old courses new
      → IsHeld new.stage allowed conn asked new
  held_through asked [] old new held is = rw is held
  held_through asked (next ∷ courses) old new held turns = held_through asked courses next new (held_behind asked old next held turns.0) turns.1

pub turns_make_a_conversation : (allowed : Asked → Type 0) → TurnsMakeAConversation allowed
turns_make_a_conversation allowed conn asked courses course turns =
    held_through allowed conn asked courses (opened asked) course (answers_nothing allowed conn _) turns
