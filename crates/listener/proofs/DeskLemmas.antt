-- Requests that are answered one after another.
use Rattle.std.proofs.Common.{◌≡◌, ◌≢◌, ℕ, List, Option, [], ◌∷◌, ◌++◌, Result, Ok, Err, append_assoc, append-nil, refl, sym, ◌∙◌, ap, subst, map, inr, length, length-append, ◌+◌, ◌<◌, ◌≤◌, replicate, arith}
use Rattle.std.proofs.lemmas.List.{map-append}
use Rattle.std.proofs.lemmas.List.Elements.{All-cons, All-nil}
use Rattle.std.proofs.lemmas.Grind.{flat_map-append}
use Rattle.std.specs.Prelude.{Some, None}
use Rattle.std.specs.List.{flat_map}
use Rattle.std.specs.Io.KnownBytes.{Consumes}
use Rattle.std.proofs.KnownBytes.{Consumes-trans}
use Rattle.resp_values.specs.Reply.{reply_spelling}
use Rattle.resp_values.specs.declared.words.TheConstants.{MOST_WORD_BYTES}
use Rattle.resp_values.specs.Request.{IsRequest, request_spelling}
use Rattle.resp2.specs.Stream.{IsUnfinished, stream_spelling, with_words}
use Rattle.resp2.specs.Reader.{Breaks, HandsOut, PassesOver, ReaderState, empty_requests}
use Rattle.resp_header.specs.declared.fault.Fault.{Fault}
use Rattle.resp_values.specs.declared.reply.Reply.{Reply}
use Rattle.resp2.proofs.Callers.{none_with_words, stream_spelling-append, with_words-append}
use Rattle.node_gate.specs.Asks.{Asked}
use Rattle.node_gate.specs.Asks.Asked.{asking, waiting}
use Rattle.connections.specs.declared.conn.Conn.{Conn}
use Rattle.node_step.specs.declared.event.Event.TheVariants.{Request}
use Rattle.step_fault.specs.declared.fault.StepFault.{StepFault}
use Rattle.step_fault.specs.declared.fault.StepFault.TheVariants as refused
use Rattle.node_step.specs.declared.outputs.Outputs.{Outputs}
use Rattle.node_step.specs.declared.response.Answer.{Answer}
use Rattle.node_step.specs.declared.response.Response.{Response}
use Rattle.node_step.specs.declared.response.Response.TheVariants.{Nothing, Opened, Parked, Replied}
use Rattle.listener.specs.declared.fault.ConnFault.{ConnFault}
use Rattle.listener.specs.declared.fault.ConnFault.TheVariants.{Reader, Writer, Memory, Exhausted, Unanswered, Endless}
use Rattle.listener.specs.declared.requests.Rest.{Rest}
use Rattle.listener.specs.Streams.{Adds, Change, Fails, FailsLast, Sends, Stream, change}
use Rattle.listener.specs.Conversation.{ComesBy, EndsBy, Exchange, HasNoReply, IsSpoilt, ReadsTo, Tail, asked_for, awaited, AreAnswered, fault_of, replies_bytes}
use Rattle.listener.specs.Progress.{Answers, Desk, Halts, IsOfAnswering, Puts, Stops, WriterCount}
use Rattle.listener.proofs.HistoryLemmas.{adds_again, adds_nothing}
use Rattle.listener.proofs.BatchLemmas.{breaks_behind, puts_again, puts_nothing, puts_waiting}

-- one request after another, and then the rest
spelled_again : (a b c : List ℕ) (xs ys : List (List (List ℕ))) → a ≡ stream_spelling xs ++ b → b ≡ stream_spelling ys ++ c → a ≡ stream_spelling (xs ++ ys) ++ c
spelled_again a b c xs ys p q =
    p ∙ ap (λ w. stream_spelling xs ++ w) q ∙ sym (append_assoc (stream_spelling xs) (stream_spelling ys) c)
    ∙ ap (λ w. w ++ c) (sym (stream_spelling-append xs ys))

-- answered are first these and then those
answered_again : (xs ys : List (List (List ℕ))) (ps qs : List Exchange) → AreAnswered xs ps → AreAnswered ys qs → AreAnswered (xs ++ ys) (ps ++ qs)
answered_again xs ys ps qs p q =
    with_words-append xs ys ∙ ap (λ w. w ++ with_words ys) p ∙ ap (λ w. map (λ exchange. exchange.words) ps ++ w) q
    ∙ sym (map-append (λ (exchange : Exchange). exchange.words) ps qs)

-- a request that is answered has words
one_answered : (words : List (List ℕ)) → IsRequest words → with_words (words ∷ []) ≡ words ∷ []
one_answered [] is_request = absurd (let some = is_request.some in omega arith)
one_answered (word ∷ words) is_request = refl

replies_bytes-append : (xs ys : List Exchange) → replies_bytes (xs ++ ys) ≡ replies_bytes xs ++ replies_bytes ys
replies_bytes-append xs ys = flat_map-append (λ (exchange : Exchange). reply_spelling exchange.reply) xs ys

-- where the writer didn't fail, its count is what it was
pub writes_on : (ended : Result Rest ConnFault) (out : Stream) → ended ≢ Err Writer → WriterCount ended out out
writes_on ended out other = record { failed = λ e. absurd (other e); same = λ _. refl }

-- and where it did, it has risen
writes_no_more : (old new : Stream) → FailsLast old new → WriterCount (Err Writer) old new
writes_no_more old new breaks = record { failed = λ _. breaks; same = λ other. absurd (other refl) }

-- none failed before
counts_behind : (ended : Result Rest ConnFault) (a b c : Stream) → b.failures ≡ a.failures → WriterCount ended b c → WriterCount ended a c
counts_behind ended a b c same count =
    record { failed = λ is. breaks_behind a b c same (count.failed is); same = λ other. count.same other ∙ same }

module _ (allowed : Asked → Type 0) (conn : Conn) where
  -- no request was answered yet
  pub answers_nothing : (a : Desk) → Answers allowed conn a a
  answers_nothing a =
      record {
        exchanges = [];
        history = adds_nothing allowed a.asked;
        requests = [];
        answered = refl;
        spelled = refl;
        puts = puts_nothing a.out a.waiting;
        same = refl;
      }

  -- first these and then those requests were answered
  pub answers_again : (a b c : Desk) → Answers allowed conn a b → Answers allowed conn b c → Answers allowed conn a c
  answers_again a b c p q =
      record {
        exchanges = p.exchanges ++ q.exchanges;
        history = rw (flat_map-append (asked_for conn) p.exchanges q.exchanges) (adds_again allowed _ _ _ _ _ p.history q.history);
        requests = p.requests ++ q.requests;
        answered = answered_again p.requests q.requests p.exchanges q.exchanges p.answered q.answered;
        spelled = spelled_again _ _ _ p.requests q.requests p.spelled q.spelled;
        puts = rw (replies_bytes-append p.exchanges q.exchanges) (puts_again _ _ _ _ _ _ _ _ p.puts q.puts);
        same = q.same ∙ p.same;
      }

  -- requests without words were passed over
  pub answers_over_bytes : (a b : Desk) (count : ℕ) (pending : List ℕ) → Answers allowed conn a b → b.pending ≡ empty_requests count ++ pending
      → Answers allowed conn a (record b { pending = pending })
  answers_over_bytes a b count pending p over =
      record {
        exchanges = p.exchanges;
        history = p.history;
        requests = p.requests ++ replicate count [];
        answered = with_words-append p.requests (replicate count []) ∙ ap (λ w. with_words p.requests ++ w) (none_with_words count)
            ∙ append-nil (with_words p.requests) ∙ p.answered;
        spelled = spelled_again _ _ _ p.requests (replicate count []) p.spelled over;
        puts = p.puts;
        same = p.same;
      }

  pub answers_over : (a b : Desk) (old new : ReaderState) → Answers allowed conn a b → old.pending ≡ b.pending → PassesOver old new → Answers allowed conn a (record b { pending = new.pending })
  answers_over a b old new p same over = answers_over_bytes a b over.count new.pending p (sym same ∙ over.consumed)

  -- so they were before a request that is handed out
  pub answers_before : (a b : Desk) (old new : ReaderState) (words : List (List ℕ)) → Answers allowed conn a b → old.pending ≡ b.pending → HandsOut old words new
      → Answers allowed conn a (record b { pending = request_spelling words ++ new.pending })
  answers_before a b old new words p same hands =
      answers_over_bytes a b hands.count (request_spelling words ++ new.pending) p
      (sym same ∙ hands.consumed ∙ append_assoc (empty_requests hands.count) (request_spelling words) new.pending)

  -- more bytes came, and the reader has them
  pub answers_fed : (a b : Desk) (bytes fed : List ℕ) → Answers allowed conn a b → fed ≡ b.pending ++ bytes
      → Answers allowed conn (record a { pending = a.pending ++ bytes }) (record b { pending = fed })
  answers_fed a b bytes fed p same =
      record {
        exchanges = p.exchanges;
        history = p.history;
        requests = p.requests;
        answered = p.answered;
        spelled = ap (λ w. w ++ bytes) p.spelled ∙ append_assoc (stream_spelling p.requests) b.pending bytes
            ∙ ap (λ w. stream_spelling p.requests ++ w) (sym same);
        puts = p.puts;
        same = p.same;
      }

  -- what waited went out
  pub answers_flush : (a b : Desk) (left : List ℕ) (out : Stream) → Answers allowed conn a b → Sends (change b.out out) b.waiting → left ≡ []
      → Answers allowed conn a (record b { waiting = left; out = out })
  answers_flush a b left out p sent empty =
      record {
        exchanges = p.exchanges;
        history = p.history;
        requests = p.requests;
        answered = p.answered;
        spelled = p.spelled;
        puts = subst (λ w. Puts (change a.out out) (change a.waiting left) w) (append-nil (replies_bytes p.exchanges))
            (puts_again _ _ _ _ _ _ _ _ p.puts (puts_waiting _ _ _ _ sent empty));
        same = sent.same ∙ p.same;
      }

  -- requests were answered, and then this ended the conversation
  pub halts_again : (ended : Result Rest ConnFault) (a b c : Desk) → Answers allowed conn a b → Halts allowed conn ended b c → Halts allowed conn ended a c
  halts_again ended a b c p q =
      record {
        exchanges = p.exchanges ++ q.exchanges;
        tail = q.tail;
        left = q.left;
        history = rw (flat_map-append (asked_for conn) p.exchanges q.exchanges, append_assoc) (adds_again allowed _ _ _ _ _ p.history q.history);
        requests = p.requests ++ q.requests;
        answered = answered_again p.requests q.requests p.exchanges q.exchanges p.answered q.answered;
        spelled = spelled_again _ _ _ p.requests q.requests p.spelled q.spelled;
        puts = rw (replies_bytes-append p.exchanges q.exchanges) (puts_again _ _ _ _ _ _ _ _ p.puts q.puts);
        waits = q.waits;
        count = counts_behind ended a.out b.out c.out p.same q.count;
        ends = q.ends;
      }

  -- this ended it before a request was answered
  pub halts_now : (ended : Result Rest ConnFault) (asked : List Asked) (tail : Tail) (a : Desk) (pending : List ℕ) → a.pending ≡ tail.rest
      → Adds allowed (change a.asked asked) tail.asked → ended ≢ Err Writer → EndsBy conn ended tail
      → Halts allowed conn ended a (record a { asked = asked; pending = pending })
  halts_now ended asked tail a pending rest history other ends =
      record {
        exchanges = [];
        tail = tail;
        left = a.waiting;
        history = history;
        requests = [];
        answered = refl;
        spelled = rest;
        puts = puts_nothing a.out a.waiting;
        waits = λ _. refl;
        count = writes_on ended a.out other;
        ends = ends;
      }

  -- what waited went out in part
  pub halts_unsent : (a : Desk) (left : List ℕ) (out : Stream) (pending : List ℕ) → Fails (change a.out out) a.waiting
      → Halts allowed conn (Err Writer) a (record a { pending = pending; waiting = left; out = out })
  halts_unsent a left out pending fails =
      record {
        exchanges = [];
        tail = record { asked = []; rest = a.pending };
        left = fails.begun.rest;
        history = adds_nothing allowed a.asked;
        requests = [];
        answered = refl;
        spelled = refl;
        puts = record { sent = fails.begun.written; appends = fails.begun.appends; all = fails.begun.split ∙ sym (append-nil a.waiting) };
        waits = λ other. absurd (other refl);
        count = writes_no_more _ _ fails.breaks;
        ends = refl;
      }

  -- what is asked for one request
  one_asked : (exchange : Exchange) (old new : List Asked) → Adds allowed (change old new) (asked_for conn exchange)
      → Adds allowed (change old new) (flat_map (asked_for conn) (exchange ∷ []))
  one_asked exchange old new history = subst (λ (asks : List Asked). Adds allowed (change old new) asks) (sym (append-nil (asked_for conn exchange))) history

  -- a request was asked and answered
  pub answers_one : (words : List (List ℕ)) (outputs : Outputs) (reply : Reply) (a b : Desk) → IsRequest words → ComesBy outputs.response reply
      → a.pending ≡ request_spelling words ++ b.pending
      → Adds allowed (change a.asked b.asked) (asking (Request conn words) (Ok outputs) ∷ awaited conn outputs.response (Some reply))
      → Puts (change a.out b.out) (change a.waiting b.waiting) (reply_spelling reply) → b.out.failures ≡ a.out.failures → Answers allowed conn a b
  answers_one words outputs reply a b is_request replied spelled history puts same =
      let exchange : Exchange = record { words = words; outputs = outputs; reply = reply; is_request = is_request; replied = replied } in
      record {
        exchanges = exchange ∷ [];
        history = one_asked exchange _ _ history;
        requests = words ∷ [];
        answered = one_answered words is_request;
        spelled = spelled ∙ ap (λ w. w ++ b.pending) (sym (append-nil (request_spelling words)));
        puts = rw append-nil puts;
        same = same;
      }

  -- a request was asked, and its reply went out in part
  pub halts_within : (words : List (List ℕ)) (outputs : Outputs) (reply : Reply) (a b : Desk) (behind : List ℕ) → IsRequest words → ComesBy outputs.response reply
      → a.pending ≡ request_spelling words ++ behind
      → Adds allowed (change a.asked b.asked) (asking (Request conn words) (Ok outputs) ∷ awaited conn outputs.response (Some reply))
      → Fails (change a.out b.out) (a.waiting ++ reply_spelling reply) → Halts allowed conn (Err Writer) a b
  halts_within words outputs reply a b behind is_request replied spelled history fails =
      let exchange : Exchange = record { words = words; outputs = outputs; reply = reply; is_request = is_request; replied = replied } in
      record {
        exchanges = exchange ∷ [];
        tail = record { asked = []; rest = behind };
        left = fails.begun.rest;
        history = subst (λ (asks : List Asked). Adds allowed (change a.asked b.asked) asks)
            (sym (append-nil (flat_map (asked_for conn) (exchange ∷ [])) ∙ append-nil (asked_for conn exchange))) history;
        requests = words ∷ [];
        answered = one_answered words is_request;
        spelled = spelled ∙ ap (λ w. w ++ behind) (sym (append-nil (request_spelling words)));
        puts = record {
          sent = fails.begun.written;
          appends = fails.begun.appends;
          all = fails.begun.split ∙ ap (λ w. a.waiting ++ w) (sym (append-nil (reply_spelling reply)));
        };
        waits = λ other. absurd (other refl);
        count = writes_no_more _ _ fails.breaks;
        ends = refl;
      }

  -- a reply was waited for
  pub adds_wait : (old new : List Asked) (reply : Option Reply) → new ≡ old ++ waiting conn reply ∷ [] → allowed (waiting conn reply)
      → Adds allowed (change old new) (waiting conn reply ∷ [])
  adds_wait old new reply grown given = record { grown = grown; each = All-cons allowed (waiting conn reply) [] given (All-nil allowed) }

  -- behind the step for a request
  waits_too : (old between new : List Asked) (words : List (List ℕ)) (outputs : Outputs) (reply : Option Reply) → outputs.response ≡ Parked
      → Adds allowed (change old between) (asking (Request conn words) (Ok outputs) ∷ []) → Adds allowed (change between new) (waiting conn reply ∷ [])
      → Adds allowed (change old new) (asking (Request conn words) (Ok outputs) ∷ awaited conn outputs.response reply)
  waits_too old between new words outputs reply parked asked waited =
      subst (λ (response : Response). Adds allowed (change old new) (asking (Request conn words) (Ok outputs) ∷ awaited conn response reply)) (sym parked)
      (adds_again allowed old between new _ _ asked waited)

  not_waited : (old new : List Asked) (words : List (List ℕ)) (outputs : Outputs) (answer : Answer) → outputs.response ≡ Replied answer
      → Adds allowed (change old new) (asking (Request conn words) (Ok outputs) ∷ [])
      → Adds allowed (change old new) (asking (Request conn words) (Ok outputs) ∷ awaited conn outputs.response (Some answer.reply))
  not_waited old new words outputs answer replied asked =
      subst (λ (response : Response). Adds allowed (change old new) (asking (Request conn words) (Ok outputs) ∷ awaited conn response (Some answer.reply))) (sym replied) asked

  comes_at_once : (outputs : Outputs) (answer : Answer) → outputs.response ≡ Replied answer → ComesBy outputs.response answer.reply
  comes_at_once outputs answer replied = subst (λ (response : Response). ComesBy response answer.reply) (sym replied) refl

  comes_later : (outputs : Outputs) (reply : Reply) → outputs.response ≡ Parked → ComesBy outputs.response reply
  comes_later outputs reply parked = subst (λ (response : Response). ComesBy response reply) (sym parked) tt

  -- the step gave the reply
  pub answers_at_once : (words : List (List ℕ)) (outputs : Outputs) (answer : Answer) (a b : Desk) → IsRequest words → outputs.response ≡ Replied answer
      → a.pending ≡ request_spelling words ++ b.pending → Adds allowed (change a.asked b.asked) (asking (Request conn words) (Ok outputs) ∷ [])
      → Puts (change a.out b.out) (change a.waiting b.waiting) (reply_spelling answer.reply) → b.out.failures ≡ a.out.failures → Answers allowed conn a b
  answers_at_once words outputs answer a b is_request replied spelled asked puts same =
      answers_one words outputs answer.reply a b is_request (comes_at_once outputs answer replied) spelled (not_waited _ _ words outputs answer replied asked) puts same

  pub halts_at_once : (words : List (List ℕ)) (outputs : Outputs) (answer : Answer) (a b : Desk) (behind : List ℕ) → IsRequest words
      → outputs.response ≡ Replied answer → a.pending ≡ request_spelling words ++ behind
      → Adds allowed (change a.asked b.asked) (asking (Request conn words) (Ok outputs) ∷ [])
      → Fails (change a.out b.out) (a.waiting ++ reply_spelling answer.reply) → Halts allowed conn (Err Writer) a b
  halts_at_once words outputs answer a b behind is_request replied spelled asked fails =
      halts_within words outputs answer.reply a b behind is_request (comes_at_once outputs answer replied) spelled (not_waited _ _ words outputs answer replied asked) fails

  -- the reply was waited for
  pub answers_later : (words : List (List ℕ)) (outputs : Outputs) (reply : Reply) (a b : Desk) (between : List Asked) → IsRequest words → outputs.response ≡ Parked
      → a.pending ≡ request_spelling words ++ b.pending → Adds allowed (change a.asked between) (asking (Request conn words) (Ok outputs) ∷ [])
      → Adds allowed (change between b.asked) (waiting conn (Some reply) ∷ [])
      → Puts (change a.out b.out) (change a.waiting b.waiting) (reply_spelling reply) → b.out.failures ≡ a.out.failures → Answers allowed conn a b
  answers_later words outputs reply a b between is_request parked spelled asked waited puts same =
      answers_one words outputs reply a b is_request (comes_later outputs reply parked) spelled
      (waits_too _ between _ words outputs (Some reply) parked asked waited) puts same

  pub halts_later : (words : List (List ℕ)) (outputs : Outputs) (reply : Reply) (a b : Desk) (between : List Asked) (behind : List ℕ) → IsRequest words
      → outputs.response ≡ Parked → a.pending ≡ request_spelling words ++ behind
      → Adds allowed (change a.asked between) (asking (Request conn words) (Ok outputs) ∷ []) → Adds allowed (change between b.asked) (waiting conn (Some reply) ∷ [])
      → Fails (change a.out b.out) (a.waiting ++ reply_spelling reply) → Halts allowed conn (Err Writer) a b
  halts_later words outputs reply a b between behind is_request parked spelled asked waited fails =
      halts_within words outputs reply a b behind is_request (comes_later outputs reply parked) spelled
      (waits_too _ between _ words outputs (Some reply) parked asked waited) fails

  -- a request was refused
  pub halts_refused : (words : List (List ℕ)) (why : StepFault) (asked : List Asked) (a : Desk) (pending behind : List ℕ) → IsRequest words
      → a.pending ≡ request_spelling words ++ behind → Adds allowed (change a.asked asked) (asking (Request conn words) (Err why) ∷ [])
      → Halts allowed conn (Err (fault_of why)) a (record a { asked = asked; pending = pending })
  halts_refused words refused.Memory asked a pending behind is_request spelled history =
      halts_now _ asked (record { asked = _; rest = a.pending }) a pending refl history (λ e. cc)
      (inr (record { words = words; behind = behind; is_request = is_request; asked = refl; in_front = spelled }))
  halts_refused words refused.Exhausted asked a pending behind is_request spelled history =
      halts_now _ asked (record { asked = _; rest = a.pending }) a pending refl history (λ e. cc)
      (record { words = words; behind = behind; is_request = is_request; asked = refl; in_front = spelled })

  -- the node gave no reply to a request
  halts_silent : (words : List (List ℕ)) (outputs : Outputs) (asked : List Asked) (a : Desk) (pending behind : List ℕ) → IsRequest words → HasNoReply outputs.response
      → a.pending ≡ request_spelling words ++ behind
      → Adds allowed (change a.asked asked) (asking (Request conn words) (Ok outputs) ∷ awaited conn outputs.response None)
      → Halts allowed conn (Err Unanswered) a (record a { asked = asked; pending = pending })
  halts_silent words outputs asked a pending behind is_request no_reply spelled history =
      halts_now _ asked (record { asked = _; rest = a.pending }) a pending refl history (λ e. cc)
      (record {
        outputs = outputs;
        asks = record { words = words; behind = behind; is_request = is_request; asked = refl; in_front = spelled };
        no_reply = no_reply;
      })

  -- none came where one was waited for
  pub halts_waited : (words : List (List ℕ)) (outputs : Outputs) (between asked : List Asked) (a : Desk) (pending behind : List ℕ) → IsRequest words
      → outputs.response ≡ Parked → a.pending ≡ request_spelling words ++ behind
      → Adds allowed (change a.asked between) (asking (Request conn words) (Ok outputs) ∷ []) → Adds allowed (change between asked) (waiting conn None ∷ [])
      → Halts allowed conn (Err Unanswered) a (record a { asked = asked; pending = pending })
  halts_waited words outputs between asked a pending behind is_request parked spelled first waited =
      halts_silent words outputs asked a pending behind is_request (λ answer is. let e : Parked ≡ Replied answer = sym parked ∙ is in cc) spelled
      (waits_too _ between _ words outputs None parked first waited)

  none_awaited : (response : Response) (reply : Option Reply) → response ≢ Parked → [] ≡ awaited conn response reply
  none_awaited (Opened opened) reply other = refl
  none_awaited (Replied answer) reply other = refl
  none_awaited Parked reply other = absurd (other refl)
  none_awaited Nothing reply other = refl

  -- none came, and none was waited for
  pub halts_unanswered : (words : List (List ℕ)) (outputs : Outputs) (asked : List Asked) (a : Desk) (pending behind : List ℕ) → IsRequest words
      → HasNoReply outputs.response → outputs.response ≢ Parked → a.pending ≡ request_spelling words ++ behind
      → Adds allowed (change a.asked asked) (asking (Request conn words) (Ok outputs) ∷ [])
      → Halts allowed conn (Err Unanswered) a (record a { asked = asked; pending = pending })
  halts_unanswered words outputs asked a pending behind is_request no_reply other spelled history =
      halts_silent words outputs asked a pending behind is_request no_reply spelled
      (subst (λ (waits : List Asked). Adds allowed (change a.asked asked) (asking (Request conn words) (Ok outputs) ∷ waits))
      (none_awaited outputs.response None other) history)

  -- requests were answered, and nothing more was asked before this ended the conversation
  pub halts_here : (ended : Result Rest ConnFault) (a b : Desk) (pending : List ℕ) → Answers allowed conn a b → ended ≢ Err Writer
      → EndsBy conn ended (record { asked = []; rest = b.pending }) → Halts allowed conn ended a (record b { pending = pending })
  halts_here ended a b pending answers other ends =
      halts_again ended a b _ answers (halts_now ended b.asked (record { asked = []; rest = b.pending }) b pending refl (adds_nothing allowed b.asked) other ends)

  -- more bytes came, the reader has them, and then the conversation ended
  pub stops_fed : (ended : Result Rest ConnFault) (i k : Stream) (j : Option (List ℕ)) (old b c : Desk) (came bytes fed : List ℕ) → Consumes i.bytes j came → Consumes j k.bytes bytes
      → Answers allowed conn (record old { pending = came }) b → fed ≡ b.pending ++ bytes → Halts allowed conn ended (record b { pending = fed }) c
      → ReadsTo ended (change i k) (came ++ bytes) → Stops allowed conn ended (change i k) old c
  stops_fed ended i k j old b c came bytes fed before now answers same halts reads =
      record {
        came = came ++ bytes;
        read = Consumes-trans _ _ _ came bytes before now;
        halts = halts_again ended _ _ c (answers_fed (record old { pending = came }) b bytes fed answers same) halts;
        reads = reads;
      }

-- a bad byte is in what the reader is left with
pub spoilt : (fault : Fault) (old new : ReaderState) → Breaks fault old new → IsSpoilt new.pending
spoilt fault old new breaks = record { fault = fault; bad = breaks.first; handed_out = breaks.none }

-- a fault of answering is not of reading
pub reads_on : (fault : ConnFault) (input : Change Stream) (bytes : List ℕ) → IsOfAnswering fault → input.new.failures ≡ input.old.failures → ReadsTo (Err fault) input bytes
reads_on Reader input bytes other same = absurd other
reads_on Writer input bytes other same = same
reads_on Memory input bytes other same = same
reads_on Exhausted input bytes other same = same
reads_on Unanswered input bytes other same = same
reads_on Endless input bytes other same = absurd other

pub refusals_are_of_answering : (why : StepFault) → IsOfAnswering (fault_of why)
refusals_are_of_answering refused.Memory = tt
refusals_are_of_answering refused.Exhausted = tt

-- of nothing any request may come
pub nothing_is_unfinished : (pending : List ℕ) → pending ≡ [] → IsUnfinished pending
nothing_is_unfinished pending none =
    record {
      words = [];
      rest = request_spelling [];
      each = record { few = omega arith; short = All-nil (λ (word : List ℕ). length word ≤ MOST_WORD_BYTES) };
      so_far = omega (arith, ap length none);
      wanted = omega arith;
      spelled = ap (λ w. w ++ request_spelling []) none;
    }

-- at least one byte more
pub more_came : (came bytes : List ℕ) (n : ℕ) → n ≤ length came → 0 < length bytes → n + 1 ≤ length (came ++ bytes)
more_came came bytes n long some = omega (arith, length-append came bytes)
