-- A conversation between two turns.
use Rattle.std.proofs.Common.{◌≡◌, ◌≢◌, ◌<◌, ◌≤◌, ◌+◌, ℕ, List, Option, [], ◌∷◌, ◌++◌, Ok, Err, arith, inl, refl, sym, ◌∙◌, ap, length, length-append}
use Rattle.std.specs.Prelude.{Some, None, IfNone, IfSome}
use Rattle.std.proofs.KnownBytes.{Appends-nil, Consumes-kept}
use Rattle.std.specs.Io.KnownBytes.{Consumes}
use Rattle.resp_values.specs.Reply.{reply_spelling}
use Rattle.resp_values.specs.Request.{IsRequest, request_spelling}
use Rattle.resp2.specs.Stream.{IsUnfinished, stream_spelling}
use Rattle.resp2.specs.Reader.{FailsBy, HandsOut, PassesOver, ReaderState, empty_requests}
use Rattle.resp_header.specs.declared.fault.Fault.{Fault}
use Rattle.resp_header.specs.declared.fault.Fault.TheVariants.{Protocol, TooLong, Memory}
use Rattle.node_gate.specs.Asks.{Asked}
use Rattle.node_gate.specs.Asks.Asked.{asking, waiting}
use Rattle.connections.specs.declared.conn.Conn.{Conn}
use Rattle.node_step.specs.declared.event.Event.TheVariants.{Request}
use Rattle.node_step.specs.declared.outputs.Outputs.{Outputs}
use Rattle.node_step.specs.declared.response.Response.TheVariants.{Parked}
use Rattle.listener.specs.declared.fault.ConnFault.{ConnFault}
use Rattle.listener.specs.declared.fault.ConnFault.TheVariants.{Unanswered}
use Rattle.listener.specs.declared.fault.ConnFault.TheVariants as conn_fault
use Rattle.listener.specs.Streams.{Adds, Stream, change}
use Rattle.listener.specs.Progress.{Answers, Desk, Halts, Puts, Stops}
use Rattle.listener.specs.declared.outgoing.Held.TheVariants as held
use Rattle.listener.specs.declared.outgoing.Outgoing.{Outgoing}
use Rattle.listener.specs.Turns.{HasRoom, Hears, Parks, ReadsNot}
use Rattle.listener.specs.Turns.ReadsNot.{finds_no_memory, reader_fails}
use Rattle.listener.proofs.DeskLemmas.{answers_again, answers_later, answers_nothing, halts_again, halts_here, halts_waited, stops_fed}

-- bytes were put behind those that wait, and nothing was sent
pub puts_behind : (out : Stream) (x y p : List ℕ) → y ≡ x ++ p → Puts (change out out) (change x y) p
puts_behind out x y p behind = record { sent = []; appends = Appends-nil out.bytes; all = behind }

-- whatever fault a reader answers, it passed over requests without words, or did nothing
pub passes_over : (fault : Fault) (known : Option Fault) (old new : ReaderState) → IfNone known (FailsBy fault old new)
    → IfSome known (λ kept. (fault ≡ kept) × (new ≡ old)) → PassesOver old new
passes_over Memory None old new fails again = fails.0
passes_over Protocol None old new fails again = fails.passes_over
passes_over TooLong None old new fails again = fails.passes_over
passes_over fault (Some kept) old new fails again = record { count = 0; consumed = ap (λ (state : ReaderState). state.pending) (sym again.1) }

-- want of memory leaves a reader as sound as it was
pub stays_sound : (known : Option Fault) (old new : ReaderState) → known ≡ None → old.fault ≡ known → IfNone known (FailsBy Memory old new) → new.fault ≡ None
stays_sound None old new none is fails = fails.1 ∙ is
stays_sound (Some kept) old new none is fails = let e : Some kept ≡ None = none in cc

-- a request was asked that is parked, and nothing is to be sent of it yet
pub parks_now : (allowed : Asked → Type 0) (conn : Conn) (words : List (List ℕ)) (outputs : Outputs) (a b : Desk) → IsRequest words → outputs.response ≡ Parked
    → a.pending ≡ request_spelling words ++ b.pending → Adds allowed (change a.asked b.asked) (asking (Request conn words) (Ok outputs) ∷ [])
    → b.waiting ≡ a.waiting → b.out ≡ a.out → Parks allowed conn a b
parks_now allowed conn words outputs a b is_request parked spelled history waits out =
    record {
      before = a;
      answers = answers_nothing allowed conn a;
      words = words;
      outputs = outputs;
      is_request = is_request;
      parked = parked;
      spelled = spelled;
      history = history;
      waiting = waits;
      out = out;
    }

-- requests were answered before that
pub parks_again : (allowed : Asked → Type 0) (conn : Conn) (a b c : Desk) → Answers allowed conn a b → Parks allowed conn b c → Parks allowed conn a c
parks_again allowed conn a b c answers parks =
    record {
      before = parks.before;
      answers = answers_again allowed conn a b parks.before answers parks.answers;
      words = parks.words;
      outputs = parks.outputs;
      is_request = parks.is_request;
      parked = parks.parked;
      spelled = parks.spelled;
      history = parks.history;
      waiting = parks.waiting;
      out = parks.out;
    }

-- the reply came, and stands behind those that wait
pub parks_heard : (allowed : Asked → Type 0) (conn : Conn) (a b c : Desk) → Parks allowed conn a b → Hears allowed conn (change b.asked c.asked) (change b.waiting c.waiting)
    → c.pending ≡ b.pending → c.out ≡ b.out → Answers allowed conn a c
parks_heard allowed conn a b c parks hears pending out =
    answers_again allowed conn a parks.before c parks.answers
    (answers_later allowed conn parks.words parks.outputs hears.reply parks.before c b.asked parks.is_request parks.parked
    (parks.spelled ∙ ap (λ w. request_spelling parks.words ++ w) (sym pending)) parks.history hears.history
    (rw (out ∙ parks.out) (puts_behind parks.before.out _ _ _ (hears.put ∙ ap (λ w. w ++ reply_spelling hears.reply) parks.waiting)))
    (ap (λ (stream : Stream). stream.failures) (out ∙ parks.out)))

-- none came
pub parks_denied : (allowed : Asked → Type 0) (conn : Conn) (a b : Desk) (asked : List Asked) (pending : List ℕ) → Parks allowed conn a b
    → Adds allowed (change b.asked asked) (waiting conn None ∷ [])
    → Halts allowed conn (Err Unanswered) a (record b { asked = asked; pending = pending })
parks_denied allowed conn a b asked pending parks denied =
    rw (parks.waiting, parks.out)
    (halts_again allowed conn (Err Unanswered) a parks.before _ parks.answers
    (halts_waited allowed conn parks.words parks.outputs b.asked asked parks.before pending b.pending parks.is_request parks.parked parks.spelled parks.history denied))

some_bytes : (words : List (List ℕ)) → 0 < length (request_spelling words)
some_bytes words = omega arith

-- a request that was asked is shorter than what it was in front of
pub parks_shorter : (allowed : Asked → Type 0) (conn : Conn) (a b : Desk) → Parks allowed conn a b → length b.pending < length a.pending
parks_shorter allowed conn a b parks =
    omega (
      arith,
      ap length parks.spelled,
      length-append (request_spelling parks.words) b.pending,
      ap length parks.answers.spelled,
      length-append (stream_spelling parks.answers.requests) parks.before.pending,
      some_bytes parks.words,
    )

-- one request more was handed out, of a byte at least
pub grows_shorter : (count first : ℕ) (old : ReaderState) (words : List (List ℕ)) (new : ReaderState) → HandsOut old words new → count + length old.pending ≤ first
    → count + 1 + length new.pending ≤ first
grows_shorter count first old words new hands shorter =
    omega (
      arith,
      ap length hands.consumed,
      length-append (empty_requests hands.count ++ request_spelling words) new.pending,
      length-append (empty_requests hands.count) (request_spelling words),
      some_bytes words,
    )

-- where there is room no reply is awaited
pub room_is_here : {S : Type 0} (outgoing : Outgoing S) → HasRoom outgoing → outgoing.held ≢ held.Parked
room_is_here outgoing room e = let both : held.Nothing ≡ held.Parked = sym room.nothing ∙ e in cc

-- the reader failed, or there was no memory for what it gave, and that ended the conversation
pub stops_unread : (allowed : Asked → Type 0) (conn : Conn) (i j k : Stream) (fault : ConnFault) (old b : Desk) (came pending : List ℕ) → Consumes i.bytes j.bytes came
    → Answers allowed conn (record old { pending = came }) b → IsUnfinished b.pending → j.failures ≡ i.failures → ReadsNot (change j k) fault
    → Stops allowed conn (Err fault) (change i k) old (record b { pending = pending })
stops_unread allowed conn i j k fault old b came pending before answers unfinished same (reader_fails is keeps risen) =
    rw is
    (record {
      came = came;
      read = Consumes-kept _ _ _ _ before keeps;
      halts = halts_here allowed conn (Err conn_fault.Reader) _ b pending answers (λ e. cc) (refl, unfinished);
      reads = rw same at risen;
    })
stops_unread allowed conn i j k fault old b came pending before answers unfinished same (finds_no_memory bytes is lost counted) =
    rw is
    (stops_fed allowed conn (Err conn_fault.Memory) i k j.bytes old b (record b { pending = pending }) came bytes (b.pending ++ bytes) before lost answers refl
    (halts_here allowed conn (Err conn_fault.Memory) _ (record b { pending = b.pending ++ bytes }) pending (answers_nothing allowed conn _) (λ e. cc) (inl refl))
    (counted ∙ same))
