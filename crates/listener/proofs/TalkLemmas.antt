-- A conversation from its beginning to its end.
use Rattle.std.proofs.Common.{◌≡◌, ◌≢◌, ◌⊎◌, ℕ, List, [], ◌++◌, Result, Ok, Err, append-nil, inl, inr, refl, sym, ◌∙◌}
use Rattle.node_gate.specs.Asks.{Asked}
use Rattle.connections.specs.declared.conn.Conn.{Conn}
use Rattle.step_fault.specs.declared.fault.StepFault.{StepFault}
use Rattle.step_fault.specs.declared.fault.StepFault.TheVariants as refused
use Rattle.listener.specs.declared.fault.ConnFault.{ConnFault}
use Rattle.listener.specs.declared.fault.ConnFault.TheVariants.{Reader, Writer, Memory, Exhausted, Unanswered, Endless}
use Rattle.listener.specs.declared.requests.Rest.{Rest}
use Rattle.listener.specs.Streams.{Change, Stream, change}
use Rattle.listener.specs.Conversation.{IsUnopened, Serves, Tells, fault_of, line_of, replies_bytes}
use Rattle.listener.specs.Conversation.IsUnopened.{no_room, was_refused, gave_none}
use Rattle.listener.specs.Progress.{Closes, Opens, Puts, Refuses, Stops, Talks}
use Rattle.listener.specs.Turns.{Leaves}
use Rattle.listener.proofs.HistoryLemmas.{adds_again}
use Rattle.listener.proofs.BatchLemmas.{fails_after, puts_longer, puts_nothing, sends_after}
use Rattle.listener.proofs.DeskLemmas.{writes_on}

refusal_is_not_writer : (why : StepFault) → fault_of why ≢ Writer
refusal_is_not_writer refused.Memory = λ e. cc
refusal_is_not_writer refused.Exhausted = λ e. cc

-- without a connection nothing was written
unopened_is_not_writer : (asks : List Asked) (fault : ConnFault) → IsUnopened asks fault → fault ≢ Writer
unopened_is_not_writer asks fault (no_room none is) = rw is (λ e. cc)
unopened_is_not_writer asks fault (was_refused why asked is) = rw is (refusal_is_not_writer why)
unopened_is_not_writer asks fault (gave_none outputs asked none is) = rw is (λ e. cc)

writer_or_not : (ended : Result Rest ConnFault) → (ended ≡ Err Writer) ⊎ (ended ≢ Err Writer)
writer_or_not (Ok rest) = inr (λ e. cc)
writer_or_not (Err Reader) = inr (λ e. cc)
writer_or_not (Err Writer) = inl refl
writer_or_not (Err Memory) = inr (λ e. cc)
writer_or_not (Err Exhausted) = inr (λ e. cc)
writer_or_not (Err Unanswered) = inr (λ e. cc)
writer_or_not (Err Endless) = inr (λ e. cc)

-- what was told last stands behind all replies
tells_last : (result : Result (Unit {0}) ConnFault) (ended : Result Rest ConnFault) (a b c : Stream) (left replies line : List ℕ) → Puts (change a b) (change [] left) replies
    → b.failures ≡ a.failures → Tells result ended (change b c) (left ++ line) → Tells result ended (change a c) (replies ++ line)
tells_last (Err Writer) ended a b c left replies line puts same fails = fails_after a b c [] _ _ (puts_longer _ _ _ _ _ line puts) same fails
tells_last result ended a b c left replies line puts same told =
    (told.0, sends_after a b c [] _ _ (puts_longer _ _ _ _ _ line puts) same told.1)

module _ (allowed : Asked → Type 0) where
  -- there was no connection
  pub talks_unopened : (asked : Change (List Asked)) (input output : Stream) (fault : ConnFault) (waiting : List ℕ) → Refuses allowed asked fault → waiting ≡ []
      → Talks allowed asked (change input input) (change output output) (Err fault) waiting
  talks_unopened asked input output fault waiting refuses empty =
      record {
        replies = [];
        talked = inr (record {
          fault = fault;
          asks = refuses.asks;
          history = refuses.history;
          unread = refl;
          no_replies = refl;
          failed = refl;
          why = refuses.why;
        });
        left = [];
        puts = puts_nothing output [];
        waits = λ _. sym empty;
        count = writes_on (Err fault) output (λ e. unopened_is_not_writer _ _ refuses.why (cc));
      }

  -- a connection was opened, and closed at last
  pub talks_opened : (a b c d : List Asked) (conn : Conn) (ended : Result Rest ConnFault) (input : Change Stream) (old new : Stream) (pending waiting : List ℕ)
      → Opens allowed (change a b) conn
      → Stops allowed conn ended input (record { asked = b; pending = []; waiting = []; out = old }) (record { asked = c; pending = pending; waiting = waiting; out = new })
      → Closes allowed (change c d) conn → Talks allowed (change a d) input (change old new) ended waiting
  talks_opened a b c d conn ended input old new pending waiting opens stops closes =
      let halts = stops.halts in
      record {
        replies = replies_bytes halts.exchanges;
        talked = inl (record {
          talk = record { conn = conn; opening = opens.opening; requests = halts.requests; exchanges = halts.exchanges; tail = halts.tail; closing = closes.closing };
          opened = opens.opened;
          history = adds_again allowed _ _ _ _ _ opens.history (adds_again allowed _ _ _ _ _ halts.history closes.history);
          read = rw halts.spelled at stops.read;
          answered = halts.answered;
          replied = refl;
          ends = halts.ends;
          reads = rw halts.spelled at stops.reads;
        });
        left = halts.left;
        puts = halts.puts;
        waits = halts.waits;
        count = halts.count;
      }

  -- the client was told what ended the conversation, if the writer didn't
  pub serves : (asked : Change (List Asked)) (input : Change Stream) (a b c : Stream) (ended : Result Rest ConnFault) (waiting : List ℕ) (result : Result (Unit {0}) ConnFault)
      → Talks allowed asked input (change a b) ended waiting → (ended ≢ Err Writer → Tells result ended (change b c) (waiting ++ line_of ended))
      → (ended ≡ Err Writer → (result ≡ Err Writer) × (c ≡ b)) → Serves allowed asked input (change a c) result
  serves asked input a b c ended waiting result talks told silent =
      record {
        ended = ended;
        replies = talks.replies;
        talked = talks.talked;
        told = elim (writer_or_not ended) [ inl e ↦ in_part e | inr other ↦ in_full other ];
      }
    where
      in_part : ended ≡ Err Writer → Tells result ended (change a c) (talks.replies ++ line_of ended)
      in_part e =
          let quiet = silent e in
          rw (quiet.0, quiet.1, e)
          (record {
            begun = record {
              written = talks.puts.sent;
              rest = talks.left;
              appends = talks.puts.appends;
              split = talks.puts.all ∙ sym (append-nil talks.replies);
            };
            breaks = talks.count.failed e;
          })

      in_full : ended ≢ Err Writer → Tells result ended (change a c) (talks.replies ++ line_of ended)
      in_full other =
          tells_last result ended a b c waiting talks.replies (line_of ended) (rw (talks.waits other) at talks.puts)
          (talks.count.same other) (told other)

  -- there was no connection, and the client is told so
  pub leaves_unopened : (asked : Change (List Asked)) (input output : Stream) (fault : ConnFault) → Refuses allowed asked fault
      → Leaves allowed asked (change input input) (change output output) (Err fault) (line_of (Err fault))
  leaves_unopened asked input output fault refuses =
      record { left = []; talks = talks_unopened asked input output fault [] refuses refl; told = refl }

  -- a connection was opened and closed, and the client is told why
  pub leaves_opened : (a b c d : List Asked) (conn : Conn) (ended : Result Rest ConnFault) (input : Change Stream) (old new : Stream) (pending waiting farewell : List ℕ)
      → Opens allowed (change a b) conn
      → Stops allowed conn ended input (record { asked = b; pending = []; waiting = []; out = old }) (record { asked = c; pending = pending; waiting = waiting; out = new })
      → Closes allowed (change c d) conn → farewell ≡ waiting ++ line_of ended
      → Leaves allowed (change a d) input (change old new) ended farewell
  leaves_opened a b c d conn ended input old new pending waiting farewell opens stops closes told =
      record { left = waiting; talks = talks_opened a b c d conn ended input old new pending waiting opens stops closes; told = told }

  -- the client was told what it was to be sent, if the writer didn't fail before
  pub serves_left : (asked : Change (List Asked)) (input : Change Stream) (a b c : Stream) (ended : Result Rest ConnFault) (farewell : List ℕ) (result : Result (Unit {0}) ConnFault)
      → Leaves allowed asked input (change a b) ended farewell → (ended ≢ Err Writer → Tells result ended (change b c) farewell)
      → (ended ≡ Err Writer → (result ≡ Err Writer) × (c ≡ b)) → Serves allowed asked input (change a c) result
  serves_left asked input a b c ended farewell result leaves told silent =
      serves asked input a b c ended leaves.left result leaves.talks (λ other. rw leaves.told at told other) silent
