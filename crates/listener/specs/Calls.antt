-- What a call did, in the words of its clauses: to a gate, a reader, a writer and a conversation, each as the call found it and, with a
-- prime, as it left it. In front of each stand the members of its trait.
use Rattle.std.specs.Prelude.{◌≡◌, ◌≢◌, ◌∷◌, [], ◌++◌, ℕ, List, Bool, MatchBool, MatchResult, Option, Result, Err, ◌<◌}
use Rattle.std.specs.declared.io.Read.{Ghosts as Reader}
use Rattle.std.specs.declared.io.Write.{Ghosts as Writer}
use Rattle.resp_values.specs.Request.{request_spelling}
use Rattle.resp_values.specs.declared.reply.Reply.{Reply}
use Rattle.resp2.specs.Counting.{failures_of}
use Rattle.resp2.specs.declared.counting.Counting.{Counting}
use Rattle.connections.specs.declared.conn.Conn.{Conn}
use Rattle.step_fault.specs.declared.fault.StepFault.{StepFault}
use Rattle.node_step.specs.declared.event.Event.{Event}
use Rattle.node_step.specs.declared.outputs.Outputs.{Outputs}
use Rattle.node_gate.specs.Asks.Asked.{asking, waiting}
use Rattle.node_gate.specs.declared.gate.NodeGate.{Ghosts as Gate}
use Rattle.listener.specs.declared.connection.Over.{Over}
use Rattle.listener.specs.declared.fault.ConnFault.{ConnFault}
use Rattle.listener.specs.declared.fault.ConnFault.TheVariants as conn_fault
use Rattle.listener.specs.declared.batch.Wrote.{Wrote}
use Rattle.listener.specs.declared.outgoing.Left.{Left}
use Rattle.listener.specs.declared.outgoing.Outgoing.{Outgoing}
use Rattle.listener.specs.declared.reading.Came.{Came}
use Rattle.listener.specs.declared.reading.Came.TheVariants as came
use Rattle.listener.specs.declared.requests.Next.{Next}
use Rattle.listener.specs.declared.requests.Rest.{Rest}
use Rattle.listener.specs.declared.talk.Talk.{Talk}
use Rattle.listener.specs.Conversation.{Tells}
use Rattle.listener.specs.Progress.{Answers, Desk, Halts, Puts, Stops, desk}
use Rattle.listener.specs.Streams.{Adds, Change, Fails, Sends, Stream, change_of, stream_of, streams}
use Rattle.listener.specs.Turns.{AccountsFor, Gives, Hears, Leaves, Parks, Reads, Turns, WritesBy, desk_of, farewell_of, waiting_in, waiting_of}

-- where the answer is yes the bytes stand behind those that were there, and else nothing has changed
abbrev pub GrowsIf : Bool → Change (List ℕ) → List ℕ → Type 0
GrowsIf answer all bytes = MatchBool answer (all.new ≡ all.old ++ bytes) (all.new ≡ all.old)

module _ {W T E : Type 0} (result : Result T E) (writer : Writer W) (w w' : Counting W) where
  -- all these bytes were written, and no call failed; or a call failed, behind a beginning of them
  abbrev pub SendsAll : List ℕ → Type 0
  SendsAll bytes = MatchResult result (λ _. Sends (streams writer.contents w w') bytes) (λ _. Fails (streams writer.contents w w') bytes)

  -- a beginning of what waited was written, and the rest waits; or a call failed, behind a beginning of it
  abbrev pub PutsSome : {A : Type 0} → (A → List ℕ) → A → A → Type 0
  PutsSome waits a a' =
      MatchResult result (λ _. Puts (streams writer.contents w w') (change_of waits a a') []) (λ _. Fails (streams writer.contents w w') (waits a))

module _ {W A : Type 0} (w w' : Counting W) (waits : A → List ℕ) (a a' : A) where
  -- what one write did to the bytes that wait
  abbrev pub Writes : Wrote → Type 0
  Writes did = WritesBy did (change_of failures_of w w') (change_of waits a a')

  -- what is told of those that it left is true
  abbrev pub Accounts : Left → Type 0
  Accounts left = AccountsFor left (change_of failures_of w w') (change_of waits a a')

-- what one read did to a conversation: what came stands behind the bytes that are not answered, once
abbrev pub ReadsOnce : {R S : Type 0} → Reader R → Counting R → Counting R → List ℕ → Talk S → Talk S → Came → Type 0
ReadsOnce reader r r' room t t' (came.Bytes count) = (0 < count) × Reads (streams reader.remaining r r') t t' count
ReadsOnce reader r r' room t t' other = (t'.requests ≡ t.requests) × Gives (streams reader.remaining r r') room other

module _ {G A : Type 0} (gate : Gate G A) (g g' : G) where
  -- the node was asked this event and nothing else, and this came of it
  abbrev pub AsksOnce : Event → Result Outputs StepFault → Type 0
  AsksOnce event outcome = Adds gate.allowed (change_of gate.asked g g') (asking event outcome ∷ [])

  -- the connection waited for its reply, and nothing else was asked
  abbrev pub WaitsOnce : Conn → Option Reply → Type 0
  WaitsOnce conn reply = Adds gate.allowed (change_of gate.asked g g') (waiting conn reply ∷ [])

  module _ {S : Type 0} (gave : S → Outputs) (conn : Conn) (words : List (List ℕ)) (o o' : Outgoing S) where
    -- whatever bytes stand behind the request: it was answered, or it was asked and its reply comes later
    abbrev pub AsksFor : Bool → Type 0
    AsksFor has_come = (behind : List ℕ) (out : Stream)
        → let old : Desk = desk (gate.asked g) (request_spelling words ++ behind) (waiting_of gave o) out in
        let new : Desk = desk (gate.asked g') behind (waiting_of gave o') out in
        MatchBool has_come (Answers gate.allowed conn old new) (Parks gate.allowed conn old new)

    -- whatever bytes stand behind the request: it ended the conversation by this fault
    abbrev pub HaltsFor : ConnFault → Type 0
    HaltsFor fault = (behind pending : List ℕ) (out : Stream)
        → let old : Desk = desk (gate.asked g) (request_spelling words ++ behind) (waiting_of gave o) out in
        Halts gate.allowed conn (Err fault) old (desk (gate.asked g') pending (waiting_of gave o') out)

  module _ {S : Type 0} (gave : S → Outputs) (t t' : Talk S) where
    -- the conversation and its gate at a writer, as the call found them, and as it left them
    abbrev before : Stream → Desk
    before = desk_of gave (gate.asked g) t

    abbrev after : Stream → Desk
    after = desk_of gave (gate.asked g') t'

    -- whole requests were answered, and nothing was written
    abbrev pub TurnAnswers : Type 0
    TurnAnswers = (out : Stream) → Answers gate.allowed t.conn (before out) (after out)

    -- whole requests were answered, up to one by which the conversation ended
    abbrev pub TurnHalts : ConnFault → Type 0
    TurnHalts fault = (out : Stream) → Halts gate.allowed t.conn (Err fault) (before out) (after out)

    -- whole requests were answered, and what comes next may be the reply to one that was parked
    abbrev pub TakesTurn : Next → Type 0
    TakesTurn comes = (out : Stream) → Turns gate.allowed t.conn comes (before out) (after out)

    -- that reply was waited for, and stands behind those that wait
    abbrev pub TurnHears : Type 0
    TurnHears = Hears gate.allowed t.conn (change_of gate.asked g g') (change_of (waiting_in gave) t t')

    module _ {W : Type 0} (writer : Writer W) (w w' : Counting W) where
      -- whole requests were answered, and replies were written
      abbrev pub TalkAnswers : Type 0
      TalkAnswers = Answers gate.allowed t.conn (before (stream_of writer.contents w)) (after (stream_of writer.contents w'))

      -- whole requests were answered, and then this ended the conversation
      abbrev pub TalkHalts : ConnFault → Type 0
      TalkHalts fault = Halts gate.allowed t.conn (Err fault) (before (stream_of writer.contents w)) (after (stream_of writer.contents w'))

      -- the same of all that came
      abbrev pub TalkStops : {R : Type 0} → Reader R → Counting R → Counting R → Result Rest ConnFault → Type 0
      TalkStops reader r r' ended =
          Stops gate.allowed t.conn ended (streams reader.remaining r r') (before (stream_of writer.contents w)) (after (stream_of writer.contents w'))

  -- a conversation is over for the node, and this is left for its client
  abbrev pub TalkLeaves : {R W S : Type 0} → Reader R → Counting R → Counting R → Writer W → Counting W → Counting W → (S → Outputs) → Over S → Type 0
  TalkLeaves reader r r' writer w w' gave over =
      Leaves gate.allowed (change_of gate.asked g g') (streams reader.remaining r r') (streams writer.contents w w') over.ended (farewell_of gave over.farewell)

-- what was left for the client was sent, and the caller is told what ended the conversation, if that wasn't the writer
abbrev pub TellsWhy : {W S : Type 0} → Writer W → Counting W → Counting W → (S → Outputs) → Over S → Result (Unit {0}) ConnFault → Type 0
TellsWhy writer w w' gave over result =
    over.ended ≢ Err conn_fault.Writer → Tells result over.ended (streams writer.contents w w') (farewell_of gave over.farewell)
