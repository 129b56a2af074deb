-- A node with one possible answer for each event, and what its client reads.
use Rattle.std.specs.Prelude.{◌≡◌, ◌++◌, ◌⊎◌, ℕ, zero, suc, List, [], None, Some, Err, Ok, length, All, codes, ⊤}
use Rattle.resp2.specs.Law.{IsStream}
use Rattle.resp_values.specs.Reply.{reply_spelling}
use Rattle.resp2.specs.Stream.{stream_spelling, with_words, IsUnfinished, HasFirstBadByte}
use Rattle.resp_values.specs.Request.{IsRequest}
use Rattle.resp_header.specs.declared.fault.Fault.{Fault}
use Rattle.resp_values.specs.declared.reply.Reply.{Reply}
use Rattle.resp_values.specs.declared.reply.Reply.TheVariants.{Simple}
use Rattle.command_table.specs.declared.error_line.ErrorLine.TheVariants as line
use Rattle.node_gate.specs.Asks.{Asked}
use Rattle.node_gate.specs.Asks.Asked.{asking, waiting}
use Rattle.node_step.specs.Outcome.{no_outputs}
use Rattle.node_step.specs.declared.event.Event.{Event}
use Rattle.node_step.specs.declared.event.Event.TheVariants.{Open, Close, Request, Deliver, Tick}
use Rattle.node_step.specs.declared.outputs.Outputs.{Outputs}
use Rattle.node_step.specs.declared.response.Answer.{Answer}
use Rattle.node_step.specs.declared.response.Response.{Response}
use Rattle.node_step.specs.declared.response.Response.TheVariants.{Nothing, Opened, Replied}
use Rattle.node_step.specs.declared.response.Why.TheVariants.{Decided}
use Rattle.redirect.specs.declared.decision.Decision.TheVariants.{Serve}
use Rattle.listener.specs.Conversation.{error_bytes}

abbrev pub pong : Reply
pong = Simple (codes "PONG")

abbrev pub pong_answer : Answer
pong_answer = record { why = Decided Serve; reply = pong }

-- the response to an event
abbrev pub response_for : Event → Response
response_for Open = Opened (record { key = 0; generation = 0 })
response_for (Close conn) = Nothing
response_for (Request conn words) = Replied pong_answer
response_for (Deliver message) = Nothing
response_for Tick = Nothing

-- what comes out for an event
abbrev pub outputs_for : Event → Outputs
outputs_for event = record (no_outputs 0) { response = response_for event }

-- the node gives just this for an event, and no reply that was waited for
abbrev pub IsPong : Asked → Type 0
IsPong (asking event (Ok outputs)) = outputs ≡ outputs_for event
IsPong (asking event (Err fault)) = ⊥
IsPong (waiting conn (Some reply)) = ⊥
IsPong (waiting conn None) = ⊤

-- the bytes of n PONGs
abbrev pub pongs : ℕ → List ℕ
pongs zero = []
pongs (suc n) = reply_spelling pong ++ pongs n

-- the client sent these requests with words and no other, and then the beginning of one; and it was told nothing more
pub record EndsInTime (input : List ℕ) (requests : List (List (List ℕ))) (rest last : List ℕ) : Type 0 where
  pub unfinished : IsUnfinished rest
  pub nothing_more : last ≡ []
  pub only : (others : List (List (List ℕ))) (more : List ℕ) → IsStream input others more → with_words others ≡ requests

-- a bad byte came behind the requests, and the client was told
pub record EndsBadly (rest last : List ℕ) : Type 0 where
  pub fault : Fault
  pub bad : HasFirstBadByte fault rest
  pub told : last ≡ error_bytes line.Protocol

-- the client read a PONG for each request with words that it sent, and was told of a bad byte
pub record AreAnsweredExactly (input output : List ℕ) : Type 0 where
  pub all : List (List (List ℕ))
  pub requests : List (List (List ℕ))
  pub rest : List ℕ
  pub last : List ℕ
  pub spelled : input ≡ stream_spelling all ++ rest
  pub are : with_words all ≡ requests
  pub each : All IsRequest requests
  pub ends : EndsInTime input requests rest last ⊎ EndsBadly rest last
  pub written : output ≡ pongs (length requests) ++ last
