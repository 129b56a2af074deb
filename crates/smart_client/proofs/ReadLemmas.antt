-- A call's reply is the one that was read last.
use Rattle.std.proofs.Common.{◌≡◌, ◌++◌, ◌∷◌, ℕ, Bool, inl, inr, List, [], Option, Some, None, Ok, Err, refl, ap, subst, ◌∙◌}
use Rattle.std.specs.Prelude.{⊤}
use Rattle.resp_values.specs.declared.reply.Reply.{Reply}
use Rattle.smart_client.specs.Calls.{Deed, IsCallOf, IsRun, RepliesAreRead, WiresMove, moments_of, pool_behind}
use Rattle.smart_client.specs.Pool.{Pool, pool_after}
use Rattle.smart_client.specs.State.{ClientState}
use Rattle.smart_client.specs.Step.{Answer, Steps, next, turn}
use Rattle.smart_client.specs.Wires.{Moves, Uses, Wires}
use Rattle.smart_client.specs.declared.action.Action.{Action}
use Rattle.smart_client.specs.declared.action.Action.TheVariants.{Connect, Send, Done}
use Rattle.smart_client.specs.declared.action.Event.{Event}
use Rattle.smart_client.specs.declared.action.Event.TheVariants as happened
use Rattle.smart_client.specs.declared.call.Call.{Call}
use Rattle.smart_client.proofs.EndLemmas.{EndsIn, answered_so, begun_so, connected_so, given}

-- ---- a turn ends with the reply that came, or with none

abbrev IsGiven : Event → Answer → Type 0
IsGiven event (Ok reply) = event ≡ happened.Reply reply
IsGiven event (Err fault) = ⊤

turn_so : (client : ClientState) (call : Call) (event : Event) → EndsIn (IsGiven event) (turn client call event)
turn_so client call (happened.Call words) = tt
turn_so client call happened.Connected = connected_so (IsGiven happened.Connected) client call
turn_so client call happened.NotConnected = tt
turn_so client call (happened.Reply reply) = answered_so (IsGiven (happened.Reply reply)) reply refl tt (λ _. tt) (λ _. tt) call.stage client call
turn_so client call happened.BadReply = tt
turn_so client call (happened.Broken handed) = tt
turn_so client call (happened.NoMemory handed) = tt

next_so : (under : Option Call) (client : ClientState) (event : Event) → EndsIn (IsGiven event) (next under client event)
next_so (Some call) client event = turn_so (record client { call = None }) call event
next_so None client (happened.Call words) = begun_so (IsGiven (happened.Call words)) client words (λ _. tt)
next_so None client happened.Connected = tt
next_so None client happened.NotConnected = tt
next_so None client (happened.Reply reply) = tt
next_so None client happened.BadReply = tt
next_so None client (happened.Broken handed) = tt
next_so None client (happened.NoMemory handed) = tt

gave : (old new : ClientState) (event : Event) (reply : Reply) (close : Bool) → Steps old event (Done (Ok reply) close) new → event ≡ happened.Reply reply
gave old new event reply close (inl made) = given (IsGiven event) (next old.call old event) old new (Ok reply) close (next_so old.call old event) made
gave old new event reply close (inr refused) = cc

-- ---- and so does a call

-- what this deed left is the rest of the call
pub record Last (deeds : List Deed) (reply : Reply) (pool : Pool) (old : Wires) : Type 0 where
  pub front : List Deed
  pub sent : List (List ℕ)
  pub is : deeds ≡ front ++ record { action = Send sent; event = happened.Reply reply } ∷ []
  pub between : Wires
  pub moved : WiresMove front pool old between
  pub after : Wires
  pub reads : Uses sent (happened.Reply reply) (pool_behind front pool).used between after

sent_by : (action : Action) (event : Event) (reply : Reply) (pool : Pool) (old new : Wires) → event ≡ happened.Reply reply → Moves action event pool old new → Last (record { action = action; event = event } ∷ []) reply pool old
sent_by (Connect address) event reply pool old new is moves = absurd (subst (λ (e : Event). Moves (Connect address) e pool old new) is moves)
sent_by (Send sent) event reply pool old new is moves = record {
  front = [];
  sent = sent;
  is = ap (λ (e : Event). record { action = Send sent; event = e } ∷ []) is;
  between = old;
  moved = refl;
  after = new;
  reads = subst (λ (e : Event). Uses sent e pool.used old new) is moves;
}
sent_by (Done answer close) event reply pool old new is moves = absurd moves

last_of : (first : Deed) (deeds : List Deed) (reply : Reply) (close : Bool) (event : Event) (pool : Pool) (old new : Wires) (before after : ClientState)
    → IsRun before (moments_of event (first ∷ deeds) (Done (Ok reply) close)) after → WiresMove (first ∷ deeds) pool old new → Last (first ∷ deeds) reply pool old
last_of first [] reply close event pool old new before after run moved =
    sent_by first.action first.event reply pool old moved.0 (gave run.0 run.3.0 first.event reply close run.3.2) moved.1
last_of first (deed ∷ deeds) reply close event pool old new before after run moved =
    let rest = last_of deed deeds reply close first.event (pool_after first.action first.event pool) moved.0 new run.0 after run.3 moved.2 in
    record {
      front = first ∷ rest.front;
      sent = rest.sent;
      is = ap (λ (ds : List Deed). first ∷ ds) rest.is;
      between = rest.between;
      moved = (moved.0, moved.1, rest.moved);
      after = rest.after;
      reads = rest.reads;
    }

some_deed : (deeds : List Deed) (words : List (List ℕ)) (reply : Reply) (close : Bool) (pool : Pool) (old new : Wires) (before after : ClientState)
    → IsRun before (moments_of (happened.Call words) deeds (Done (Ok reply) close)) after → WiresMove deeds pool old new → Last deeds reply pool old
some_deed [] words reply close pool old new before after run moved = never (gave before run.0 (happened.Call words) reply close run.2)
  where
    never : {P : Type 0} → happened.Call words ≡ happened.Reply reply → P
    never same = cc
some_deed (first ∷ deeds) words reply close pool old new before after run moved = last_of first deeds reply close (happened.Call words) pool old new before after run moved

pub run_of : (words : List (List ℕ)) (deeds : List Deed) (last : Action) (old new : ClientState) → IsCallOf words old (moments_of (happened.Call words) deeds last) new → IsRun old (moments_of (happened.Call words) deeds last) new
run_of words [] last old new call = call.2
run_of words (deed ∷ deeds) last old new call = call.2

pub replies_are_read : RepliesAreRead
replies_are_read words old new reply calls =
    let last = some_deed calls.deeds words reply calls.close old.pool old.wires calls.reached old.state new.state (run_of words calls.deeds _ old.state new.state calls.call) calls.moved in
    record {
      front = last.front;
      sent = last.sent;
      done = calls.done ∙ ap (λ (ds : List Deed). old.deeds ++ ds) last.is;
      between = last.between;
      moved = last.moved;
      after = last.after;
      reads = last.reads;
    }
