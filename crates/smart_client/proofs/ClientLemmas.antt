-- A call that goes on from deed to deed.
use Rattle.std.proofs.Common.{◌≡◌, ◌≢◌, ◌<◌, ◌+◌, ◌++◌, ◌∷◌, ℕ, Bool, true, false, List, [], Option, Some, None, refl, ap, sym, subst, ◌∙◌, append_assoc, append-nil, arith}
use Rattle.smart_client.specs.Calls.{AreWithin, ClientView, Deed, IsCallOf, IsRun, IsWaiting, IsWithin, MayAnswer, Nears, WiresMove, is_begun, left_of, moments_of, pool_behind}
use Rattle.smart_client.specs.Pool.{Pool, pool_after}
use Rattle.smart_client.specs.Wires.{Moves, Wires}
use Rattle.smart_client.specs.State.{ClientState}
use Rattle.smart_client.specs.Step.{MayCome, MayComeTo, Steps}
use Rattle.smart_client.specs.declared.action.Action.{Action}
use Rattle.smart_client.specs.declared.action.Action.TheVariants.{Connect, Send, Done}
use Rattle.smart_client.specs.declared.action.Event.{Event}
use Rattle.smart_client.specs.declared.action.Event.TheVariants as happened
use Rattle.smart_client.specs.declared.call.Call.{Call}
use Rattle.smart_client.specs.declared.call.Stage.{Stage}
use Rattle.smart_client.specs.declared.call.Stage.TheVariants.{Connecting, Introducing, Asking, Sent}

-- the deeds of a call so far, and what is wanted now
pub record Goes (words : List (List ℕ)) (old : ClientView) (begun : Bool) (wanted : Action) (now : ClientView) : Type 0 where
  pub deeds : List Deed
  pub some : begun ≡ is_begun deeds
  pub done : now.deeds ≡ old.deeds ++ deeds
  pub call : IsCallOf words old.state (moments_of (happened.Call words) deeds wanted) now.state
  pub pool : now.pool ≡ pool_behind deeds old.pool
  pub moved : WiresMove deeds old.pool old.wires now.wires

-- nothing was done yet
pub begins : (words : List (List ℕ)) (old now : ClientView) (wanted : Action) → MayCome old.state.call (happened.Call words)
    → Steps old.state (happened.Call words) wanted now.state → now.deeds ≡ old.deeds → now.pool ≡ old.pool → now.wires ≡ old.wires → Goes words old false wanted now
begins words old now wanted may steps same same_pool same_wires = record {
  deeds = [];
  some = refl;
  done = same ∙ sym (append-nil old.deeds);
  call = (refl, tt, (now.state, may, steps, refl));
  pool = same_pool;
  moved = same_wires;
}

-- how many events may still come
abbrev pub left_at : ℕ → Option Call → ℕ
left_at limit None = 0
left_at limit (Some call) = left_of limit call + 1

run_on : (old middle new : ClientState) (event next : Event) (wanted later : Action) (deeds : List Deed) → IsRun old (moments_of event deeds wanted) middle → MayCome middle.call next → Steps middle next later new
    → IsRun old (moments_of event (deeds ++ record { action = wanted; event = next } ∷ []) later) new
run_on old middle new event next wanted later [] run may steps =
    (run.0, run.1, run.2, (new, subst (λ (client : ClientState). MayCome client.call next) run.3 may, subst (λ (client : ClientState). Steps client next later new) run.3 steps, refl))
run_on old middle new event next wanted later (deed ∷ deeds) run may steps = (run.0, run.1, run.2, run_on run.0 middle new deed.event next wanted later deeds run.3 may steps)

within_on : (event next : Event) (wanted later : Action) (deeds : List Deed) → AreWithin (moments_of event deeds wanted) → IsWithin next → AreWithin (moments_of event (deeds ++ record { action = wanted; event = next } ∷ []) later)
within_on event next wanted later [] within is = (within.0, (is, tt))
within_on event next wanted later (deed ∷ deeds) within is = (within.0, within_on deed.event next wanted later deeds within.1 is)

goes_on : (words : List (List ℕ)) (old middle new : ClientState) (next : Event) (wanted later : Action) (deeds : List Deed) → IsCallOf words old (moments_of (happened.Call words) deeds wanted) middle → IsWithin next
    → MayCome middle.call next → Steps middle next later new → IsCallOf words old (moments_of (happened.Call words) (deeds ++ record { action = wanted; event = next } ∷ []) later) new
goes_on words old middle new next wanted later [] call is may steps = (refl, (is, tt), run_on old middle new (happened.Call words) next wanted later [] call.2 may steps)
goes_on words old middle new next wanted later (deed ∷ deeds) call is may steps =
    (refl, within_on deed.event next wanted later deeds call.1 is, run_on old middle new (happened.Call words) next wanted later (deed ∷ deeds) call.2 may steps)

-- what comes of a deed begins no call
pub is_within : (wanted : Action) (event : Event) → MayAnswer wanted event → IsWithin event
is_within (Connect address) event may = within_stage Connecting event may
  where
    within_stage : (stage : Stage) (e : Event) → MayComeTo stage e → IsWithin e
    within_stage stage (happened.Call words) comes = comes
    within_stage stage happened.Connected comes = tt
    within_stage stage happened.NotConnected comes = tt
    within_stage stage (happened.Reply reply) comes = tt
    within_stage stage happened.BadReply comes = tt
    within_stage stage (happened.Broken handed) comes = tt
    within_stage stage (happened.NoMemory handed) comes = tt
is_within (Send words) event may = within_sent event may
  where
    within_sent : (e : Event) → MayComeTo Sent e → IsWithin e
    within_sent (happened.Call other) comes = comes
    within_sent happened.Connected comes = tt
    within_sent happened.NotConnected comes = tt
    within_sent (happened.Reply reply) comes = tt
    within_sent happened.BadReply comes = tt
    within_sent (happened.Broken handed) comes = tt
    within_sent (happened.NoMemory handed) comes = tt
is_within (Done answer close) event may = absurd may

comes_to : (stage : Stage) (event : Event) → stage ≢ Connecting → MayComeTo Sent event → MayComeTo stage event
comes_to Connecting event other may = absurd (other refl)
comes_to Introducing event other may = may
comes_to Asking event other may = may
comes_to Sent event other may = may

-- and it is what the client waits for
pub may_come : (wanted : Action) (event : Event) (under : Option Call) → IsWaiting wanted under → MayAnswer wanted event → MayCome under event
may_come (Connect address) event None waits may = absurd waits
may_come (Connect address) event (Some call) waits may = subst (λ (stage : Stage). MayComeTo stage event) (sym waits) may
may_come (Send words) event None waits may = absurd waits
may_come (Send words) event (Some call) waits may = comes_to call.stage event waits may
may_come (Done answer close) event under waits may = absurd may

pub pool_on : (deeds : List Deed) (deed : Deed) (pool : Pool) → pool_behind (deeds ++ deed ∷ []) pool ≡ pool_after deed.action deed.event (pool_behind deeds pool)
pool_on [] deed pool = refl
pool_on (first ∷ deeds) deed pool = pool_on deeds deed (pool_after first.action first.event pool)

wires_on : (deeds : List Deed) (deed : Deed) (pool : Pool) (old middle new : Wires) → WiresMove deeds pool old middle
    → Moves deed.action deed.event (pool_behind deeds pool) middle new → WiresMove (deeds ++ deed ∷ []) pool old new
wires_on [] deed pool old middle new same moves = (new, subst (λ (wires : Wires). Moves deed.action deed.event pool wires new) same moves, refl)
wires_on (first ∷ deeds) deed pool old middle new moved moves =
    (moved.0, moved.1, wires_on deeds deed (pool_after first.action first.event pool) moved.0 middle new moved.2 moves)

behind_some : (deeds : List Deed) (deed : Deed) → true ≡ is_begun (deeds ++ deed ∷ [])
behind_some [] deed = refl
behind_some (first ∷ deeds) deed = refl

pub passes_on : (words : List (List ℕ)) (old middle new : ClientView) (begun : Bool) (wanted later : Action) (event : Event) → Goes words old begun wanted middle → new.deeds ≡ middle.deeds ++ record { action = wanted; event = event } ∷ []
    → new.pool ≡ pool_after wanted event middle.pool → Moves wanted event middle.pool middle.wires new.wires → MayAnswer wanted event → IsWaiting wanted middle.state.call → Steps middle.state event later new.state → Goes words old true later new
passes_on words old middle new begun wanted later event goes grown pool_then moves may waits steps = record {
  deeds = goes.deeds ++ record { action = wanted; event = event } ∷ [];
  some = behind_some goes.deeds (record { action = wanted; event = event });
  done = grown ∙ ap (λ (deeds : List Deed). deeds ++ record { action = wanted; event = event } ∷ []) goes.done ∙ append_assoc old.deeds goes.deeds (record { action = wanted; event = event } ∷ []);
  call = goes_on words old.state middle.state new.state event wanted later goes.deeds goes.call (is_within wanted event may) (may_come wanted event middle.state.call waits may) steps;
  pool = pool_then ∙ ap (λ (pool : Pool). pool_after wanted event pool) goes.pool ∙ sym (pool_on goes.deeds (record { action = wanted; event = event }) old.pool);
  moved = wires_on goes.deeds (record { action = wanted; event = event }) old.pool old.wires middle.wires new.wires goes.moved
      (subst (λ (pool : Pool). Moves wanted event pool middle.wires new.wires) goes.pool moves);
}

-- each event leaves fewer
pub fewer : (limit : ℕ) (wanted later : Action) (event : Event) (old new : Option Call) → IsWaiting wanted old → MayAnswer wanted event → IsWaiting later new → Nears limit old new → left_at limit new < left_at limit old
fewer limit (Connect address) later event None new waits may later_waits nears = absurd waits
fewer limit (Send words) later event None new waits may later_waits nears = absurd waits
fewer limit (Done answer close) later event old new waits may later_waits nears = absurd may
fewer limit (Connect address) later event (Some call) None waits may later_waits nears = omega arith
fewer limit (Connect address) later event (Some call) (Some other) waits may later_waits nears = omega (arith, nears)
fewer limit (Send words) later event (Some call) None waits may later_waits nears = omega arith
fewer limit (Send words) later event (Some call) (Some other) waits may later_waits nears = omega (arith, nears)
