-- A run that goes on from request to request.
use Rattle.std.proofs.Common.{◌≡◌, ◌≤◌, ◌+◌, ◌++◌, ◌∷◌, ℕ, List, [], Err, length, inr, refl, ap, sym, subst, ◌∙◌, append_assoc, append-nil, length-append, arith}
use Rattle.redirection.specs.Address.{Place}
use Rattle.smart_client.specs.Calls.{Deed}
use Rattle.smart_client.specs.declared.action.Event.{Event as Came}
use Rattle.smart_client.specs.declared.action.Event.TheVariants as came
use Rattle.resharder.specs.Runs.{Answers, AreExchanges, Asks, Brings, Exchange, IsRun, RunView, Runs, deeds_of, moments_of, most_requests, told_of}
use Rattle.resharder.specs.State.{RunState}
use Rattle.resharder.specs.Step.{IsWaiting, MayCome, Steps}
use Rattle.resharder.specs.declared.action.Action.{Action}
use Rattle.resharder.specs.declared.action.Action.TheVariants.{Ask}
use Rattle.resharder.specs.declared.action.Event.{Event}
use Rattle.resharder.specs.declared.action.Event.TheVariants as happened
use Rattle.resharder.specs.declared.fault.ReshardFault.TheVariants.{TooOften}
use Rattle.resharder.specs.declared.stage.Stage.{Stage}
use Rattle.resharder.specs.declared.stage.Stage.TheVariants.{Begins, Finds, Works, Prints, Over}

-- ---- what a request brings

-- it is a reply, or the reason why there is none
told_comes : (came : Came) (to : Place) (words : List (List ℕ)) (stage : Stage) → IsWaiting (Ask to words) stage → MayCome stage (told_of came)
told_comes came to words Begins waits = absurd waits
told_comes (came.Call call) to words Finds waits = tt
told_comes came.Connected to words Finds waits = tt
told_comes came.NotConnected to words Finds waits = tt
told_comes (came.Reply reply) to words Finds waits = tt
told_comes came.BadReply to words Finds waits = tt
told_comes (came.Broken handed) to words Finds waits = tt
told_comes (came.NoMemory handed) to words Finds waits = tt
told_comes (came.Call call) to words (Works work) waits = tt
told_comes came.Connected to words (Works work) waits = tt
told_comes came.NotConnected to words (Works work) waits = tt
told_comes (came.Reply reply) to words (Works work) waits = tt
told_comes came.BadReply to words (Works work) waits = tt
told_comes (came.Broken handed) to words (Works work) waits = tt
told_comes (came.NoMemory handed) to words (Works work) waits = tt
told_comes came to words (Prints nodes slot) waits = absurd waits
told_comes came to words Over waits = absurd waits

brought_comes : (to : Place) (words : List (List ℕ)) (deeds : List Deed) (event : Event) (stage : Stage) → Brings to words deeds event → IsWaiting (Ask to words) stage → MayCome stage event
brought_comes to words [] event stage brings waits = absurd brings
brought_comes to words (connecting ∷ []) event stage brings waits = subst (λ (e : Event). MayCome stage e) (sym brings.2) (told_comes connecting.event to words stage waits)
brought_comes to words (connecting ∷ sending ∷ []) event stage brings waits = subst (λ (e : Event). MayCome stage e) (sym brings.2) (told_comes sending.event to words stage waits)
brought_comes to words (connecting ∷ sending ∷ other ∷ deeds) event stage brings waits = absurd brings

-- and so it may come next
pub asked_comes : (wanted : Action) (to : Place) (words : List (List ℕ)) (old new : List Deed) (event : Event) (stage : Stage) → wanted ≡ Ask to words → Asks to words old event new → IsWaiting wanted stage → MayCome stage event
asked_comes wanted to words old new event stage is asks waits = brought_comes to words asks.deeds event stage asks.brings (subst (λ (a : Action). IsWaiting a stage) is waits)

-- ---- one more request

deeds_on : (exchanges : List Exchange) (exchange : Exchange) → deeds_of (exchanges ++ exchange ∷ []) ≡ deeds_of exchanges ++ exchange.deeds
deeds_on [] exchange = append-nil exchange.deeds
deeds_on (first ∷ exchanges) exchange = ap (λ (deeds : List Deed). first.deeds ++ deeds) (deeds_on exchanges exchange) ∙ sym (append_assoc first.deeds (deeds_of exchanges) exchange.deeds)

each_on : (exchanges : List Exchange) (exchange : Exchange) → AreExchanges exchanges → Brings exchange.to exchange.words exchange.deeds exchange.event → AreExchanges (exchanges ++ exchange ∷ [])
each_on [] exchange each brings = (brings, tt)
each_on (first ∷ exchanges) exchange each brings = (each.0, each_on exchanges exchange each.1 brings)

run_on : (old middle new : RunState) (event : Event) (exchanges : List Exchange) (exchange : Exchange) (later : Action) → IsRun old (moments_of event exchanges (Ask exchange.to exchange.words)) middle → MayCome middle.stage exchange.event
    → Steps middle exchange.event later new → IsRun old (moments_of event (exchanges ++ exchange ∷ []) later) new
run_on old middle new event [] exchange later run may steps =
    (run.0, run.1, run.2, (new, subst (λ (state : RunState). MayCome state.stage exchange.event) run.3 may, subst (λ (state : RunState). Steps state exchange.event later new) run.3 steps, refl))
run_on old middle new event (first ∷ exchanges) exchange later run may steps = (run.0, run.1, run.2, run_on run.0 middle new first.event exchanges exchange later run.3 may steps)

-- a run that wants this, after so many requests
pub record HasAsked (old : RunView) (wanted : Action) (now : RunView) (count : ℕ) : Type 0 where
  pub runs : Runs old wanted now
  pub often : length runs.exchanges ≡ count

pub begins : (old now : RunView) (wanted : Action) → now.deeds ≡ old.deeds → MayCome old.state.stage happened.Start → Steps old.state happened.Start wanted now.state → HasAsked old wanted now 0
begins old now wanted same may steps = record {
  runs = record { exchanges = []; each = tt; done = same ∙ sym (append-nil old.deeds); run = (now.state, may, steps, refl) };
  often = refl;
}

asks_more : (old middle new : RunView) (to : Place) (words : List (List ℕ)) (later : Action) (event : Event) (count : ℕ) → HasAsked old (Ask to words) middle count → Asks to words middle.deeds event new.deeds
    → MayCome middle.state.stage event → Steps middle.state event later new.state → HasAsked old later new (count + 1)
asks_more old middle new to words later event count asked asks may steps =
    let exchanges = asked.runs.exchanges in
    let exchange : Exchange = record { to = to; words = words; deeds = asks.deeds; event = event } in
    record {
      runs = record {
        exchanges = exchanges ++ exchange ∷ [];
        each = each_on exchanges exchange asked.runs.each asks.brings;
        done = asks.done ∙ ap (λ (deeds : List Deed). deeds ++ asks.deeds) asked.runs.done ∙ append_assoc old.deeds (deeds_of exchanges) asks.deeds ∙ sym (ap (λ (deeds : List Deed). old.deeds ++ deeds) (deeds_on exchanges exchange));
        run = run_on old.state middle.state new.state happened.Start exchanges exchange later asked.runs.run may steps;
      };
      often = length-append exchanges (exchange ∷ []) ∙ ap (λ (n : ℕ). n + 1) asked.often;
    }

pub asks_on : (old middle new : RunView) (wanted : Action) (to : Place) (words : List (List ℕ)) (later : Action) (event : Event) (count : ℕ) → wanted ≡ Ask to words → HasAsked old wanted middle count
    → Asks to words middle.deeds event new.deeds → IsWaiting wanted middle.state.stage → Steps middle.state event later new.state → HasAsked old later new (count + 1)
asks_on old middle new wanted to words later event count is asked asks waits steps =
    asks_more old middle new to words later event count (subst (λ (a : Action). HasAsked old a middle count) is asked) asks (asked_comes wanted to words middle.deeds new.deeds event middle.state.stage is asks waits) steps

-- ---- it has asked as often as it may

pub gives_up : (old now : RunView) (wanted : Action) (count : ℕ) → HasAsked old wanted now count → most_requests ≤ count → count ≤ most_requests → Answers old (Err TooOften) now
gives_up old now wanted count asked all most = record { last = wanted; runs = asked.runs; told = inr (asked.often ∙ omega (arith, all, most), refl) }
