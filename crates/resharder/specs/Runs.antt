-- A run over a way to the nodes: what it asks, what is done for that, and what it is told then.
use Rattle.std.specs.Prelude.{◌≡◌, ◌≢◌, ◌⊎◌, ◌++◌, ◌∷◌, ◌-◌, ◌^◌, ℕ, List, [], length, Option, Some, None, Result, Ok, Err, ⊤}
use Rattle.redirection.specs.Address.{Place}
use Rattle.smart_client.specs.Calls.{Deed}
use Rattle.smart_client.specs.declared.action.Action.TheVariants.{Connect, Send}
use Rattle.smart_client.specs.declared.action.Event.{Event as Came}
use Rattle.smart_client.specs.declared.action.Event.TheVariants as came
use Rattle.resharder.specs.State.{RunState, first_state}
use Rattle.resharder.specs.Step.{MayCome, Steps}
use Rattle.resharder.specs.declared.action.Action.{Action}
use Rattle.resharder.specs.declared.action.Action.TheVariants.{Ask, Line, Fault, End as Done}
use Rattle.resharder.specs.declared.action.Event.{Event}
use Rattle.resharder.specs.declared.action.Event.TheVariants as happened
use Rattle.resharder.specs.declared.fault.ReshardFault.{ReshardFault}
use Rattle.resharder.specs.declared.fault.ReshardFault.TheVariants.{TooOften}
use Rattle.resharder.specs.declared.plan.Plan.{Plan}
use Rattle.resharder.specs.declared.moved_slot.MovedSlot.{MovedSlot}

-- ---- what a request brings

-- what the run is told of the last deed: the reply, or that memory was refused, and else that no reply came
abbrev pub told_of : Came → Event
told_of (came.Reply reply) = happened.Reply reply
told_of (came.NoMemory handed) = happened.NoMemory
told_of (came.Call words) = happened.NotReached
told_of came.Connected = happened.NotReached
told_of came.NotConnected = happened.NotReached
told_of came.BadReply = happened.NotReached
told_of (came.Broken handed) = happened.NotReached

-- for a request a connection to the address is wanted, and where there is one the words are sent on it
abbrev pub Brings : Place → List (List ℕ) → List Deed → Event → Type 0
Brings to words [] event = ⊥
Brings to words (connecting ∷ []) event = (connecting.action ≡ Connect to) × (connecting.event ≢ came.Connected) × (event ≡ told_of connecting.event)
Brings to words (connecting ∷ sending ∷ []) event =
    (connecting ≡ record { action = Connect to; event = came.Connected }) × (sending.action ≡ Send words) × (event ≡ told_of sending.event)
Brings to words (connecting ∷ sending ∷ other ∷ deeds) event = ⊥

-- the deeds by which one request was asked, and what the run is told of it
pub record Asks (to : Place) (words : List (List ℕ)) (old : List Deed) (event : Event) (new : List Deed) : Type 0 where
  pub deeds : List Deed
  pub done : new ≡ old ++ deeds
  pub brings : Brings to words deeds event

-- a request, what was done for it, and what the run is told
pub record Exchange : Type 0 where
  pub to : Place
  pub words : List (List ℕ)
  pub deeds : List Deed
  pub event : Event

abbrev pub AreExchanges : List Exchange → Type 0
AreExchanges [] = ⊤
AreExchanges (exchange ∷ exchanges) = Brings exchange.to exchange.words exchange.deeds exchange.event × AreExchanges exchanges

-- all that was done for them, in order
abbrev pub deeds_of : List Exchange → List Deed
deeds_of [] = []
deeds_of (exchange ∷ exchanges) = exchange.deeds ++ deeds_of exchanges

-- ---- runs

-- an event, and what the run wants done then
pub record Moment : Type 0 where
  pub event : Event
  pub action : Action

-- the run takes one event after another
abbrev pub IsRun : RunState → List Moment → RunState → Type 0
IsRun old [] new = new ≡ old
IsRun old (moment ∷ moments) new =
    (between : RunState) × MayCome old.stage moment.event × Steps old moment.event moment.action between × IsRun between moments new

-- the moments from this event on, in which all this was asked before the last thing that the run wanted
abbrev pub moments_of : Event → List Exchange → Action → List Moment
moments_of event [] last = record { event = event; action = last } ∷ []
moments_of event (exchange ∷ exchanges) last = record { event = event; action = Ask exchange.to exchange.words } ∷ moments_of exchange.event exchanges last

-- a run, and all that was done for it
pub record RunView : Type 0 where
  pub state : RunState
  pub deeds : List Deed

-- the run begins, or goes on behind a line; what came of each request leads to the next one, and this is wanted at last
pub record Runs (old : RunView) (last : Action) (new : RunView) : Type 0 where
  pub exchanges : List Exchange
  pub each : AreExchanges exchanges
  pub done : new.deeds ≡ old.deeds ++ deeds_of exchanges
  pub run : IsRun old.state (moments_of happened.Start exchanges last) new.state

-- ---- what is answered

-- a slot that is at its new master; or none, since all are; or a fault
abbrev pub Answer : Type 0
Answer = Result (Option MovedSlot) ReshardFault

-- how a run ended
abbrev pub End : Type 0
End = Result (Unit {0}) ReshardFault

-- a run, and how it ended, if it did
pub record ResharderView : Type 0 where
  pub run : RunView
  pub ended : Option End

-- one that has not begun, over a network that did all this before
abbrev pub first_resharder : Plan → List Deed → ResharderView
first_resharder plan deeds = record { run = record { state = first_state plan; deeds = deeds }; ended = None }

abbrev pub ended_by : Answer → Option End
ended_by (Ok (Some moved)) = None
ended_by (Ok None) = Some (Ok tt)
ended_by (Err fault) = Some (Err fault)

-- what is answered once the run is over
abbrev pub answer_after : End → Answer
answer_after (Ok over) = Ok None
answer_after (Err fault) = Err fault

-- the answer is what the run wanted at last
abbrev pub IsToldBy : Action → Answer → Type 0
IsToldBy (Ask to words) answer = ⊥
IsToldBy (Line slot number keys) answer = answer ≡ Ok (Some (record { slot = slot; number = number; keys = keys }))
IsToldBy (Fault fault) answer = answer ≡ Err fault
IsToldBy Done answer = answer ≡ Ok None

-- so many requests are the most that are asked for one answer
abbrev pub most_requests : ℕ
most_requests = 2 ^ 64 - 1

-- what the run wanted at last is the answer, or it asked as often as it may
pub record Answers (old : RunView) (answer : Answer) (new : RunView) : Type 0 where
  pub last : Action
  pub runs : Runs old last new
  pub told : IsToldBy last answer ⊎ ((length runs.exchanges ≡ most_requests) × (answer ≡ Err TooOften))
