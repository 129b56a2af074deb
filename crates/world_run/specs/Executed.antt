-- The commands that were executed in a run, and what their clients were told before (Redis Cluster
-- specification, "ASK redirection"; that an ASK names its move is ours).
use Rattle.std.specs.Prelude.{◌≡◌, ℕ, Bool, true, false, List, [], ◌∷◌, map, Contains, Option, Some, None, if◌then◌else◌}
use Rattle.std.specs.List.{filter_map}
use Rattle.keyspace.specs.Commands.{replay}
use Rattle.redirect.specs.declared.decision.Decision.{Decision}
use Rattle.redirect.specs.Decision as redirect
use Rattle.redirect.specs.declared.decision.Decision.TheVariants.{Serve, ServeImport, CrossSlot, Down, TryAgain, Ask, Moved}
use Rattle.node_step.specs.declared.event.Event.TheVariants.{Open, Close, Request, Deliver, Tick}
use Rattle.node_step.specs.declared.response.Answer.{Answer}
use Rattle.node_step.specs.declared.response.Response.{Response}
use Rattle.node_step.specs.declared.response.Response.TheVariants.{Nothing, Opened, Replied, Parked}
use Rattle.node_step.specs.declared.response.Why.{Why}
use Rattle.node_step.specs.declared.response.Why.TheVariants.{NotACommand, Decided, Reported, Told, Imports, Migrates, Ends, Copies, TakesOver}
use Rattle.world_run.specs.Run.{Deed, Entry}
use Rattle.world_run.specs.Run.Deed.{Made, Skipped}

-- ---- answers to requests

-- a request with its answer
pub record Answered : Type 0 where
  pub words : List (List ℕ)
  pub answer : Answer

abbrev pub answered_with : List (List ℕ) → Response → Option Answered
answered_with words (Replied answer) = Some (record { words = words; answer = answer })
answered_with words Nothing = None
answered_with words (Opened conn) = None
answered_with words Parked = None

-- the answer that an entry gave to a request
abbrev pub answered : Deed → Option Answered
answered (Made (Request conn words) outputs) = answered_with words outputs.response
answered (Made Open outputs) = None
answered (Made (Close conn) outputs) = None
answered (Made (Deliver message) outputs) = None
answered (Made Tick outputs) = None
answered Skipped = None

-- what was decided
abbrev pub decision_in : Why → Option Decision
decision_in (Decided decision) = Some decision
decision_in (NotACommand fault) = None
decision_in Reported = None
decision_in Told = None
decision_in (Imports verdict) = None
decision_in (Migrates verdict) = None
decision_in (Ends verdict) = None
decision_in (Copies verdict) = None
decision_in TakesOver = None

-- ---- executed commands

-- the decision is to execute
abbrev pub is_served : Option Decision → Bool
is_served (Some decision) = redirect.is_served decision
is_served None = false

abbrev pub if_served : Option Answered → Option Answered
if_served None = None
if_served (Some answered) = if is_served (decision_in answered.answer.why) then Some answered else None

-- the requests whose commands were executed, with their replies, in the order of the run
abbrev pub executed : List Entry → List Answered
executed entries = filter_map (λ (entry : Entry). if_served (answered entry.deed)) entries

-- the replies are those of one keyspace that executes these requests in this order
abbrev pub AreOfOneKeyspace : List Answered → Type 0
AreOfOneKeyspace requests = map (λ request. request.answer.reply) requests ≡ (replay (map (λ request. request.words) requests)).replies

-- ---- redirections

-- a request with these words was sent on, to that node, in the move of that number
pub record Redirection : Type 0 where
  pub words : List (List ℕ)
  pub to : ℕ
  pub number : ℕ

abbrev pub redirected : List (List ℕ) → Option Decision → Option Redirection
redirected words (Some (Ask slot to number)) = Some (record { words = words; to = to; number = number })
redirected words (Some Serve) = None
redirected words (Some (ServeImport number)) = None
redirected words (Some CrossSlot) = None
redirected words (Some Down) = None
redirected words (Some (TryAgain reason)) = None
redirected words (Some (Moved slot to)) = None
redirected words None = None

abbrev pub redirection_in : Option Answered → Option Redirection
redirection_in None = None
redirection_in (Some answered) = redirected answered.words (decision_in answered.answer.why)

-- the requests that were answered ASK
abbrev pub redirections : List Entry → List Redirection
redirections entries = filter_map (λ (entry : Entry). redirection_in (answered entry.deed)) entries

-- ---- the asking rule

-- a request that is executed in a slot that comes to the node was answered ASK before, with this node and this move
abbrev pub WasRedirected : List Entry → ℕ → List (List ℕ) → Option Decision → Type 0
WasRedirected past node words (Some (ServeImport number)) = Contains (redirections past) (record { words = words; to = node; number = number })
WasRedirected past node words (Some Serve) = Unit {0}
WasRedirected past node words (Some CrossSlot) = Unit {0}
WasRedirected past node words (Some Down) = Unit {0}
WasRedirected past node words (Some (TryAgain reason)) = Unit {0}
WasRedirected past node words (Some (Ask slot to number)) = Unit {0}
WasRedirected past node words (Some (Moved slot to)) = Unit {0}
WasRedirected past node words None = Unit {0}

abbrev pub MayAsk : List Entry → ℕ → Option Answered → Type 0
MayAsk past node None = Unit {0}
MayAsk past node (Some answered) = WasRedirected past node answered.words (decision_in answered.answer.why)

-- clients of these further entries keep to that
abbrev pub KeepsAsking : List Entry → List Entry → Type 0
KeepsAsking past [] = Unit {0}
KeepsAsking past (entry ∷ entries) = MayAsk past entry.node (answered entry.deed) × KeepsAsking (entry ∷ past) entries
