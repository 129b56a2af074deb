-- How a call goes on: its words stay, what it waits for is what it asked for last, and it ends.
use Rattle.std.proofs.Common.{◌≡◌, ◌⊎◌, ◌<◌, ◌≤◌, ◌==◌, ℕ, Bool, true, false, cond, inl, inr, arith, List, Option, None, Some, Err, refl, ap, sym, subst, ◌∙◌}
use Rattle.std.specs.Prelude.{IsTrue}
use Rattle.std.proofs.lemmas.Bool.{eqb-false}
use Rattle.resp_values.specs.declared.reply.Reply.{Reply}
use Rattle.resp_values.specs.declared.reply.Reply.TheVariants.{Simple, Error, Integer, Bulk, Null, Array}
use Rattle.redirection.specs.Address.{Place}
use Rattle.redirection.specs.declared.redirection.Redirection.{Redirection}
use Rattle.redirection.specs.declared.redirection.Redirection.TheVariants.{Moved, Ask}
use Rattle.smart_client.specs.ErrorKind.{kind_of}
use Rattle.smart_client.specs.State.{ClientState}
use Rattle.smart_client.specs.Calls.{IsDone, left_of, rank}
use Rattle.smart_client.specs.Step.{Answer, Follows, MayComeTo, Steps, Turn, again, allowed, answered, closes, connected, failed, follows, introduced, is_beyond, is_ok, loses, next, peer_at, redirected, replied, sends, takes_memory, turn, uses_for, with_connected, with_owner, without_call}
use Rattle.smart_client.specs.Step.Turn.{Goes, Ends, Reads}
use Rattle.smart_client.specs.Words.{asking_words, numbered_words}
use Rattle.smart_client.specs.declared.action.Action.{Action}
use Rattle.smart_client.specs.declared.action.Action.TheVariants.{Connect, Send, Done}
use Rattle.smart_client.specs.declared.action.Event.{Event}
use Rattle.smart_client.specs.declared.action.Event.TheVariants as happened
use Rattle.smart_client.specs.declared.call.Call.{Call}
use Rattle.smart_client.specs.declared.call.Stage.{Stage}
use Rattle.smart_client.specs.declared.call.Stage.TheVariants.{Connecting, Introducing, Asking, Sent}
use Rattle.smart_client.specs.declared.client_core.TheConstants.{MOST_REDIRECTIONS}
use Rattle.smart_client.specs.declared.fault.ClientFault.TheVariants.{Memory}
use Rattle.smart_client.specs.declared.error_kind.ErrorKind.{ErrorKind}
use Rattle.smart_client.specs.declared.error_kind.ErrorKind.TheVariants.{Redirection as Redirects, TryAgain, LastLine, Other}

-- what was asked for where the call waits so
abbrev pub IsFor : Stage → Action → List (List ℕ) → Type 0
IsFor Connecting action words = (address : Place) × (action ≡ Connect address)
IsFor Introducing action words = action ≡ Send numbered_words
IsFor Asking action words = (number : ℕ) × (action ≡ Send (asking_words number))
IsFor Sent action words = action ≡ Send words

-- the counts of a call are within their limits
pub record IsBounded (limit : ℕ) (call : Call) : Type 0 where
  pub few : call.redirections ≤ MOST_REDIRECTIONS
  pub within : call.repeats ≤ limit

-- the call goes on
pub record Advances (limit : ℕ) (call next : Call) (action : Action) : Type 0 where
  pub words : next.words ≡ call.words
  pub asked : IsFor next.stage action call.words
  pub less : left_of limit next < left_of limit call
  pub bounded : IsBounded limit next

abbrev pub Leads : ℕ → Call → Turn → Type 0
Leads limit call (Goes client action) = (next : Call) × (client.call ≡ Some next) × Advances limit call next action × (client.limit ≡ limit)
Leads limit call (Ends answer) = Unit {0}
Leads limit call (Reads text turn_by) = (redirection : Option Redirection) → Leads limit call (turn_by redirection)

leads_if : (limit : ℕ) (call : Call) (b : Bool) (one other : Turn) → (b ≡ true → Leads limit call one) → (b ≡ false → Leads limit call other) → Leads limit call (cond b one other)
leads_if limit call true one other = λ yes no. yes refl
leads_if limit call false one other = λ yes no. no refl

sends_leads : (client : ClientState) (call : Call) → IsBounded client.limit call → 0 < rank call.stage → Leads client.limit call (sends client call)
sends_leads client call bounded later = (record call { stage = Sent }, refl, record { words = refl; asked = refl; less = omega (arith, later); bounded = record { few = bounded.few; within = bounded.within } }, refl)

uses_leads : (client : ClientState) (call : Call) (asking : Option ℕ) → IsBounded client.limit call → 1 < rank call.stage → Leads client.limit call (uses_for asking client call)
uses_leads client call None bounded later = sends_leads client call bounded (omega (arith, later))
uses_leads client call (Some number) bounded later =
    (record call { stage = Asking }, refl, record { words = refl; asked = (number, refl); less = omega (arith, later); bounded = record { few = bounded.few; within = bounded.within } }, refl)

connected_leads : (client : ClientState) (call : Call) → IsBounded client.limit call → 2 < rank call.stage → Leads client.limit call (connected client call)
connected_leads client call bounded later =
    leads_if client.limit call (peer_at client.peers call.to).is_connected _ _ (λ _. uses_leads client call call.asking bounded (omega (arith, later)))
    (λ _. (record call { stage = Introducing }, refl, record { words = refl; asked = refl; less = omega (arith, later); bounded = record { few = bounded.few; within = bounded.within } }, refl))

introduced_leads : (client : ClientState) (call : Call) (reply : Reply) → IsBounded client.limit call → 1 < rank call.stage → Leads client.limit call (introduced client call reply)
introduced_leads client call reply bounded later =
    leads_if client.limit call (is_ok reply) _ _ (λ _. uses_leads (record client { peers = with_connected client.peers call.to true }) call call.asking bounded later) (λ _. tt)

allowed_leads : (client : ClientState) (call : Call) (reply : Reply) → IsBounded client.limit call → 0 < rank call.stage → Leads client.limit call (allowed client call reply)
allowed_leads client call reply bounded later = leads_if client.limit call (is_ok reply) _ _ (λ _. sends_leads client call bounded later) (λ _. tt)

again_leads : (client : ClientState) (call : Call) → IsBounded client.limit call → Leads client.limit call (again client call)
again_leads client call bounded =
    leads_if client.limit call (call.repeats == client.limit) _ _ (λ _. tt)
    (λ other. let more : call.repeats < client.limit = omega (arith, bounded.within, eqb-false call.repeats client.limit other) in
    (_, refl, record { words = refl; asked = (_, refl); less = omega (arith, more); bounded = record { few = bounded.few; within = omega (arith, more) } }, refl))

follows_leads : (client : ClientState) (call : Call) (address : Place) (number : Option ℕ) → IsBounded client.limit call → call.redirections < MOST_REDIRECTIONS → Leads client.limit call (follows client call address number)
follows_leads client call address number bounded more =
    leads_if client.limit call (is_beyond client.peers address) _ _ (λ _. tt)
    (λ _. (_, refl, record { words = refl; asked = (_, refl); less = omega (arith, more); bounded = record { few = omega (arith, more); within = bounded.within } }, refl))

redirected_leads : (client : ClientState) (call : Call) (redirection : Option Redirection) → IsBounded client.limit call → call.redirections < MOST_REDIRECTIONS → Leads client.limit call (redirected client call redirection)
redirected_leads client call None bounded more = tt
redirected_leads client call (Some (Moved slot to)) bounded more = follows_leads (with_owner client slot to) call to None bounded more
redirected_leads client call (Some (Ask slot to None)) bounded more = tt
redirected_leads client call (Some (Ask slot to (Some number))) bounded more = follows_leads client call to (Some number) bounded more

failed_leads : (kind : ErrorKind) (client : ClientState) (call : Call) (text : List ℕ) → IsBounded client.limit call → Leads client.limit call (failed kind client call text)
failed_leads Redirects client call text bounded =
    leads_if client.limit call (call.redirections == MOST_REDIRECTIONS) _ _ (λ _. tt)
    (λ other redirection. redirected_leads client call redirection bounded (omega (arith, bounded.few, eqb-false call.redirections MOST_REDIRECTIONS other)))
failed_leads TryAgain client call text bounded = again_leads client call bounded
failed_leads LastLine client call text bounded = tt
failed_leads Other client call text bounded = tt

replied_leads : (client : ClientState) (call : Call) (reply : Reply) → IsBounded client.limit call → Leads client.limit call (replied client call reply)
replied_leads client call (Simple text) bounded = tt
replied_leads client call (Error text) bounded = failed_leads (kind_of text) client call text bounded
replied_leads client call (Integer number) bounded = tt
replied_leads client call (Bulk bytes) bounded = tt
replied_leads client call Null bounded = tt
replied_leads client call (Array array) bounded = tt

answered_leads : (stage : Stage) (client : ClientState) (call : Call) (reply : Reply) → call.stage ≡ stage → IsBounded client.limit call → Leads client.limit call (answered stage client call reply)
answered_leads Connecting client call reply is bounded = tt
answered_leads Introducing client call reply is bounded = introduced_leads client call reply bounded (rw is (omega arith))
answered_leads Asking client call reply is bounded = allowed_leads client call reply bounded (rw is (omega arith))
answered_leads Sent client call reply is bounded = replied_leads client call reply bounded

-- a connection comes to a call that waits for it
awaited : (stage : Stage) → MayComeTo stage happened.Connected → stage ≡ Connecting
awaited Connecting may = refl
awaited Introducing may = absurd may
awaited Asking may = absurd may
awaited Sent may = absurd may

turn_leads : (client : ClientState) (call : Call) (event : Event) → MayComeTo call.stage event → IsBounded client.limit call → Leads client.limit call (turn client call event)
turn_leads client call (happened.Call words) may bounded = tt
turn_leads client call happened.Connected may bounded = connected_leads client call bounded (rw (awaited call.stage may) (omega arith))
turn_leads client call happened.NotConnected may bounded = tt
turn_leads client call (happened.Reply reply) may bounded = answered_leads call.stage client call reply refl bounded
turn_leads client call happened.BadReply may bounded = tt
turn_leads client call (happened.Broken handed) may bounded = tt
turn_leads client call (happened.NoMemory handed) may bounded = tt

-- ---- steps

-- a step of a call that is under way: the call goes on, or it is over
pub data Passes (limit : ℕ) (call : Call) (action : Action) (new : ClientState) : Type 0 where
  on : (next : Call) → new.call ≡ Some next → Advances limit call next action → new.limit ≡ limit → Passes limit call action new
  over : IsDone action → new.call ≡ None → new.limit ≡ limit → Passes limit call action new

without : (old : ClientState) (call : Call) (lost : Bool) → old.call ≡ Some call → (without_call old.call old lost).call ≡ None
without old call lost under = rw under refl

same_limit : (under : Option Call) (old : ClientState) (lost : Bool) → (without_call under old lost).limit ≡ old.limit
same_limit None old lost = refl
same_limit (Some call) old lost = refl

is_done : (action : Action) (answer : Answer) (close : Bool) → action ≡ Done answer close → IsDone action
is_done action answer close is = rw is tt

ends_so : (call : Call) (old new : ClientState) (answer : Answer) (action : Action) → old.call ≡ Some call → Follows (Ends answer) old action new → Passes old.limit call action new
ends_so call old new answer action under follows =
    over (is_done action answer (closes answer) follows.1) (ap (λ (client : ClientState). client.call) follows.0 ∙ without old call (loses answer) under)
    (ap (λ (client : ClientState). client.limit) follows.0 ∙ same_limit old.call old (loses answer))

follows_so : (made : Turn) (call : Call) (old new : ClientState) (action : Action) → old.call ≡ Some call → Leads old.limit call made → Follows made old action new → Passes old.limit call action new
follows_so (Goes client done) call old new action under leads follows =
    on leads.0 (ap (λ (state : ClientState). state.call) follows.0 ∙ leads.1) (subst (λ (a : Action). Advances old.limit call leads.0 a) (sym follows.1) leads.2) (ap (λ (state : ClientState). state.limit) follows.0 ∙ leads.3)
follows_so (Ends answer) call old new action under leads follows = ends_so call old new answer action under follows
follows_so (Reads text turn_by) call old new action under leads follows = follows_so (turn_by follows.0) call old new action under (leads follows.0) follows.2

pub passes : (old new : ClientState) (call : Call) (event : Event) (action : Action) → old.call ≡ Some call → MayComeTo call.stage event → IsBounded old.limit call → Steps old event action new → Passes old.limit call action new
passes old new call event action under may bounded steps =
    go (subst (λ (c : Option Call). Follows (next c old event) old action new ⊎ (IsTrue (takes_memory (next c old event)) × Follows (Ends (Err Memory)) old action new)) under steps)
  where
    go : Follows (turn (record old { call = None }) call event) old action new ⊎ (IsTrue (takes_memory (turn (record old { call = None }) call event)) × Follows (Ends (Err Memory)) old action new) → Passes old.limit call action new
    go (inl follows) = follows_so (turn (record old { call = None }) call event) call old new action under (turn_leads (record old { call = None }) call event may bounded) follows
    go (inr refused) = ends_so call old new (Err Memory) action under refused.1
