-- How a call goes on, or ends, by what became of its command.
use Rattle.std.proofs.Common.{◌≡◌, ◌==◌, ◌+◌, ◌∙◌, ℕ, Bool, true, false, true≢false, cond, List, Option, None, Some, Ok, Err, refl, sym, ap, subst, inl, inr}
use Rattle.std.proofs.lemmas.Bool.{cases_Bool, or_parts}
use Rattle.std.specs.Prelude.{IsTrue}
use Rattle.redirection.specs.Address.{Place}
use Rattle.redirection.specs.declared.redirection.Redirection.{Redirection}
use Rattle.redirection.specs.declared.redirection.Redirection.TheVariants.{Moved, Ask}
use Rattle.reply_meaning.proofs.Clients.{goes_on}
use Rattle.reply_meaning.proofs.RefusalKinds.{other_so}
use Rattle.reply_meaning.specs.Refusal.{begins_so, is_of_no_command, is_refusal}
use Rattle.resp_values.specs.declared.reply.Reply.{Reply}
use Rattle.resp_values.specs.declared.reply.Reply.TheVariants.{Simple, Error, Integer, Bulk, Null, Array}
use Rattle.smart_client.proofs.TurnCases.{failed_so}
use Rattle.smart_client.specs.ErrorKind.{kind_of}
use Rattle.smart_client.specs.State.{ClientState}
use Rattle.smart_client.specs.Step.{Answer, Steps, Tells, Turn, again, allowed, answered, begun, closes, connected, ended, failed, follows, introduced, is_beyond, is_last_line, is_ok, loses, next, peer_at, place_of, redirected, replied, takes_memory, unwelcome, uses, uses_for, with_address, with_connected, with_owner, without_call}
use Rattle.smart_client.specs.Step as client
use Rattle.smart_client.specs.Step.Turn.{Goes, Ends, Reads}
use Rattle.smart_client.specs.Words.{is_refused, place_for}
use Rattle.smart_client.specs.declared.action.Action.{Action}
use Rattle.smart_client.specs.declared.action.Action.TheVariants.{Connect, Send, Done}
use Rattle.smart_client.specs.declared.action.Event.{Event}
use Rattle.smart_client.specs.declared.action.Event.TheVariants as happened
use Rattle.smart_client.specs.declared.call.Call.{Call}
use Rattle.smart_client.specs.declared.call.Stage.{Stage}
use Rattle.smart_client.specs.declared.call.Stage.TheVariants as stage
use Rattle.smart_client.specs.declared.client_core.TheConstants.{MOST_REDIRECTIONS}
use Rattle.smart_client.specs.declared.fault.ClientFault.TheVariants.{Memory, NotData, NotConnected, BadReply, TooManyRedirects, StillTryAgain}
use Rattle.final_answers.specs.Book as book

-- what a reply tells of the execution
abbrev pub told_by : Reply → Option Reply
told_by reply = cond (is_refusal reply) None (Some reply)

-- what became of the command while the call waits for the reply to what it sent last
abbrev pub execution_at : Stage → Reply → Option Reply
execution_at stage.Sent reply = told_by reply
execution_at stage.Connecting reply = None
execution_at stage.Introducing reply = None
execution_at stage.Asking reply = None

-- the call has these words
abbrev pub IsCalling : List (List ℕ) → ClientState → Type 0
IsCalling words core = (call : Call) × (core.call ≡ Some call) × (call.words ≡ words)

-- a refusal is the last line of a connection, or begins a call again
last_is_refusal : (reply : Reply) → is_last_line reply ≡ true → is_refusal reply ≡ true
last_is_refusal reply last = goes_on reply (inr last)

module _ (words : List (List ℕ)) (execution : Option Reply) where
  -- nothing was executed where the call goes on; where it ends, its answer tells what was
  abbrev pub MayWant : ClientState → Action → Type 0
  MayWant core (Connect address) = IsCalling words core × (execution ≡ None)
  MayWant core (Send sent) = IsCalling words core × (execution ≡ None)
  MayWant core (Done answer close) = (core.call ≡ None) × book.Tells execution answer

  abbrev TurnsTo : Turn → Type 0
  TurnsTo (Goes core action) = MayWant core action
  TurnsTo (Ends answer) = book.Tells execution answer
  TurnsTo (Reads text turn_by) = (redirection : Option Redirection) → Tells text redirection → TurnsTo (turn_by redirection)

  -- nor was anything where memory may be refused
  abbrev IsFine : Turn → Type 0
  IsFine made = TurnsTo made × (IsTrue (takes_memory made) → execution ≡ None)

  none_called : (core : ClientState) (under : Option Call) (lost : Bool) → core.call ≡ under → (without_call under core lost).call ≡ None
  none_called core None lost is = is
  none_called core (Some call) lost is = refl

  followed : (old new : ClientState) (action : Action) (made : Turn) → TurnsTo made → client.Follows made old action new → MayWant new action
  followed old new action (Goes core wanted) may follows = subst (λ (c : ClientState). MayWant c action) (sym follows.0) (subst (MayWant core) (sym follows.1) may)
  followed old new action (Ends answer) tells follows =
      subst (λ (c : ClientState). MayWant c action) (sym follows.0)
      (subst (MayWant (ended old answer)) (sym follows.1) (none_called old old.call (loses answer) refl, tells))
  followed old new action (Reads text turn_by) reads follows = followed old new action (turn_by follows.0) (reads follows.0 follows.1) follows.2

  stepped : (old new : ClientState) (event : Event) (action : Action) → IsFine (next old.call old event) → Steps old event action new → MayWant new action
  stepped old new event action fine (inl follows) = followed old new action (next old.call old event) fine.0 follows
  stepped old new event action fine (inr refused) = followed old new action (Ends (Err Memory)) (fine.1 refused.0) refused.1

  fine_if : (test : Bool) (one other : Turn) → IsFine one → IsFine other → IsFine (cond test one other)
  fine_if true one other = λ first second. first
  fine_if false one other = λ first second. second

  fine_end : (answer : Answer) → book.Tells execution answer → IsFine (Ends answer)
  fine_end answer tells = (tells, λ takes. absurd (true≢false (sym takes)))

  connects_to : (core : ClientState) (call : Call) → call.words ≡ words → execution ≡ None → IsFine (client.connects core call)
  connects_to core call is nothing = (((record call { stage = stage.Connecting }, refl, is), nothing), λ takes. nothing)

  sends_to : (core : ClientState) (call : Call) → call.words ≡ words → execution ≡ None → IsFine (client.sends core call)
  sends_to core call is nothing = (((record call { stage = stage.Sent }, refl, is), nothing), λ takes. nothing)

  uses_to : (core : ClientState) (call : Call) → call.words ≡ words → execution ≡ None → IsFine (uses core call)
  uses_to core call is nothing = by_asked call.asking
    where
      by_asked : (asked : Option ℕ) → IsFine (uses_for asked core call)
      by_asked None = sends_to core call is nothing
      by_asked (Some number) = (((record call { stage = stage.Asking }, refl, is), nothing), λ takes. nothing)

  connected_to : (core : ClientState) (call : Call) → call.words ≡ words → execution ≡ None → IsFine (connected core call)
  connected_to core call is nothing =
      fine_if (peer_at core.peers call.to).is_connected _ _ (uses_to core call is nothing) (((record call { stage = stage.Introducing }, refl, is), nothing), λ takes. nothing)

  unwelcome_tells : (reply : Reply) → execution ≡ None → book.Tells execution (unwelcome reply)
  unwelcome_tells reply nothing = by_last (is_last_line reply) refl
    where
      by_last : (last : Bool) → is_last_line reply ≡ last → book.Tells execution (cond last (Ok reply) (Err BadReply))
      by_last true is = nothing ∙ sym (ap (λ (b : Bool). cond b None (Some reply)) (last_is_refusal reply is))
      by_last false is = nothing

  introduced_to : (core : ClientState) (call : Call) (reply : Reply) → call.words ≡ words → execution ≡ None → IsFine (introduced core call reply)
  introduced_to core call reply is nothing =
      fine_if (is_ok reply) _ _ (uses_to (record core { peers = with_connected core.peers call.to true }) call is nothing) (fine_end (unwelcome reply) (unwelcome_tells reply nothing))

  allowed_to : (core : ClientState) (call : Call) (reply : Reply) → call.words ≡ words → execution ≡ None → IsFine (allowed core call reply)
  allowed_to core call reply is nothing = fine_if (is_ok reply) _ _ (sends_to core call is nothing) (fine_end (unwelcome reply) (unwelcome_tells reply nothing))

  follows_to : (core : ClientState) (call : Call) (address : Place) (number : Option ℕ) → call.words ≡ words → execution ≡ None → IsFine (follows core call address number)
  follows_to core call address number is nothing =
      fine_if (is_beyond core.peers address) _ _ (fine_end (Err BadReply) nothing)
      (connects_to (record core { peers = with_address core.peers address }) (record call { to = place_of core.peers address; asking = number; redirections = call.redirections + 1 }) is nothing)

  redirected_to : (core : ClientState) (call : Call) (redirection : Option Redirection) → call.words ≡ words → execution ≡ None → TurnsTo (redirected core call redirection)
  redirected_to core call None is nothing = nothing
  redirected_to core call (Some (Moved slot to)) is nothing = (follows_to (with_owner core slot to) call to None is nothing).0
  redirected_to core call (Some (Ask slot to None)) is nothing = nothing
  redirected_to core call (Some (Ask slot to (Some number))) is nothing = (follows_to core call to (Some number) is nothing).0

  again_to : (core : ClientState) (call : Call) → call.words ≡ words → execution ≡ None → IsFine (again core call)
  again_to core call is nothing =
      fine_if (call.repeats == core.limit) _ _ (fine_end (Err StillTryAgain) nothing)
      (connects_to core (record call { to = place_for core call.words; asking = None; repeats = call.repeats + 1 }) is nothing)

  -- an error that is no refusal ends the call
  no_refusal_ends : (P : Turn → Type 0) (core : ClientState) (call : Call) (text : List ℕ) → begins_so text ≡ false → P (Ends (Ok (Error text))) → P (failed (kind_of text) core call text)
  no_refusal_ends P core call text is end = let kinds = other_so text is in rw (kinds.moved, kinds.ask, kinds.again, kinds.memory, kinds.number) end

  failed_to : (core : ClientState) (call : Call) (text : List ℕ) → call.words ≡ words → execution ≡ told_by (Error text) → IsFine (failed (kind_of text) core call text)
  failed_to core call text is told =
      elim (cases_Bool (is_refusal (Error text))) [
        | inl refuses ↦
            let nothing : execution ≡ None = told ∙ ap (λ (b : Bool). cond b None (Some (Error text))) refuses in
            failed_so IsFine core call text (fine_end (Ok (Error text)) told)
            (λ (on : is_last_line (Error text) ≡ false).
            fine_if (call.redirections == MOST_REDIRECTIONS) _ _ (fine_end (Err TooManyRedirects) nothing)
            ((λ (redirection : Option Redirection). λ (tells : Tells text redirection). redirected_to core call redirection is nothing), λ takes. nothing))
            (λ (on : is_last_line (Error text) ≡ false). again_to core call is nothing)
        | inr executed ↦ no_refusal_ends IsFine core call text (or_parts (begins_so text) (is_of_no_command text) executed).0 (fine_end (Ok (Error text)) told)
      ]

  replied_to : (core : ClientState) (call : Call) (reply : Reply) → call.words ≡ words → execution ≡ told_by reply → IsFine (replied core call reply)
  replied_to core call (Error text) is told = failed_to core call text is told
  replied_to core call (Simple text) is told = fine_end (Ok (Simple text)) told
  replied_to core call (Integer number) is told = fine_end (Ok (Integer number)) told
  replied_to core call (Bulk bytes) is told = fine_end (Ok (Bulk bytes)) told
  replied_to core call Null is told = fine_end (Ok Null) told
  replied_to core call (Array replies) is told = fine_end (Ok (Array replies)) told

  answered_to : (core : ClientState) (call : Call) (at : Stage) (reply : Reply) → call.words ≡ words → execution ≡ execution_at at reply → IsFine (answered at core call reply)
  answered_to core call stage.Connecting reply is told = fine_end (Err BadReply) told
  answered_to core call stage.Introducing reply is told = introduced_to core call reply is told
  answered_to core call stage.Asking reply is told = allowed_to core call reply is told
  answered_to core call stage.Sent reply is told = replied_to core call reply is told

  begun_to : (core : ClientState) → execution ≡ None → IsFine (begun core words)
  begun_to core nothing =
      fine_if (is_refused words) _ _ (fine_end (Err NotData) nothing)
      (connects_to core (record { words = words; to = place_for core words; asking = None; redirections = 0; repeats = 0; stage = stage.Connecting }) refl nothing)

  -- ---- what happens to a client

  pub calls_so : (old new : ClientState) (action : Action) → old.call ≡ None → execution ≡ None → Steps old (happened.Call words) action new → MayWant new action
  calls_so old new action none nothing steps =
      stepped old new (happened.Call words) action (subst (λ (under : Option Call). IsFine (next under old (happened.Call words))) (sym none) (begun_to old nothing)) steps

  pub connects_so : (old new : ClientState) (call : Call) (action : Action) → old.call ≡ Some call → call.words ≡ words → execution ≡ None → Steps old happened.Connected action new → MayWant new action
  connects_so old new call action is same nothing steps =
      stepped old new happened.Connected action
      (subst (λ (under : Option Call). IsFine (next under old happened.Connected)) (sym is) (connected_to (record old { call = None }) call same nothing)) steps

  pub fails_so : (old new : ClientState) (call : Call) (action : Action) → old.call ≡ Some call → execution ≡ None → Steps old happened.NotConnected action new → MayWant new action
  fails_so old new call action is nothing steps =
      stepped old new happened.NotConnected action
      (subst (λ (under : Option Call). IsFine (next under old happened.NotConnected)) (sym is) (fine_end (Err NotConnected) nothing)) steps

  pub answers_so : (old new : ClientState) (call : Call) (reply : Reply) (action : Action) → old.call ≡ Some call → call.words ≡ words → execution ≡ execution_at call.stage reply
      → Steps old (happened.Reply reply) action new → MayWant new action
  answers_so old new call reply action is same told steps =
      stepped old new (happened.Reply reply) action
      (subst (λ (under : Option Call). IsFine (next under old (happened.Reply reply))) (sym is) (answered_to (record old { call = None }) call call.stage reply same told)) steps
