-- How a turn ends.
use Rattle.std.proofs.Common.{◌≡◌, ◌==◌, ℕ, Bool, true, false, cond, List, Option, Some, None, Ok, Err, refl, ap, sym, subst, ◌∙◌}
use Rattle.resp_values.specs.declared.reply.Reply.{Reply}
use Rattle.resp_values.specs.declared.reply.Reply.TheVariants.{Simple, Error, Integer, Bulk, Null, Array}
use Rattle.redirection.specs.Address.{Place}
use Rattle.redirection.specs.declared.redirection.Redirection.{Redirection}
use Rattle.redirection.specs.declared.redirection.Redirection.TheVariants.{Moved, Ask}
use Rattle.smart_client.specs.Calls.{IsDone, IsRefusal, is_refusing}
use Rattle.smart_client.specs.ErrorKind.{kind_of}
use Rattle.smart_client.specs.State.{ClientState}
use Rattle.smart_client.specs.Step.{Answer, Follows, Turn, answered, begun, closes, connected, failed, follows, is_beyond, is_last_line, is_ok, peer_at, redirected, replied, uses_for, with_connected, with_owner}
use Rattle.smart_client.specs.Step.Turn.{Goes, Ends, Reads}
use Rattle.smart_client.specs.Words.{is_refused}
use Rattle.smart_client.specs.declared.action.Action.TheVariants.{Done}
use Rattle.smart_client.specs.declared.action.Event.TheVariants as happened
use Rattle.smart_client.specs.declared.call.Call.{Call}
use Rattle.smart_client.specs.declared.call.Stage.{Stage}
use Rattle.smart_client.specs.declared.call.Stage.TheVariants.{Connecting, Introducing, Asking, Sent}
use Rattle.smart_client.specs.declared.client_core.TheConstants.{MOST_REDIRECTIONS}
use Rattle.smart_client.specs.declared.error_kind.ErrorKind.{ErrorKind}
use Rattle.smart_client.specs.declared.error_kind.ErrorKind.TheVariants.{Redirection as Redirects, TryAgain, LastLine, Other}
use Rattle.smart_client.specs.declared.fault.ClientFault.TheVariants as fault

pub same_answer : (answer other : Answer) (close closes : Bool) → Done answer close ≡ Done other closes → answer ≡ other
same_answer answer other close closes same = cc

pub same_close : (answer other : Answer) (close : Bool) → Done answer close ≡ Done other (closes other) → close ≡ closes answer
same_close answer other close same = flag ∙ ap closes (sym (same_answer answer other close (closes other) same))
  where
    flag : close ≡ closes other
    flag = cc

-- this holds of each answer with which a turn ends
module _ (P : Answer → Type 0) where
  abbrev pub EndsIn : Turn → Type 0
  EndsIn (Goes client action) = IsDone action → ⊥
  EndsIn (Ends answer) = P answer
  EndsIn (Reads text turn_by) = (found : Option Redirection) → EndsIn (turn_by found)

  -- and so of the answer that is given
  pub given : (made : Turn) (old new : ClientState) (answer : Answer) (close : Bool) → EndsIn made → Follows made old (Done answer close) new → P answer
  given (Goes client action) old new answer close is made = absurd (is (subst IsDone made.1 tt))
  given (Ends other) old new answer close is made = subst P (sym (same_answer answer other close _ made.1)) is
  given (Reads text turn_by) old new answer close is made = given (turn_by made.0) old new answer close (is made.0) made.2

  -- with which the connection in use is closed, or isn't
  pub shuts : (made : Turn) (old new : ClientState) (answer : Answer) (close : Bool) → EndsIn made → Follows made old (Done answer close) new → close ≡ closes answer
  shuts (Goes client action) old new answer close is made = absurd (is (subst IsDone made.1 tt))
  shuts (Ends other) old new answer close is made = same_close answer other close made.1
  shuts (Reads text turn_by) old new answer close is made = shuts (turn_by made.0) old new answer close (is made.0) made.2

  either : (b : Bool) (one other : Turn) → (b ≡ true → EndsIn one) → EndsIn other → EndsIn (cond b one other)
  either true one other is is_other = is refl
  either false one other is is_other = is_other

  used_so : (client : ClientState) (call : Call) (number : Option ℕ) → EndsIn (uses_for number client call)
  used_so client call None = λ done. done
  used_so client call (Some number) = λ done. done

  pub connected_so : (client : ClientState) (call : Call) → EndsIn (connected client call)
  connected_so client call = either (peer_at client.peers call.to).is_connected _ _ (λ _. used_so client call call.asking) (λ done. done)

  pub begun_so : (client : ClientState) (words : List (List ℕ)) → (is_refused words ≡ true → P (Err fault.NotData)) → EndsIn (begun client words)
  begun_so client words refused = either (is_refused words) _ _ refused (λ done. done)

  -- the answers behind a reply
  module _ (reply : Reply) (gives : P (Ok reply)) (bad : P (Err fault.BadReply)) (many : IsRefusal (happened.Reply reply) → P (Err fault.TooManyRedirects))
      (still : IsRefusal (happened.Reply reply) → P (Err fault.StillTryAgain)) where
    follows_so : (client : ClientState) (call : Call) (address : Place) (number : Option ℕ) → EndsIn (follows client call address number)
    follows_so client call address number = either (is_beyond client.peers address) _ _ (λ _. bad) (λ done. done)

    redirected_so : (client : ClientState) (call : Call) (found : Option Redirection) → EndsIn (redirected client call found)
    redirected_so client call None = bad
    redirected_so client call (Some (Moved slot to)) = follows_so (with_owner client slot to) call to None
    redirected_so client call (Some (Ask slot to None)) = bad
    redirected_so client call (Some (Ask slot to (Some number))) = follows_so client call to (Some number)

    unwelcome_so : (is_last : Bool) → EndsIn (Ends (cond is_last (Ok reply) (Err fault.BadReply)))
    unwelcome_so true = gives
    unwelcome_so false = bad

    failed_so : (kind : ErrorKind) (client : ClientState) (call : Call) (text : List ℕ) → reply ≡ Error text → (is_refusing kind → IsRefusal (happened.Reply reply)) → EndsIn (failed kind client call text)
    failed_so Redirects client call text is refuses = either (call.redirections == MOST_REDIRECTIONS) _ _ (λ _. many (refuses tt)) (redirected_so client call)
    failed_so TryAgain client call text is refuses = either (call.repeats == client.limit) _ _ (λ _. still (refuses tt)) (λ done. done)
    failed_so LastLine client call text is refuses = subst (λ (r : Reply). P (Ok r)) is gives
    failed_so Other client call text is refuses = subst (λ (r : Reply). P (Ok r)) is gives

    replied_so : (other : Reply) (client : ClientState) (call : Call) → reply ≡ other → EndsIn (replied client call other)
    replied_so (Error text) client call is = failed_so (kind_of text) client call text is (λ refusing. subst (λ (r : Reply). IsRefusal (happened.Reply r)) (sym is) refusing)
    replied_so (Simple text) client call is = subst (λ (r : Reply). P (Ok r)) is gives
    replied_so (Integer number) client call is = subst (λ (r : Reply). P (Ok r)) is gives
    replied_so (Bulk bytes) client call is = subst (λ (r : Reply). P (Ok r)) is gives
    replied_so Null client call is = subst (λ (r : Reply). P (Ok r)) is gives
    replied_so (Array array) client call is = subst (λ (r : Reply). P (Ok r)) is gives

    pub answered_so : (stage : Stage) (client : ClientState) (call : Call) → EndsIn (answered stage client call reply)
    answered_so Connecting client call = bad
    answered_so Introducing client call =
        either (is_ok reply) _ _ (λ _. used_so (record client { peers = with_connected client.peers call.to true }) call call.asking) (unwelcome_so (is_last_line reply))
    answered_so Asking client call = either (is_ok reply) _ _ (λ _. λ done. done) (unwelcome_so (is_last_line reply))
    answered_so Sent client call = replied_so reply client call refl
