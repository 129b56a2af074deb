-- From the turn that a call makes to the client's step.
use Rattle.std.proofs.Common.{◌≡◌, ◌⊎◌, false, inl, inr, Option, None, Some, Ok, Err, ap, sym, subst, ◌∙◌}
use Rattle.std.specs.Prelude.{IsTrue, if◌then◌else◌}
use Rattle.smart_client.specs.State.{ClientState}
use Rattle.smart_client.specs.Step.{Answer, Follows, Steps, Turn, closes, loses, next, takes_memory, turn, with_connected, without_call}
use Rattle.smart_client.specs.Step.Turn.{Goes, Ends, Reads}
use Rattle.smart_client.specs.Turns.{Does, Makes}
use Rattle.smart_client.specs.declared.action.Action.{Action}
use Rattle.smart_client.specs.declared.action.Action.TheVariants.{Done}
use Rattle.smart_client.specs.declared.action.Event.{Event}
use Rattle.smart_client.specs.declared.call.Call.{Call}
use Rattle.smart_client.specs.declared.ended.Ended.{Ended}
use Rattle.smart_client.specs.declared.fault.ClientFault.TheVariants.{Memory}

-- a turn by which the call goes on
goes_on : (made : Turn) (old begun new : ClientState) (action : Action) → Does made begun (Ok action) new → Follows made old action new
goes_on (Goes client done) old begun new action does = (does.1, does.0)
goes_on (Ends answer) old begun new action does = absurd does
goes_on (Reads text turn_by) old begun new action does = (does.0, does.1, goes_on (turn_by does.0) old begun new action does.2)

-- one by which it ends changes nothing itself
leaves : (made : Turn) (begun new : ClientState) (end : Ended) → Does made begun (Err end) new → new ≡ begun
leaves (Goes client done) begun new end does = absurd does
leaves (Ends answer) begun new end does = does.1
leaves (Reads text turn_by) begun new end does = leaves (turn_by does.0) begun new end does.2

pub left : (made : Turn) (begun new : ClientState) (end : Ended) → Makes made begun (Err end) new → new ≡ begun
left made begun new end (inl does) = leaves made begun new end does
left made begun new end (inr refused) = refused.1.1

-- the client without the call whose connection this was
abbrev closed : Call → ClientState → Answer → ClientState
closed call client answer = record client { call = None; peers = if loses answer then with_connected client.peers call.to false else client.peers }

ends : (made : Turn) (old begun after new : ClientState) (call : Call) (end : Ended) (action : Action) → old.call ≡ Some call → Does made begun (Err end) after → action ≡ Done end.answer (closes end.answer) → new ≡ closed call old end.answer
    → Follows made old action new
ends (Goes client done) old begun after new call end action under does is gone = absurd does
ends (Ends answer) old begun after new call end action under does is gone = (
  gone ∙ ap (closed call old) does.0 ∙ sym (ap (λ (c : Option Call). without_call c old (loses answer)) under),
  is ∙ ap (λ (a : Answer). Done a (closes a)) does.0,
)
ends (Reads text turn_by) old begun after new call end action under does is gone =
    (does.0, does.1, ends (turn_by does.0) old begun after new call end action under does.2 is gone)

-- ---- steps of a client with a call under way

stepped : (old : ClientState) (call : Call) (event : Event) (action : Action) (new : ClientState) → old.call ≡ Some call
    → Follows (turn (record old { call = None }) call event) old action new ⊎ (IsTrue (takes_memory (turn (record old { call = None }) call event)) × Follows (Ends (Err Memory)) old action new)
    → Steps old event action new
stepped old call event action new under so =
    subst (λ (c : Option Call). Follows (next c old event) old action new ⊎ (IsTrue (takes_memory (next c old event)) × Follows (Ends (Err Memory)) old action new)) (sym under) so

pub steps_on : (old begun : ClientState) (call : Call) (event : Event) (action : Action) (new : ClientState) → old.call ≡ Some call → begun ≡ record old { call = None }
    → Makes (turn begun call event) begun (Ok action) new → Steps old event action new
steps_on old begun call event action new under is makes =
    stepped old call event action new under (go (turn (record old { call = None }) call event) (subst (λ (b : ClientState). Makes (turn b call event) begun (Ok action) new) is makes))
  where
    go : (made : Turn) → Makes made begun (Ok action) new → Follows made old action new ⊎ (IsTrue (takes_memory made) × Follows (Ends (Err Memory)) old action new)
    go made (inl does) = inl (goes_on made old begun new action does)
    go made (inr refused) = absurd refused.1

pub steps_out : (old begun after : ClientState) (call : Call) (event : Event) (end : Ended) (action : Action) (new : ClientState) → old.call ≡ Some call → begun ≡ record old { call = None }
    → Makes (turn begun call event) begun (Err end) after → action ≡ Done end.answer (closes end.answer)
    → new ≡ record after { peers = if loses end.answer then with_connected after.peers call.to false else after.peers } → Steps old event action new
steps_out old begun after call event end action new under is makes done gone =
    stepped old call event action new under (go (turn (record old { call = None }) call event) (subst (λ (b : ClientState). Makes (turn b call event) begun (Err end) after) is makes))
  where
    same : new ≡ closed call old end.answer
    same = gone ∙ ap (λ (c : ClientState). record c { peers = if loses end.answer then with_connected c.peers call.to false else c.peers }) (left (turn begun call event) begun after end makes ∙ is)

    go : (made : Turn) → Makes made begun (Err end) after → Follows made old action new ⊎ (IsTrue (takes_memory made) × Follows (Ends (Err Memory)) old action new)
    go made (inl does) = inl (ends made old begun after new call end action under does done same)
    go made (inr refused) = inr (refused.0, ends (Ends (Err Memory)) old begun after new call end action under (refused.1.0, refused.1.1) done same)
