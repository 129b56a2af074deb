-- What a call waits for after a step.
use Rattle.std.proofs.Common.{◌≡◌, ◌⊎◌, ℕ, List, Bool, true, false, cond, inl, inr, Option, None, Some, Err, refl, ap, sym, subst, ◌∙◌}
use Rattle.std.specs.Prelude.{IsTrue, IfSome, ⊤}
use Rattle.smart_client.specs.Calls.{IsWaiting, Nears}
use Rattle.smart_client.specs.State.{ClientState}
use Rattle.smart_client.specs.Step.{Answer, Follows, MayCome, Steps, connects, next, takes_memory, without_call, loses}
use Rattle.smart_client.specs.Step.Turn.{Ends}
use Rattle.smart_client.specs.Words.{is_refused, place_for}
use Rattle.smart_client.specs.Turns.{IsCall, IsClient}
use Rattle.smart_client.specs.declared.action.Action.{Action}
use Rattle.smart_client.specs.declared.action.Action.TheVariants.{Connect, Send, Done}
use Rattle.smart_client.specs.declared.action.Event.{Event}
use Rattle.smart_client.specs.declared.action.Event.TheVariants as happened
use Rattle.smart_client.specs.declared.call.Call.{Call}
use Rattle.smart_client.specs.declared.call.Stage.{Stage}
use Rattle.smart_client.specs.declared.call.Stage.TheVariants.{Connecting, Introducing, Asking, Sent}
use Rattle.smart_client.specs.declared.fault.ClientFault.TheVariants.{Memory, NotData}
use Rattle.smart_client.proofs.CallLemmas.{IsFor, Passes, IsBounded, passes}
use Rattle.smart_client.proofs.CallLemmas.Passes.{on, over}

abbrev is_connecting : Stage → Type 0
is_connecting Connecting = ⊤
is_connecting _ = ⊥

apart : (stage other : Stage) → stage ≡ other → is_connecting other → is_connecting stage
apart stage other is so = subst is_connecting (sym is) so

waits_for : (stage : Stage) (action : Action) (words : List (List ℕ)) (call : Call) → call.stage ≡ stage → IsFor stage action words → IsWaiting action (Some call)
waits_for Connecting action words call is asked = rw asked.1 is
waits_for Introducing action words call is asked = rw asked (λ (other : call.stage ≡ Connecting). apart Introducing Connecting (sym is ∙ other) tt)
waits_for Asking action words call is asked = rw asked.1 (λ (other : call.stage ≡ Connecting). apart Asking Connecting (sym is ∙ other) tt)
waits_for Sent action words call is asked = rw asked (λ (other : call.stage ≡ Connecting). apart Sent Connecting (sym is ∙ other) tt)

pub waits_passed : (limit : ℕ) (call : Call) (action : Action) (new : ClientState) → Passes limit call action new → IsWaiting action new.call
waits_passed limit call action new (on next is advances same) = subst (λ (c : Option Call). IsWaiting action c) (sym is) (waits_for next.stage action call.words next refl advances.asked)
waits_passed limit call (Connect address) new (over done is same) = absurd done
waits_passed limit call (Send words) new (over done is same) = absurd done
waits_passed limit call (Done answer close) new (over done is same) = is

pub nears_passed : (limit : ℕ) (call : Call) (action : Action) (new : ClientState) → Passes limit call action new → Nears limit (Some call) new.call
nears_passed limit call action new (on next is advances same) = subst (λ (c : Option Call). Nears limit (Some call) c) (sym is) advances.less
nears_passed limit call action new (over done is same) = subst (λ (c : Option Call). Nears limit (Some call) c) (sym is) tt

-- ---- where a call begins

over_so : (client new : ClientState) (answer : Answer) (action : Action) → client.call ≡ None → Follows (Ends answer) client action new → IsWaiting action new.call
over_so client new answer action none follows =
    rw follows.1 (ap (λ (state : ClientState). state.call) follows.0 ∙ ap (λ (c : Option Call). (without_call c client (loses answer)).call) none ∙ none)

abbrev pub fresh : ClientState → List (List ℕ) → Call
fresh client words = record { words = words; to = place_for client words; asking = None; redirections = 0; repeats = 0; stage = Connecting }

begun_goes : (client new : ClientState) (words : List (List ℕ)) (action : Action) (refused : Bool) → client.call ≡ None
    → Follows (cond refused (Ends (Err NotData)) (connects client (fresh client words))) client action new → IsWaiting action new.call
begun_goes client new words action true none follows = over_so client new (Err NotData) action none follows
begun_goes client new words action false none follows = subst (λ (c : Option Call). IsWaiting action c) (sym (ap (λ (state : ClientState). state.call) follows.0)) (rw follows.1 refl)

pub waits_begun : (client new : ClientState) (event : Event) (action : Action) → client.call ≡ None → MayCome client.call event → Steps client event action new → IsWaiting action new.call
waits_begun client new event action none may steps =
    go event (subst (λ (c : Option Call). MayCome c event) none may) (subst (λ (c : Option Call). Follows (next c client event) client action new ⊎ (IsTrue (takes_memory (next c client event)) × Follows (Ends (Err Memory)) client action new)) none steps)
  where
    go : (e : Event) → MayCome None e → Follows (next None client e) client action new ⊎ (IsTrue (takes_memory (next None client e)) × Follows (Ends (Err Memory)) client action new) → IsWaiting action new.call
    go (happened.Call words) may (inl follows) = begun_goes client new words action (is_refused words) none follows
    go (happened.Call words) may (inr refused) = over_so client new (Err Memory) action none refused.1
    go happened.Connected may steps = absurd may
    go happened.NotConnected may steps = absurd may
    go (happened.Reply reply) may steps = absurd may
    go happened.BadReply may steps = absurd may
    go (happened.Broken handed) may steps = absurd may
    go (happened.NoMemory handed) may steps = absurd may

-- ---- where a call is under way

pub limit_passed : (limit : ℕ) (call : Call) (action : Action) (new : ClientState) → Passes limit call action new → new.limit ≡ limit
limit_passed limit call action new (on next is advances same) = same
limit_passed limit call action new (over done is same) = same

-- all that callers are told of a step
pub record Told (old : ClientState) (event : Event) (action : Action) (new : ClientState) : Type 0 where
  pub steps : Steps old event action new
  pub waits : IsWaiting action new.call
  pub nears : Nears old.limit old.call new.call
  pub limit : new.limit ≡ old.limit

bounded : (old : ClientState) (call : Call) → old.call ≡ Some call → IsClient old → IsBounded old.limit call
bounded old call under is =
    let within = subst (λ (c : Option Call). IfSome c (IsCall old)) under is.call in
    record { few = within.redirections; within = within.repeats }

pub told : (old : ClientState) (call : Call) (event : Event) (action : Action) (new : ClientState) → old.call ≡ Some call → IsClient old → MayCome old.call event → Steps old event action new → Told old event action new
told old call event action new under is may steps =
    let passed = passes old new call event action under (subst (λ (c : Option Call). MayCome c event) under may) (bounded old call under is) steps in
    record {
      steps = steps;
      waits = waits_passed old.limit call action new passed;
      nears = subst (λ (c : Option Call). Nears old.limit c new.call) (sym under) (nears_passed old.limit call action new passed);
      limit = limit_passed old.limit call action new passed;
    }
