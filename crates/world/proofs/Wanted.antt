-- What a client wants once it was told something.
use Rattle.std.proofs.Common.{◌≡◌, ◌⊎◌, Bool, true, false, true≢false, cond, inl, inr, Option, None, Some, Err, List, ℕ, refl, ap, sym, subst, ◌∙◌}
use Rattle.std.specs.Prelude.{IsTrue, ⊤}
use Rattle.redirection.specs.declared.redirection.Redirection.{Redirection}
use Rattle.resp_values.specs.declared.reply.Reply.{Reply}
use Rattle.smart_client.specs.State.{ClientState}
use Rattle.smart_client.specs.Step.{Answer, Follows, MayCome, Steps, Turn, broken, closes, connected, ended, loses, next, peer_at, takes_memory, uses_for, without_call}
use Rattle.smart_client.specs.Step.Turn.{Goes, Ends, Reads}
use Rattle.smart_client.specs.Words.{is_refused}
use Rattle.smart_client.specs.declared.action.Action.{Action}
use Rattle.smart_client.specs.declared.action.Action.TheVariants.{Done}
use Rattle.smart_client.specs.declared.action.Event.{Event}
use Rattle.smart_client.specs.declared.action.Event.TheVariants as happened
use Rattle.smart_client.specs.declared.call.Call.{Call}
use Rattle.smart_client.specs.declared.call.Stage.{Stage}
use Rattle.smart_client.specs.declared.call.Stage.TheVariants.{Connecting, Introducing, Asking, Sent}
use Rattle.smart_client.specs.declared.fault.ClientFault.TheVariants.{Memory}
use Rattle.world_nodes.specs.declared.link.Link.{Link}
use Rattle.world.specs.Calls.{CanDo, MayUse, told_of}
use Rattle.world.specs.Clients.{AwaitsConnection, AwaitsReply, fault_of}

-- ---- turns

-- whatever is read, what is wanted then may be
abbrev Wants : (Action → Type 0) → Turn → Type 0
Wants may (Goes client action) = may action
Wants may (Ends answer) = ⊤
Wants may (Reads text turn_by) = (redirection : Option Redirection) → Wants may (turn_by redirection)

wants_if : (may : Action → Type 0) (test : Bool) (one other : Turn) → Wants may one → Wants may other → Wants may (cond test one other)
wants_if may true one other = λ yes no. yes
wants_if may false one other = λ yes no. no

abbrev MayEnd : (Action → Type 0) → Type 0
MayEnd may = (answer : Answer) (close : Bool) → may (Done answer close)

wants_followed : (may : Action → Type 0) → MayEnd may → (made : Turn) (old new : ClientState) (action : Action) → Wants may made → Follows made old action new → may action
wants_followed may over (Goes client wanted) old new action may_be follows = subst may (sym follows.1) may_be
wants_followed may over (Ends answer) old new action may_be follows = subst may (sym follows.1) (over answer (closes answer))
wants_followed may over (Reads text turn_by) old new action may_be follows = wants_followed may over (turn_by follows.0) old new action (may_be follows.0) follows.2

wants_stepped : (may : Action → Type 0) → MayEnd may → (old new : ClientState) (event : Event) (action : Action) → Wants may (next old.call old event)
    → Steps old event action new → may action
wants_stepped may over old new event action may_be (inl follows) = wants_followed may over (next old.call old event) old new action may_be follows
wants_stepped may over old new event action may_be (inr refused) = wants_followed may over (Ends (Err Memory)) old new action tt refused.1

-- ---- whether there is a connection

uses_wants : (link : Link) (client : ClientState) (call : Call) (asking : Option ℕ) → Wants (MayUse (Some link)) (uses_for asking client call)
uses_wants link client call None = refl
uses_wants link client call (Some number) = refl

connected_wants : (link : Link) (client : ClientState) (call : Call) → Wants (MayUse (Some link)) (connected client call)
connected_wants link client call =
    wants_if (MayUse (Some link)) (peer_at client.peers call.to).is_connected _ _ (uses_wants link client call call.asking) refl

told_wants : (link : Option Link) (under : Option Call) (client : ClientState) → AwaitsConnection under → Wants (MayUse link) (next under client (told_of link))
told_wants link None client awaits = absurd awaits
told_wants None (Some call) client awaits = tt
told_wants (Some link) (Some call) client awaits = connected_wants link (record client { call = None }) call

may_end : (link : Option Link) → MayEnd (MayUse link)
may_end link answer close = tt

pub may_use : (old new : ClientState) (link : Option Link) (event : Event) (action : Action) → AwaitsConnection old.call → event ≡ told_of link
    → Steps old event action new → MayUse link action
may_use old new link event action awaits is steps =
    wants_stepped (MayUse link) (may_end link) old new event action
    (subst (λ (e : Event). Wants (MayUse link) (next old.call old e)) (sym is) (told_wants link old.call old awaits)) steps

-- such an event may come
told_comes : (link : Option Link) (under : Option Call) → AwaitsConnection under → MayCome under (told_of link)
told_comes link None awaits = absurd awaits
told_comes None (Some call) awaits = rw awaits tt
told_comes (Some link) (Some call) awaits = rw awaits tt

pub may_be_told : (under : Option Call) (link : Option Link) (event : Event) → AwaitsConnection under → event ≡ told_of link → MayCome under event
may_be_told under link event awaits is = subst (MayCome under) (sym is) (told_comes link under awaits)

-- ---- the beginning of a call

begun_wants : (client : ClientState) (words : List (List ℕ)) → Wants (CanDo None) (next None client (happened.Call words))
begun_wants client words = wants_if (CanDo None) (is_refused words) _ _ tt tt

pub may_begin : (old new : ClientState) (words : List (List ℕ)) (action : Action) → old.call ≡ None → Steps old (happened.Call words) action new → CanDo None action
may_begin old new words action none steps =
    wants_stepped (CanDo None) (λ answer close. tt) old new (happened.Call words) action
    (subst (λ (under : Option Call). Wants (CanDo None) (next under old (happened.Call words))) (sym none) (begun_wants old words)) steps

pub may_call : (under : Option Call) (words : List (List ℕ)) → under ≡ None → MayCome under (happened.Call words)
may_call under words none = rw none tt

-- ---- replies

waiting_gets : (stage : Stage) (reply : Reply) (call : Call) → call.stage ≡ stage → AwaitsReply (Some call) → MayCome (Some call) (happened.Reply reply)
waiting_gets Connecting reply call is awaits = absurd (awaits is)
waiting_gets Introducing reply call is awaits = rw is tt
waiting_gets Asking reply call is awaits = rw is tt
waiting_gets Sent reply call is awaits = rw is tt

pub may_be_replied : (under : Option Call) (reply : Reply) → AwaitsReply under → MayCome under (happened.Reply reply)
may_be_replied None reply awaits = absurd awaits
may_be_replied (Some call) reply awaits = waiting_gets call.stage reply call refl awaits

waiting_breaks : (stage : Stage) (call : Call) → call.stage ≡ stage → AwaitsReply (Some call) → MayCome (Some call) (happened.Broken true)
waiting_breaks Connecting call is awaits = absurd (awaits is)
waiting_breaks Introducing call is awaits = rw is tt
waiting_breaks Asking call is awaits = rw is tt
waiting_breaks Sent call is awaits = rw is tt

pub may_break : (under : Option Call) → AwaitsReply under → MayCome under (happened.Broken true)
may_break None awaits = absurd awaits
may_break (Some call) awaits = waiting_breaks call.stage call refl awaits

-- ---- a connection that breaks

-- the call is over
abbrev pub IsLostBy : Option Call → ClientState → Action → ClientState → Type 0
IsLostBy under old action new =
    (new ≡ without_call under old (loses (Err (fault_of under)))) × (action ≡ Done (Err (fault_of under)) (closes (Err (fault_of under))))

lost_so : (old new : ClientState) (action : Action) (under : Option Call) → old.call ≡ under → AwaitsReply under
    → Follows (next under old (happened.Broken true)) old action new ⊎ (IsTrue (takes_memory (next under old (happened.Broken true))) × Follows (Ends (Err Memory)) old action new)
    → IsLostBy under old action new
lost_so old new action None is awaits steps = absurd awaits
lost_so old new action (Some call) is awaits (inl follows) =
    (follows.0 ∙ ap (λ (under : Option Call). without_call under old (loses (Err (broken call.stage true)))) is, follows.1)
lost_so old new action (Some call) is awaits (inr refused) = absurd (true≢false (sym refused.0))

pub is_lost : (old new : ClientState) (action : Action) → AwaitsReply old.call → Steps old (happened.Broken true) action new
    → (new ≡ ended old (Err (fault_of old.call))) × (action ≡ Done (Err (fault_of old.call)) (closes (Err (fault_of old.call))))
is_lost old new action awaits steps = lost_so old new action old.call refl awaits steps
