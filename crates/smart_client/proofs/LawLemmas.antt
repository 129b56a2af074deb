-- A command is sent again only after the node refused it.
use Rattle.std.proofs.Common.{◌≡◌, ◌⊎◌, ◌++◌, ◌∷◌, ℕ, Bool, true, false, cond, inl, inr, List, [], Option, Some, None, Err, arith, refl, ap, sym, subst, ◌∙◌}
use Rattle.std.specs.Prelude.{IsTrue, ⊤}
use Rattle.resp_values.specs.declared.reply.Reply.{Reply}
use Rattle.resp_values.specs.declared.reply.Reply.TheVariants.{Simple, Error, Integer, Bulk, Null, Array}
use Rattle.smart_client.specs.Calls.{AreWithin, IsDone, IsRefusal, IsRun, IsWithin, Moment, SendsOnce, is_refusing}
use Rattle.smart_client.specs.ErrorKind.{kind_of}
use Rattle.smart_client.specs.State.{ClientState}
use Rattle.smart_client.specs.Step.{Answer, Follows, MayCome, MayComeTo, Steps, answered, begun, connects, failed, loses, next, replied, takes_memory, turn, without_call}
use Rattle.smart_client.specs.Step.Turn.{Ends}
use Rattle.smart_client.specs.Words.{asking_words, is_refused, numbered_words}
use Rattle.smart_client.specs.declared.action.Action.{Action}
use Rattle.smart_client.specs.declared.action.Action.TheVariants.{Connect, Send, Done}
use Rattle.smart_client.specs.declared.action.Event.{Event}
use Rattle.smart_client.specs.declared.action.Event.TheVariants as happened
use Rattle.smart_client.specs.declared.call.Call.{Call}
use Rattle.smart_client.specs.declared.call.Stage.{Stage}
use Rattle.smart_client.specs.declared.call.Stage.TheVariants.{Connecting, Introducing, Asking, Sent}
use Rattle.smart_client.specs.declared.error_kind.ErrorKind.{ErrorKind}
use Rattle.smart_client.specs.declared.error_kind.ErrorKind.TheVariants.{Redirection as Redirects, TryAgain, LastLine, Other}
use Rattle.smart_client.specs.declared.fault.ClientFault.TheVariants.{Memory, NotData}
use Rattle.smart_client.proofs.CallLemmas.{IsBounded, IsFor, Passes, passes}
use Rattle.smart_client.proofs.CallLemmas.Passes.{on, over}
use Rattle.smart_client.proofs.WaitLemmas.{fresh}

-- ---- a sending is one of the command

words_sent : Action → List (List ℕ)
words_sent (Connect address) = []
words_sent (Send words) = words
words_sent (Done answer close) = []

abbrev pub is_sending : Action → Type 0
is_sending (Connect address) = ⊥
is_sending (Send words) = ⊤
is_sending (Done answer close) = ⊥

sent_words : (one other : List (List ℕ)) → Send one ≡ Send other → one ≡ other
unfolding words_sent
sent_words one other same = ap words_sent same

-- a call that sends the words of its command waits for the reply to it
pub sends_it : (stage : Stage) (action : Action) (words : List (List ℕ)) → is_refused words ≡ false → IsFor stage action words → action ≡ Send words → stage ≡ Sent
sends_it Connecting action words plain asked is = absurd (subst is_sending (sym (sym asked.1 ∙ is)) tt)
sends_it Introducing action words plain asked is = absurd (differ (ap is_refused (sent_words _ _ (sym asked ∙ is)) ∙ plain))
  where
    differ : is_refused numbered_words ≡ false → ⊥
    differ same = cc
sends_it Asking action words plain asked is = absurd (differ (ap is_refused (sent_words _ _ (sym asked.1 ∙ is)) ∙ plain))
  where
    differ : is_refused (asking_words asked.0) ≡ false → ⊥
    differ same = cc
sends_it Sent action words plain asked is = refl

-- ---- what comes behind it

ends_done : (answer : Answer) (old new : ClientState) (action : Action) → Follows (Ends answer) old action new → IsDone action
ends_done answer old new action follows = rw follows.1 tt

failed_behind : (kind : ErrorKind) (client old new : ClientState) (call : Call) (text : List ℕ) (action : Action) → Follows (failed kind client call text) old action new → IsDone action ⊎ is_refusing kind
failed_behind Redirects client old new call text action follows = inr tt
failed_behind TryAgain client old new call text action follows = inr tt
failed_behind LastLine client old new call text action follows = inl (ends_done _ old new action follows)
failed_behind Other client old new call text action follows = inl (ends_done _ old new action follows)

behind_turn : (client old new : ClientState) (call : Call) (event : Event) (action : Action) → call.stage ≡ Sent → MayComeTo Sent event → Follows (turn client call event) old action new → IsDone action ⊎ IsRefusal event
behind_turn client old new call (happened.Call words) action is may follows = absurd may
behind_turn client old new call happened.Connected action is may follows = absurd may
behind_turn client old new call happened.NotConnected action is may follows = absurd may
behind_turn client old new call (happened.Reply reply) action is may follows = by_reply reply (subst (λ (stage : Stage). Follows (answered stage client call reply) old action new) is follows)
  where
    by_reply : (given : Reply) → Follows (replied client call given) old action new → IsDone action ⊎ IsRefusal (happened.Reply given)
    by_reply (Simple text) made = inl (ends_done _ old new action made)
    by_reply (Error text) made = failed_behind (kind_of text) client old new call text action made
    by_reply (Integer number) made = inl (ends_done _ old new action made)
    by_reply (Bulk bytes) made = inl (ends_done _ old new action made)
    by_reply Null made = inl (ends_done _ old new action made)
    by_reply (Array array) made = inl (ends_done _ old new action made)
behind_turn client old new call happened.BadReply action is may follows = inl (ends_done _ old new action follows)
behind_turn client old new call (happened.Broken handed) action is may follows = inl (ends_done _ old new action follows)
behind_turn client old new call (happened.NoMemory handed) action is may follows = inl (ends_done _ old new action follows)

pub behind : (old new : ClientState) (call : Call) (event : Event) (action : Action) → old.call ≡ Some call → call.stage ≡ Sent → MayCome old.call event → Steps old event action new → IsDone action ⊎ IsRefusal event
behind old new call event action under is may steps =
    go (subst (λ (c : Option Call). Follows (next c old event) old action new ⊎ (IsTrue (takes_memory (next c old event)) × Follows (Ends (Err Memory)) old action new)) under steps)
  where
    comes : MayComeTo Sent event
    comes = subst (λ (stage : Stage). MayComeTo stage event) is (subst (λ (c : Option Call). MayCome c event) under may)

    go : Follows (turn (record old { call = None }) call event) old action new ⊎ (IsTrue (takes_memory (turn (record old { call = None }) call event)) × Follows (Ends (Err Memory)) old action new) → IsDone action ⊎ IsRefusal event
    go (inl follows) = behind_turn (record old { call = None }) old new call event action is comes follows
    go (inr refused) = inl (ends_done _ old new action refused.1)

-- ---- within a call

-- a call of a command is under way, and this was wanted last; or it is over
pub data IsAt (words : List (List ℕ)) (limit : ℕ) (client : ClientState) (wanted : Action) : Type 0 where
  under : (call : Call) → client.call ≡ Some call → call.words ≡ words → client.limit ≡ limit → IsBounded limit call → IsFor call.stage wanted words → IsAt words limit client wanted
  past : client.call ≡ None → IsAt words limit client wanted

pub none_within : (event : Event) → MayCome None event → IsWithin event → ⊥
none_within (happened.Call words) may within = within
none_within happened.Connected may within = may
none_within happened.NotConnected may within = may
none_within (happened.Reply reply) may within = may
none_within happened.BadReply may within = may
none_within (happened.Broken handed) may within = may
none_within (happened.NoMemory handed) may within = may

-- a step within the call
pub stays : (words : List (List ℕ)) (limit : ℕ) (old new : ClientState) (event : Event) (wanted action : Action) → IsAt words limit old wanted → IsWithin event → MayCome old.call event → Steps old event action new → IsAt words limit new action
stays words limit old new event wanted action (past none) within may steps = absurd (none_within event (subst (λ (c : Option Call). MayCome c event) none may) within)
stays words limit old new event wanted action (under call is same of bounded asked) within may steps =
    go (passes old new call event action is (subst (λ (c : Option Call). MayCome c event) is may) (subst (λ (n : ℕ). IsBounded n call) (sym of) bounded) steps)
  where
    go : Passes old.limit call action new → IsAt words limit new action
    go (on next then_is advances limit_is) =
        under next then_is (advances.words ∙ same) (limit_is ∙ of) (subst (λ (n : ℕ). IsBounded n next) of advances.bounded) (subst (λ (ws : List (List ℕ)). IsFor next.stage action ws) same advances.asked)
    go (over done then_none limit_is) = past then_none

found : (words : List (List ℕ)) (limit : ℕ) (middle new : ClientState) (sending : Action) (later : Moment) → is_refused words ≡ false → IsAt words limit middle sending → IsWithin later.event
    → MayCome middle.call later.event → Steps middle later.event later.action new → sending ≡ Send words → IsDone later.action ⊎ IsRefusal later.event
found words limit middle new sending later plain (past none) within may steps is = absurd (none_within later.event (subst (λ (c : Option Call). MayCome c later.event) none may) within)
found words limit middle new sending later plain (under call call_is same of bounded asked) within may steps is =
    behind middle new call later.event later.action call_is (sends_it call.stage sending words plain asked is) may steps

inside : (words : List (List ℕ)) (limit : ℕ) (old new : ClientState) (wanted : Action) (before after : List Moment) (sending later : Moment) → is_refused words ≡ false → IsAt words limit old wanted
    → AreWithin (before ++ sending ∷ later ∷ after) → IsRun old (before ++ sending ∷ later ∷ after) new → sending.action ≡ Send words → IsDone later.action ⊎ IsRefusal later.event
inside words limit old new wanted [] after sending later plain at within run is =
    found words limit run.0 run.3.0 sending.action later plain (stays words limit old run.0 sending.event wanted sending.action at within.0 run.1 run.2) within.1.0 run.3.1 run.3.2 is
inside words limit old new wanted (moment ∷ before) after sending later plain at within run is =
    inside words limit run.0 new moment.action before after sending later plain (stays words limit old run.0 moment.event wanted moment.action at within.0 run.1 run.2) within.1 run.3 is

-- ---- from the beginning of the call

-- the step that begins it: the client goes to a node, or refuses the words
pub data Begins (words : List (List ℕ)) (old : ClientState) (action : Action) (new : ClientState) : Type 0 where
  connecting : is_refused words ≡ false → ¬ is_sending action → IsAt words old.limit new action → Begins words old action new
  refusing : IsDone action → new.call ≡ None → Begins words old action new

idle : (old new : ClientState) (answer : Answer) (words : List (List ℕ)) (action : Action) → old.call ≡ None → Follows (Ends answer) old action new → Begins words old action new
idle old new answer words action none follows =
    refusing (ends_done answer old new action follows)
    (ap (λ (client : ClientState). client.call) follows.0 ∙ ap (λ (c : Option Call). (without_call c old (loses answer)).call) none ∙ none)

begins_by : (refused : Bool) (words : List (List ℕ)) (old new : ClientState) (action : Action) → is_refused words ≡ refused → old.call ≡ None
    → Follows (cond refused (Ends (Err NotData)) (connects old (fresh old words))) old action new → Begins words old action new
begins_by true words old new action is none follows = idle old new (Err NotData) words action none follows
begins_by false words old new action is none follows =
    connecting is (λ (so : is_sending action). subst is_sending follows.1 so)
    (under (fresh old words) (ap (λ (client : ClientState). client.call) follows.0) refl (ap (λ (client : ClientState). client.limit) follows.0) (record { few = omega arith; within = omega arith }) (_, follows.1))

pub begins : (words : List (List ℕ)) (old new : ClientState) (event : Event) (action : Action) → event ≡ happened.Call words → MayCome old.call event → Steps old event action new → Begins words old action new
begins words old new event action is may steps =
    go old.call refl (subst (λ (e : Event). MayCome old.call e) is may) (subst (λ (e : Event). Steps old e action new) is steps)
  where
    go : (c : Option Call) → old.call ≡ c → MayCome old.call (happened.Call words) → Steps old (happened.Call words) action new → Begins words old action new
    go (Some call) under_way comes made = absurd (subst (λ (o : Option Call). MayCome o (happened.Call words)) under_way comes)
    go None none comes made =
        by (subst (λ (o : Option Call). Follows (next o old (happened.Call words)) old action new ⊎ (IsTrue (takes_memory (next o old (happened.Call words))) × Follows (Ends (Err Memory)) old action new)) none made)
      where
        by : Follows (begun old words) old action new ⊎ (IsTrue (takes_memory (begun old words)) × Follows (Ends (Err Memory)) old action new) → Begins words old action new
        by (inl follows) = begins_by (is_refused words) words old new action refl none follows
        by (inr refused) = idle old new (Err Memory) words action none refused.1

nothing_behind : (old new : ClientState) (before after : List Moment) (sending later : Moment) → old.call ≡ None → AreWithin (before ++ sending ∷ later ∷ after) → IsRun old (before ++ sending ∷ later ∷ after) new → ⊥
nothing_behind old new [] after sending later none within run = none_within sending.event (subst (λ (c : Option Call). MayCome c sending.event) none run.1) within.0
nothing_behind old new (moment ∷ before) after sending later none within run = none_within moment.event (subst (λ (c : Option Call). MayCome c moment.event) none run.1) within.0

pub sends_once : SendsOnce
sends_once words old new [] after sending later call is =
    go (begins words old call.2.0 sending.event sending.action call.0 call.2.1 call.2.2)
  where
    go : Begins words old sending.action call.2.0 → IsDone later.action ⊎ IsRefusal later.event
    go (connecting plain silent at) = absurd (silent (subst is_sending (sym is) tt))
    go (refusing done none) = absurd (subst IsDone is done)
sends_once words old new (moment ∷ before) after sending later call is =
    go (begins words old call.2.0 moment.event moment.action call.0 call.2.1 call.2.2)
  where
    go : Begins words old moment.action call.2.0 → IsDone later.action ⊎ IsRefusal later.event
    go (connecting plain silent at) = inside words old.limit call.2.0 new moment.action before after sending later plain at call.1 call.2.3 is
    go (refusing done none) = absurd (nothing_behind call.2.0 new before after sending later none call.1 call.2.3)
