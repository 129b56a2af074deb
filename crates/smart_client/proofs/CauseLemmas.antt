-- Why calls give faults.
use Rattle.std.proofs.Common.{◌≡◌, ◌⊎◌, ◌++◌, ◌∷◌, ◌==◌, ◌&&◌, ℕ, Bool, true, false, cond, inl, inr, List, [], length, Option, Some, None, Ok, Err, MatchBool, refl, ap, sym, subst, ◌∙◌, append-nil}
use Rattle.std.specs.Prelude.{IsTrue, ⊤, option_to_list, slice_get}
use Rattle.std.proofs.lemmas.List.Elements.{All-nil, All-cons, All-push}
use Rattle.exchange.specs.Exchange.{Exchanges, HasFailed}
use Rattle.exchange.specs.declared.outcome.Outcome.{Outcome}
use Rattle.exchange.specs.declared.outcome.Outcome.TheVariants as outcome
use Rattle.resp_values.specs.declared.reply.Reply.{Reply}
use Rattle.resp_values.specs.declared.reply.Reply.TheVariants.{Simple, Error, Integer, Bulk, Null, Array}
use Rattle.redirection.specs.Address.{Place}
use Rattle.smart_client.specs.Calls.{AreWithin, ClientView, Deed, IsCallOf, IsDone, IsRefusal, IsRun, IsWithin, WiresMove, is_begun, is_refusing, moments_of, pool_behind, wires_closed_if}
use Rattle.smart_client.specs.Causes.{AreSettled, EndsSettled, FaultsHaveCauses, HasCause, HasNoEffect, IsCutBefore, IsLost, IsSettled, MissedLast, SentLast}
use Rattle.smart_client.specs.ErrorKind.{kind_of}
use Rattle.smart_client.specs.Pool.{Pool, closed, is_lost, place_in, pool_after, with_new}
use Rattle.smart_client.specs.State.{ClientState}
use Rattle.smart_client.specs.Step.{Answer, Follows, MayCome, MayComeTo, Steps, answered, begun, broken, closes, failed, next, replied, takes_memory, turn, without_memory}
use Rattle.smart_client.specs.Step.Turn.{Ends}
use Rattle.smart_client.specs.Wires.{Channel, Joins, Moves, Uses, UsesAt, Wires, event_of, wires_without, with_channel}
use Rattle.smart_client.specs.Words.{asking_words, is_refused, numbered_words}
use Rattle.smart_client.specs.declared.action.Action.{Action}
use Rattle.smart_client.specs.declared.action.Action.TheVariants.{Connect, Send, Done}
use Rattle.smart_client.specs.declared.action.Event.{Event}
use Rattle.smart_client.specs.declared.action.Event.TheVariants as happened
use Rattle.smart_client.specs.declared.call.Call.{Call}
use Rattle.smart_client.specs.declared.call.Stage.{Stage}
use Rattle.smart_client.specs.declared.call.Stage.TheVariants.{Connecting, Introducing, Asking, Sent}
use Rattle.smart_client.specs.declared.error_kind.ErrorKind.{ErrorKind}
use Rattle.smart_client.specs.declared.error_kind.ErrorKind.TheVariants.{Redirection as Redirects, TryAgain, LastLine, Other}
use Rattle.smart_client.specs.declared.fault.ClientFault.{ClientFault}
use Rattle.smart_client.specs.declared.fault.ClientFault.TheVariants as fault
use Rattle.smart_client.proofs.CallLemmas.{IsFor}
use Rattle.smart_client.proofs.ClientLemmas.{pool_on}
use Rattle.smart_client.proofs.PoolLemmas.{set_there}
use Rattle.smart_client.proofs.EndLemmas.{EndsIn, answered_so, begun_so, connected_so, given, same_answer, same_close, shuts}
use Rattle.smart_client.proofs.LawLemmas.{Begins, IsAt, begins, behind, is_sending, none_within, sends_it, stays}
use Rattle.smart_client.proofs.LawLemmas.Begins.{connecting, refusing}
use Rattle.smart_client.proofs.LawLemmas.IsAt.{under, past}

is_false : IsTrue false → ⊥
is_false so = cc

-- ---- the event behind which an answer is given

-- the command is open behind it, once it was sent
abbrev IsOpen : Event → Type 0
IsOpen (happened.Broken handed) = handed ≡ true
IsOpen (happened.NoMemory handed) = handed ≡ true
IsOpen _ = ⊥

-- it comes before a byte of the command went out
abbrev IsCut : Stage → Event → Type 0
IsCut stage happened.NotConnected = ⊤
IsCut stage (happened.Broken handed) = broken stage handed ≡ fault.NotConnected
IsCut stage _ = ⊥

abbrev IsAnswer : Event → Type 0
IsAnswer (happened.Reply reply) = ⊤
IsAnswer happened.BadReply = ⊤
IsAnswer _ = ⊥

-- the answer is given behind this event to a call that waits so
abbrev Fits : Stage → Event → Answer → Type 0
Fits stage event (Ok reply) = ⊤
Fits stage event (Err fault.Lost) = (stage ≡ Sent) × IsOpen event
Fits stage event (Err fault.TooManyRedirects) = IsRefusal event
Fits stage event (Err fault.StillTryAgain) = IsRefusal event
Fits stage event (Err fault.Memory) = stage ≡ Sent → HasNoEffect event
Fits stage event (Err fault.NotConnected) = IsCut stage event
Fits stage event (Err fault.BadReply) = IsAnswer event
Fits stage event (Err fault.NotData) = ⊥

broken_fits : (stage : Stage) (handed : Bool) → Fits stage (happened.Broken handed) (Err (broken stage handed))
broken_fits Connecting handed = refl
broken_fits Introducing handed = refl
broken_fits Asking handed = refl
broken_fits Sent true = (refl, refl)
broken_fits Sent false = refl

short_fits : (stage : Stage) (handed : Bool) → Fits stage (happened.NoMemory handed) (Err (without_memory stage handed))
short_fits Connecting handed = λ is. cc
short_fits Introducing handed = λ is. cc
short_fits Asking handed = λ is. cc
short_fits Sent true = (refl, refl)
short_fits Sent false = λ is. inr refl

turn_fits : (client : ClientState) (call : Call) (event : Event) → MayComeTo call.stage event → EndsIn (Fits call.stage event) (turn client call event)
turn_fits client call (happened.Call words) may = absurd may
turn_fits client call happened.Connected may = connected_so (Fits call.stage happened.Connected) client call
turn_fits client call happened.NotConnected may = tt
turn_fits client call (happened.Reply reply) may = answered_so (Fits call.stage (happened.Reply reply)) reply tt tt (λ refusal. refusal) (λ refusal. refusal) call.stage client call
turn_fits client call happened.BadReply may = tt
turn_fits client call (happened.Broken handed) may = broken_fits call.stage handed
turn_fits client call (happened.NoMemory handed) may = short_fits call.stage handed

-- memory is taken behind a reply to the command where that refuses it
taken_by : (kind : ErrorKind) (client : ClientState) (call : Call) (text : List ℕ) → IsTrue (takes_memory (failed kind client call text)) → is_refusing kind
taken_by Redirects client call text takes = tt
taken_by TryAgain client call text takes = tt
taken_by LastLine client call text takes = absurd (is_false takes)
taken_by Other client call text takes = absurd (is_false takes)

taken_behind : (reply : Reply) (client : ClientState) (call : Call) → IsTrue (takes_memory (replied client call reply)) → IsRefusal (happened.Reply reply)
taken_behind (Simple text) client call takes = absurd (is_false takes)
taken_behind (Error text) client call takes = taken_by (kind_of text) client call text takes
taken_behind (Integer number) client call takes = absurd (is_false takes)
taken_behind (Bulk bytes) client call takes = absurd (is_false takes)
taken_behind Null client call takes = absurd (is_false takes)
taken_behind (Array array) client call takes = absurd (is_false takes)

taken : (client : ClientState) (call : Call) (event : Event) → MayComeTo Sent event → IsTrue (takes_memory (turn client call event)) → call.stage ≡ Sent → IsRefusal event
taken client call (happened.Call words) may takes is = absurd may
taken client call happened.Connected may takes is = absurd may
taken client call happened.NotConnected may takes is = absurd may
taken client call (happened.Reply reply) may takes is = taken_behind reply client call (subst (λ (stage : Stage). IsTrue (takes_memory (answered stage client call reply))) is takes)
taken client call happened.BadReply may takes is = absurd (is_false takes)
taken client call (happened.Broken handed) may takes is = absurd (is_false takes)
taken client call (happened.NoMemory handed) may takes is = absurd (is_false takes)

fits : (old new : ClientState) (call : Call) (event : Event) (answer : Answer) (close : Bool) → old.call ≡ Some call → MayComeTo call.stage event → Steps old event (Done answer close) new
    → Fits call.stage event answer × (close ≡ closes answer)
fits old new call event answer close is may steps =
    go (subst (λ (c : Option Call). Follows (next c old event) old (Done answer close) new ⊎ (IsTrue (takes_memory (next c old event)) × Follows (Ends (Err fault.Memory)) old (Done answer close) new)) is steps)
  where
    go : Follows (turn (record old { call = None }) call event) old (Done answer close) new ⊎ (IsTrue (takes_memory (turn (record old { call = None }) call event)) × Follows (Ends (Err fault.Memory)) old (Done answer close) new)
        → Fits call.stage event answer × (close ≡ closes answer)
    go (inl made) =
        let ends = turn_fits (record old { call = None }) call event may in
        (given (Fits call.stage event) (turn (record old { call = None }) call event) old new answer close ends made, shuts (Fits call.stage event) (turn (record old { call = None }) call event) old new answer close ends made)
    go (inr refused) = (
      subst (Fits call.stage event) (sym (same_answer answer (Err fault.Memory) close _ refused.1.1))
          (λ (sent : call.stage ≡ Sent). inl (taken (record old { call = None }) call event (subst (λ (stage : Stage). MayComeTo stage event) sent may) refused.0 sent)),
      same_close answer (Err fault.Memory) close refused.1.1,
    )

-- ---- the deeds before the last one

-- a call may go on behind it
abbrev GoesOn : Event → Type 0
GoesOn happened.Connected = ⊤
GoesOn (happened.Reply reply) = ⊤
GoesOn _ = ⊥

goes_on : (old new : ClientState) (call : Call) (event : Event) (action : Action) → old.call ≡ Some call → Steps old event action new → IsDone action ⊎ GoesOn event
goes_on old new call event action is steps =
    go event (subst (λ (c : Option Call). Follows (next c old event) old action new ⊎ (IsTrue (takes_memory (next c old event)) × Follows (Ends (Err fault.Memory)) old action new)) is steps)
  where
    is_done : (answer : Answer) → Follows (Ends answer) old action new → IsDone action
    is_done answer follows = rw follows.1 tt

    go : (e : Event) → Follows (turn (record old { call = None }) call e) old action new ⊎ (IsTrue (takes_memory (turn (record old { call = None }) call e)) × Follows (Ends (Err fault.Memory)) old action new) → IsDone action ⊎ GoesOn e
    go e (inr refused) = inl (is_done _ refused.1)
    go (happened.Call words) (inl follows) = inl (is_done _ follows)
    go happened.Connected (inl follows) = inr tt
    go happened.NotConnected (inl follows) = inl (is_done _ follows)
    go (happened.Reply reply) (inl follows) = inr tt
    go happened.BadReply (inl follows) = inl (is_done _ follows)
    go (happened.Broken handed) (inl follows) = inl (is_done _ follows)
    go (happened.NoMemory handed) (inl follows) = inl (is_done _ follows)

-- a connection is in use
abbrev IsUsed : Pool → Type 0
IsUsed pool = (place : ℕ) × (pool.used ≡ Some place)

turned_used : (is_new : Bool) (address : Place) (pool : Pool) → IsUsed (cond is_new (with_new pool address) (record pool { used = Some (place_in pool.addresses address) }))
turned_used true address pool = (length pool.addresses, refl)
turned_used false address pool = (place_in pool.addresses address, refl)

sent_used : (words : List (List ℕ)) (event : Event) (used : Option ℕ) (old new : Wires) → GoesOn event → Uses words event used old new → (place : ℕ) × (used ≡ Some place)
sent_used words event None old new on uses = absurd (subst GoesOn uses.0 on)
sent_used words event (Some place) old new on uses = (place, refl)

-- one is in use where a call goes on
used_behind : (action : Action) (event : Event) (pool : Pool) (old new : Wires) → GoesOn event → Moves action event pool old new → IsUsed (pool_after action event pool)
used_behind action (happened.Call words) pool old new on moves = absurd on
used_behind action happened.NotConnected pool old new on moves = absurd on
used_behind action happened.BadReply pool old new on moves = absurd on
used_behind action (happened.Broken handed) pool old new on moves = absurd on
used_behind action (happened.NoMemory handed) pool old new on moves = absurd on
used_behind (Connect address) happened.Connected pool old new on moves = turned_used (place_in pool.addresses address == length pool.addresses) address pool
used_behind (Connect address) (happened.Reply reply) pool old new on moves = absurd moves
used_behind (Send words) happened.Connected pool old new on moves = sent_used words happened.Connected pool.used old new on moves
used_behind (Send words) (happened.Reply reply) pool old new on moves = sent_used words (happened.Reply reply) pool.used old new on moves
used_behind (Done answer close) happened.Connected pool old new on moves = absurd moves
used_behind (Done answer close) (happened.Reply reply) pool old new on moves = absurd moves

-- no connection was closed, and no node was missed
record Keeps (old new : Wires) : Type 0 where
  pub closed : new.closed ≡ old.closed
  pub failures : new.failures ≡ old.failures

joined_keeps : (is_new : Bool) (address : Place) (old new : Wires) → MatchBool is_new (Joins address old new) (new ≡ old) → Keeps old new
joined_keeps true address old new joins = record { closed = ap (λ (wires : Wires). wires.closed) joins.grown; failures = ap (λ (wires : Wires). wires.failures) joins.grown }
joined_keeps false address old new same = record { closed = ap (λ (wires : Wires). wires.closed) same; failures = ap (λ (wires : Wires). wires.failures) same }

sent_keeps : (words : List (List ℕ)) (event : Event) (used : Option ℕ) (old new : Wires) → is_lost event ≡ false → Uses words event used old new → Keeps old new
sent_keeps words event None old new kept uses = record { closed = ap (λ (wires : Wires). wires.closed) uses.1; failures = ap (λ (wires : Wires). wires.failures) uses.1 }
sent_keeps words event (Some place) old new kept uses =
    let left : new ≡ with_channel place uses.after old =
    uses.left ∙ ap (λ (lost : Bool). cond lost (wires_without (Some place) (with_channel place uses.after old)) (with_channel place uses.after old)) kept in
    record { closed = ap (λ (wires : Wires). wires.closed) left; failures = ap (λ (wires : Wires). wires.failures) left }

keeps : (action : Action) (event : Event) (pool : Pool) (old new : Wires) → GoesOn event → Moves action event pool old new → Keeps old new
keeps action (happened.Call words) pool old new on moves = absurd on
keeps action happened.NotConnected pool old new on moves = absurd on
keeps action happened.BadReply pool old new on moves = absurd on
keeps action (happened.Broken handed) pool old new on moves = absurd on
keeps action (happened.NoMemory handed) pool old new on moves = absurd on
keeps (Connect address) happened.Connected pool old new on moves = joined_keeps (place_in pool.addresses address == length pool.addresses) address old new moves
keeps (Connect address) (happened.Reply reply) pool old new on moves = absurd moves
keeps (Send words) happened.Connected pool old new on moves = sent_keeps words happened.Connected pool.used old new refl moves
keeps (Send words) (happened.Reply reply) pool old new on moves = sent_keeps words (happened.Reply reply) pool.used old new refl moves
keeps (Done answer close) happened.Connected pool old new on moves = absurd moves
keeps (Done answer close) (happened.Reply reply) pool old new on moves = absurd moves

-- ---- the last deed

-- how these deeds, which a call had done from here on, end with this answer
record Ending (command : List (List ℕ)) (deeds : List Deed) (answer : Answer) (close : Bool) (pool : Pool) (old reached : Wires) : Type 0 where
  pub front : List Deed
  pub last : Deed
  pub is : deeds ≡ front ++ last ∷ []
  pub settled : AreSettled command front
  pub between : Wires
  pub moved : WiresMove front pool old between
  pub moves : Moves last.action last.event (pool_behind front pool) between reached
  pub keeps : Keeps old between
  pub used : is_sending last.action → IsUsed (pool_behind front pool)
  pub stage : Stage
  pub asked : IsFor stage last.action command
  pub may : MayComeTo stage last.event
  pub fits : Fits stage last.event answer
  pub shut : close ≡ closes answer

no_done : (action : Action) (event : Event) (pool : Pool) (old new : Wires) → Moves action event pool old new → ¬ IsDone action
no_done (Connect address) event pool old new moves done = done
no_done (Send words) event pool old new moves done = done
no_done (Done answer close) event pool old new moves done = moves

ends_at : (command : List (List ℕ)) (limit : ℕ) (client new : ClientState) (deed : Deed) (answer : Answer) (close : Bool) (pool : Pool) (old reached : Wires) → IsAt command limit client deed.action
    → (is_sending deed.action → IsUsed pool) → AreWithin (moments_of deed.event [] (Done answer close)) → IsRun client (moments_of deed.event [] (Done answer close)) new → Moves deed.action deed.event pool old reached
    → Ending command (deed ∷ []) answer close pool old reached
ends_at command limit client new deed answer close pool old reached (past none) used within run moves = absurd (none_within deed.event (subst (λ (c : Option Call). MayCome c deed.event) none run.1) within.0)
ends_at command limit client new deed answer close pool old reached (under call is same of bounded asked) used within run moves =
    let may : MayComeTo call.stage deed.event = subst (λ (c : Option Call). MayCome c deed.event) is run.1 in
    let why = fits client run.0 call deed.event answer close is may run.2 in
    record {
      front = [];
      last = deed;
      is = refl;
      settled = All-nil (IsSettled command);
      between = old;
      moved = refl;
      moves = moves;
      keeps = record { closed = refl; failures = refl };
      used = used;
      stage = call.stage;
      asked = asked;
      may = may;
      fits = why.0;
      shut = why.1;
    }

-- a sending that isn't the last deed was refused
is_settled : (command : List (List ℕ)) (limit : ℕ) (client after : ClientState) (deed : Deed) (action : Action) → is_refused command ≡ false → IsAt command limit client deed.action → IsWithin deed.event
    → MayCome client.call deed.event → Steps client deed.event action after → ¬ IsDone action → deed.action ≡ Send command → HasNoEffect deed.event
is_settled command limit client after deed action plain (past none) within may steps goes sends = absurd (none_within deed.event (subst (λ (c : Option Call). MayCome c deed.event) none may) within)
is_settled command limit client after deed action plain (under call is same of bounded asked) within may steps goes sends =
    elim (behind client after call deed.event action is (sends_it call.stage deed.action command plain asked sends) may steps) [
      | inl done ↦ absurd (goes done)
      | inr refusal ↦ inl refusal
    ]

-- a deed behind which the call goes on
on_at : (command : List (List ℕ)) (limit : ℕ) (client after : ClientState) (deed : Deed) (action : Action) → IsAt command limit client deed.action → IsWithin deed.event → MayCome client.call deed.event
    → Steps client deed.event action after → ¬ IsDone action → GoesOn deed.event
on_at command limit client after deed action (past none) within may steps goes = absurd (none_within deed.event (subst (λ (c : Option Call). MayCome c deed.event) none may) within)
on_at command limit client after deed action (under call is same of bounded asked) within may steps goes =
    elim (goes_on client after call deed.event action is steps) [
      | inl done ↦ absurd (goes done)
      | inr on ↦ on
    ]

ends : (command : List (List ℕ)) (limit : ℕ) (client new : ClientState) (deed : Deed) (deeds : List Deed) (answer : Answer) (close : Bool) (pool : Pool) (old reached : Wires) → is_refused command ≡ false
    → IsAt command limit client deed.action → (is_sending deed.action → IsUsed pool) → AreWithin (moments_of deed.event deeds (Done answer close)) → IsRun client (moments_of deed.event deeds (Done answer close)) new
    → WiresMove (deed ∷ deeds) pool old reached → Ending command (deed ∷ deeds) answer close pool old reached
ends command limit client new deed [] answer close pool old reached plain at used within run moved =
    ends_at command limit client new deed answer close pool old reached at used within run (subst (λ (wires : Wires). Moves deed.action deed.event pool old wires) (sym moved.2) moved.1)
ends command limit client new deed (later ∷ deeds) answer close pool old reached plain at used within run moved =
    let goes : ¬ IsDone later.action = no_done later.action later.event (pool_after deed.action deed.event pool) moved.0 moved.2.0 moved.2.1 in
    let on : GoesOn deed.event = on_at command limit client run.0 deed later.action at within.0 run.1 run.2 goes in
    let first : Keeps old moved.0 = keeps deed.action deed.event pool old moved.0 on moved.1 in
    let rest : Ending command (later ∷ deeds) answer close (pool_after deed.action deed.event pool) moved.0 reached =
    ends command limit run.0 new later deeds answer close (pool_after deed.action deed.event pool) moved.0 reached plain
    (stays command limit client run.0 deed.event deed.action later.action at within.0 run.1 run.2) (λ _. used_behind deed.action deed.event pool old moved.0 on moved.1) within.1 run.3 moved.2 in
    record {
      front = deed ∷ rest.front;
      last = rest.last;
      is = ap (λ (ds : List Deed). deed ∷ ds) rest.is;
      settled = All-cons (IsSettled command) deed rest.front (is_settled command limit client run.0 deed later.action plain at within.0 run.1 run.2 goes) rest.settled;
      between = rest.between;
      moved = (moved.0, moved.1, rest.moved);
      moves = rest.moves;
      keeps = record { closed = rest.keeps.closed ∙ first.closed; failures = rest.keeps.failures ∙ first.failures };
      used = rest.used;
      stage = rest.stage;
      asked = rest.asked;
      may = rest.may;
      fits = rest.fits;
      shut = rest.shut;
    }

-- ---- causes

abbrev outcome_in : Event → Outcome
outcome_in (happened.Reply reply) = outcome.Reply reply
outcome_in happened.BadReply = outcome.BadReply
outcome_in (happened.Broken handed) = outcome.Broken handed
outcome_in (happened.NoMemory handed) = outcome.NoMemory handed
outcome_in _ = outcome.NoMemory false

back : (came : Outcome) → outcome_in (event_of came) ≡ came
back (outcome.Reply reply) = refl
back outcome.BadReply = refl
back (outcome.Broken handed) = refl
back (outcome.NoMemory handed) = refl

same_outcome : (came other : Outcome) → event_of came ≡ event_of other → came ≡ other
same_outcome came other same = sym (back came) ∙ ap outcome_in same ∙ back other

same_deed : (last : Deed) (action : Action) (event : Event) → last.action ≡ action → last.event ≡ event → last ≡ record { action = action; event = event }
same_deed last action event is comes = ap (λ (a : Action). record { action = a; event = last.event }) is ∙ ap (λ (e : Event). record { action = action; event = e }) comes

same_count : (close : Bool) (used : Option ℕ) (wires : Wires) → (wires_closed_if close used wires).failures ≡ wires.failures
same_count true used wires = refl
same_count false used wires = refl

-- the connection in use took a request, and is closed now: it was lost, or was closed in the end
shut_last : (lost close : Bool) (place : ℕ) (pool : Pool) (between reached new : Wires) (before after : Channel) → (lost ≡ false → close ≡ true) → pool.used ≡ Some place → slice_get between.channels place ≡ Some before
    → reached ≡ cond lost (wires_without (Some place) (with_channel place after between)) (with_channel place after between) → new ≡ wires_closed_if close (cond lost (closed pool) pool).used reached
    → new.closed ≡ between.closed ++ after ∷ []
shut_last true close place pool between reached new before after shut used there left wires =
    ap (λ (w : Wires). w.closed) wires ∙ none_in_use close
    ∙ ap (λ (w : Wires). w.closed) left
    ∙ ap (λ (found : Option Channel). between.closed ++ option_to_list found) (set_there between.channels place before after there)
  where
    none_in_use : (b : Bool) → (wires_closed_if b None reached).closed ≡ reached.closed
    none_in_use true = append-nil reached.closed
    none_in_use false = refl
shut_last false false place pool between reached new before after shut used there left wires = absurd (apart (shut refl))
  where
    apart : false ≡ true → ⊥
    apart same = cc
shut_last false true place pool between reached new before after shut used there left wires =
    ap (λ (w : Wires). w.closed) wires
    ∙ ap (λ (o : Option ℕ). (wires_without o reached).closed) used
    ∙ ap (λ (w : Wires). (wires_without (Some place) w).closed) left
    ∙ ap (λ (found : Option Channel). between.closed ++ option_to_list found) (set_there between.channels place before after there)

module _ (command : List (List ℕ)) (old new : ClientView) (answer : Answer) (close : Bool) (deeds : List Deed) (reached : Wires) (plain : is_refused command ≡ false) (done : new.deeds ≡ old.deeds ++ deeds)
    (wires : new.wires ≡ wires_closed_if close (pool_behind deeds old.pool).used reached) (end : Ending command deeds answer close old.pool old.wires reached) where
  ends_so : (action : Action) (event : Event) → end.last.action ≡ action → end.last.event ≡ event → new.deeds ≡ old.deeds ++ (end.front ++ record { action = action; event = event } ∷ [])
  ends_so action event is comes =
      done ∙ ap (λ (ds : List Deed). old.deeds ++ ds) (end.is ∙ ap (λ (last : Deed). end.front ++ last ∷ []) (same_deed end.last action event is comes))

  moves_so : (action : Action) (event : Event) → end.last.action ≡ action → end.last.event ≡ event → Moves action event (pool_behind end.front old.pool) end.between reached
  moves_so action event is comes =
      subst (λ (e : Event). Moves action e (pool_behind end.front old.pool) end.between reached) comes
      (subst (λ (a : Action). Moves a end.last.event (pool_behind end.front old.pool) end.between reached) is end.moves)

  sent_last : (words : List (List ℕ)) (came : Outcome) → (is_lost (event_of came) ≡ false → close ≡ true) → end.last.action ≡ Send words → end.last.event ≡ event_of came → SentLast command words came old new
  sent_last words came shut is comes =
      let pool : Pool = pool_behind end.front old.pool in
      let used : IsUsed pool = end.used (subst is_sending (sym is) tt) in
      let uses : UsesAt words (event_of came) used.0 end.between reached =
      subst (λ (place : Option ℕ). Uses words (event_of came) place end.between reached) used.1 (moves_so (Send words) (event_of came) is comes) in
      let left : pool_behind deeds old.pool ≡ cond (is_lost (event_of came)) (closed pool) pool =
      ap (λ (ds : List Deed). pool_behind ds old.pool) (end.is ∙ ap (λ (last : Deed). end.front ++ last ∷ []) (same_deed end.last (Send words) (event_of came) is comes))
      ∙ pool_on end.front (record { action = Send words; event = event_of came }) old.pool in
      record {
        front = end.front;
        done = ends_so (Send words) (event_of came) is comes;
        settled = end.settled;
        between = end.between;
        moved = end.moved;
        place = used.0;
        used = used.1;
        before = uses.before;
        there = uses.there;
        after = uses.after;
        bytes = subst (λ (o : Outcome). Exchanges words uses.before.wire o uses.after.wire) (sym (same_outcome came uses.brings.outcome uses.brings.told)) uses.brings.bytes;
        closed =
            shut_last (is_lost (event_of came)) close used.0 pool end.between reached new.wires uses.before uses.after shut used.1 uses.there uses.left (wires ∙ ap (λ (p : Pool). wires_closed_if close p.used reached) left)
            ∙ ap (λ (others : List Channel). others ++ uses.after ∷ []) end.keeps.closed;
      }

  settled_so : (end.last.action ≡ Send command → HasNoEffect end.last.event) → EndsSettled command old new
  settled_so refused = (deeds, done, subst (AreSettled command) (sym end.is) (All-push (IsSettled command) end.front end.last end.settled refused))

  -- a sending is awaited where no connection is
  words_of : (stage : Stage) → ¬ MayComeTo Connecting end.last.event → MayComeTo stage end.last.event → IsFor stage end.last.action command → (words : List (List ℕ)) × (end.last.action ≡ Send words)
  words_of Connecting none may asked = absurd (none may)
  words_of Introducing none may asked = (numbered_words, asked)
  words_of Asking none may asked = (asking_words asked.0, asked.1)
  words_of Sent none may asked = (command, asked)

  lost : (event : Event) → close ≡ true → end.last.event ≡ event → end.last.action ≡ Send command → IsOpen event → IsLost command old new
  lost (happened.Broken true) shut comes is left = inl (sent_last command (outcome.Broken true) (λ kept. shut) is comes)
  lost (happened.Broken false) shut comes is left = cc
  lost (happened.NoMemory true) shut comes is left = inr (sent_last command (outcome.NoMemory true) (λ kept. shut) is comes)
  lost (happened.NoMemory false) shut comes is left = cc
  lost (happened.Call words) shut comes is left = absurd left
  lost happened.Connected shut comes is left = absurd left
  lost happened.NotConnected shut comes is left = absurd left
  lost (happened.Reply reply) shut comes is left = absurd left
  lost happened.BadReply shut comes is left = absurd left

  kept : new.wires.failures ≡ reached.failures
  kept = ap (λ (w : Wires). w.failures) wires ∙ same_count close (pool_behind deeds old.pool).used reached

  gone : true ≡ false → close ≡ true
  gone same = cc

  missed : (stage : Stage) → end.last.event ≡ happened.NotConnected → MayComeTo stage happened.NotConnected → IsFor stage end.last.action command → MissedLast command old new
  missed Connecting comes may asked = record {
    front = end.front;
    address = asked.0;
    done = ends_so (Connect asked.0) happened.NotConnected asked.1 comes;
    settled = end.settled;
    counted = subst (λ (n : ℕ). HasFailed n new.wires.failures) end.keeps.failures (subst (λ (n : ℕ). HasFailed end.between.failures n) (sym kept) (moves_so (Connect asked.0) happened.NotConnected asked.1 comes).1);
  }
  missed Introducing comes may asked = absurd may
  missed Asking comes may asked = absurd may
  missed Sent comes may asked = absurd may

  broke : (stage : Stage) (handed : Bool) → end.last.event ≡ happened.Broken handed → MayComeTo stage (happened.Broken handed) → IsFor stage end.last.action command → broken stage handed ≡ fault.NotConnected → IsCutBefore command old new
  broke Connecting handed comes may asked is = absurd may
  broke Introducing handed comes may asked is = inr (inr (numbered_words, handed, inl refl, sent_last numbered_words (outcome.Broken handed) gone asked comes))
  broke Asking handed comes may asked is = inr (inr (asking_words asked.0, handed, inr (asked.0, refl), sent_last (asking_words asked.0) (outcome.Broken handed) gone asked.1 comes))
  broke Sent true comes may asked is = cc
  broke Sent false comes may asked is = inr (inl (sent_last command (outcome.Broken false) gone asked comes))

  cut : (event : Event) → end.last.event ≡ event → MayComeTo end.stage event → IsCut end.stage event → IsCutBefore command old new
  cut happened.NotConnected comes may is = inl (missed end.stage comes may end.asked)
  cut (happened.Broken handed) comes may is = broke end.stage handed comes may end.asked is
  cut (happened.Call words) comes may is = absurd is
  cut happened.Connected comes may is = absurd is
  cut (happened.Reply reply) comes may is = absurd is
  cut happened.BadReply comes may is = absurd is
  cut (happened.NoMemory handed) comes may is = absurd is

  bad : (event : Event) → close ≡ true → end.last.event ≡ event → IsAnswer event → HasCause fault.BadReply command old new
  bad (happened.Reply reply) shut comes is =
      let sent = words_of end.stage (λ may. subst (MayComeTo Connecting) comes may) end.may end.asked in
      (sent.0, outcome.Reply reply, tt, sent_last sent.0 (outcome.Reply reply) (λ kept. shut) sent.1 comes)
  bad happened.BadReply shut comes is =
      let sent = words_of end.stage (λ may. subst (MayComeTo Connecting) comes may) end.may end.asked in
      (sent.0, outcome.BadReply, tt, sent_last sent.0 outcome.BadReply (λ kept. shut) sent.1 comes)
  bad (happened.Call words) shut comes is = absurd is
  bad happened.Connected shut comes is = absurd is
  bad happened.NotConnected shut comes is = absurd is
  bad (happened.Broken handed) shut comes is = absurd is
  bad (happened.NoMemory handed) shut comes is = absurd is

  caused : (given : ClientFault) → Fits end.stage end.last.event (Err given) → close ≡ closes (Err given) → HasCause given command old new
  caused fault.Lost is shut = lost end.last.event shut refl (subst (λ (stage : Stage). IsFor stage end.last.action command) is.0 end.asked) is.1
  caused fault.TooManyRedirects is shut = settled_so (λ _. inl is)
  caused fault.StillTryAgain is shut = settled_so (λ _. inl is)
  caused fault.Memory is shut = settled_so (λ sends. is (sends_it end.stage end.last.action command plain end.asked sends))
  caused fault.NotConnected is shut = cut end.last.event refl end.may is
  caused fault.BadReply is shut = bad end.last.event shut refl is
  caused fault.NotData is shut = absurd is

-- ---- a call that did nothing

-- the answer is given before anything was done
abbrev FitsAtOnce : List (List ℕ) → Answer → Type 0
FitsAtOnce command (Err fault.NotData) = IsTrue (is_refused command)
FitsAtOnce command (Err fault.Memory) = ⊤
FitsAtOnce command _ = ⊥

at_once : (command : List (List ℕ)) (old new : ClientState) (answer : Answer) (close : Bool) → old.call ≡ None → Steps old (happened.Call command) (Done answer close) new → FitsAtOnce command answer
at_once command old new answer close none steps =
    go (subst (λ (c : Option Call). Follows (next c old (happened.Call command)) old (Done answer close) new ⊎ (IsTrue (takes_memory (next c old (happened.Call command))) × Follows (Ends (Err fault.Memory)) old (Done answer close) new)) none steps)
  where
    go : Follows (begun old command) old (Done answer close) new ⊎ (IsTrue (takes_memory (begun old command)) × Follows (Ends (Err fault.Memory)) old (Done answer close) new) → FitsAtOnce command answer
    go (inl made) = given (FitsAtOnce command) (begun old command) old new answer close (begun_so (FitsAtOnce command) old command (λ is. is)) made
    go (inr refused) = subst (FitsAtOnce command) (sym (same_answer answer (Err fault.Memory) close _ refused.1.1)) tt

idle : (command : List (List ℕ)) (old new : ClientView) (given : ClientFault) → new.deeds ≡ old.deeds ++ [] → FitsAtOnce command (Err given) → HasCause given command old new
idle command old new fault.NotData done is = record { refused = is; done = done ∙ append-nil old.deeds }
idle command old new fault.Memory done is = ([], done, All-nil (IsSettled command))
idle command old new fault.Lost done is = absurd is
idle command old new fault.NotConnected done is = absurd is
idle command old new fault.TooManyRedirects done is = absurd is
idle command old new fault.StillTryAgain done is = absurd is
idle command old new fault.BadReply done is = absurd is

no_call : (under_way : Option Call) (command : List (List ℕ)) → MayCome under_way (happened.Call command) → under_way ≡ None
no_call None command may = refl
no_call (Some call) command may = absurd may

by_deeds : (deeds : List Deed) (command : List (List ℕ)) (old new : ClientView) (given : ClientFault) (close : Bool) (reached : Wires) → new.deeds ≡ old.deeds ++ deeds
    → IsCallOf command old.state (moments_of (happened.Call command) deeds (Done (Err given) close)) new.state → WiresMove deeds old.pool old.wires reached
    → new.wires ≡ wires_closed_if (is_begun deeds && close) (pool_behind deeds old.pool).used reached → HasCause given command old new
by_deeds [] command old new given close reached done call moved wires =
    idle command old new given done (at_once command old.state call.2.0 (Err given) close (no_call old.state.call command call.2.1) call.2.2)
by_deeds (deed ∷ deeds) command old new given close reached done call moved wires =
    go (begins command old.state call.2.0 (happened.Call command) deed.action refl call.2.1 call.2.2)
  where
    go : Begins command old.state deed.action call.2.0 → HasCause given command old new
    go (connecting plain silent at) =
        let end = ends command old.state.limit call.2.0 new.state deed deeds (Err given) close old.pool old.wires reached plain at (λ sends. absurd (silent sends)) call.1 call.2.3 moved in
        caused command old new (Err given) close (deed ∷ deeds) reached plain done wires end given end.fits end.shut
    go (refusing is_done none) = absurd (no_done deed.action deed.event old.pool old.wires moved.0 moved.1 is_done)

pub faults_have_causes : FaultsHaveCauses
faults_have_causes command old new given calls =
    by_deeds calls.deeds command old new given calls.close calls.reached calls.done calls.call calls.moved calls.wires
