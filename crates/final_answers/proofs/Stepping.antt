-- Each step of a client is written into the book.
use Rattle.std.proofs.Common.{◌≡◌, ◌⊎◌, ◌+◌, ◌∙◌, ◌++◌, ◌∷◌, ℕ, Bool, false, cond, List, [], length, map, Option, None, Some, refl, sym, ap, subst, inl, inr, append-nil, append_assoc}
use Rattle.std.specs.List.{AllByRecursion}
use Rattle.bus.specs.declared.message.Message.{Message}
use Rattle.cluster_config.specs.declared.config.NodeConfig.{NodeConfig}
use Rattle.connections.specs.declared.conn.Conn.{Conn}
use Rattle.node_step.specs.declared.outputs.Outputs.{Outputs as NodeOutputs}
use Rattle.node_step.specs.declared.outputs.Release.{Release}
use Rattle.node_step.specs.declared.promotion.Promotion.{Promotion}
use Rattle.resp_values.specs.declared.reply.Reply.{Reply}
use Rattle.smart_client.specs.declared.action.Event.TheVariants as happened
use Rattle.smart_client.specs.declared.call.Call.{Call}
use Rattle.world_run.specs.Executed.{Answered as Execution}
use Rattle.world_nodes.specs.Nodes.{RunView}
use Rattle.world_nodes.specs.Outputs.{beside_from, numbered, promotion_of, released_reply}
use Rattle.world_nodes.specs.Serving.{Serves}
use Rattle.world_nodes.specs.declared.link.Link.{Link}
use Rattle.world_nodes.specs.declared.output.Output.{Output}
use Rattle.world_nodes.specs.declared.output.Output.TheVariants as output
use Rattle.world.specs.Asking.{AsksWell, IsOfCall}
use Rattle.world.specs.Calls.{Begins, IsBegun, IsReturned, Rests, Returns, Takes}
use Rattle.world.specs.Clients.{ClientView}
use Rattle.world.specs.declared.client.Late.{Late}
use Rattle.world.specs.declared.client.Traffic.{Traffic}
use Rattle.world.specs.declared.client.Traffic.TheVariants.{Quiet, Asked, Answered}
use Rattle.world.specs.declared.step.Step.{Step}
use Rattle.world.specs.declared.step.Step.TheVariants as step
use Rattle.final_answers.specs.Book.{Answers, Book, Executes, IsRight, Writes, begun, is_idle, new_line}
use Rattle.final_answers.proofs.Adding.{Adds, acts_adds, adds_nothing}
use Rattle.final_answers.proofs.Booking.{Booked, HasLine, HaveLines, IsBooked, Waits, answer_touches, answered_line, answers_it, call_touches, call_waits, late_behind, late_then, none_waits, one_waits, right_push, right_set, with_answer, with_call}
use Rattle.final_answers.proofs.Doing.{Comes, GoesOn, IsOver, acts_so}
use Rattle.final_answers.proofs.Tallies.{Touches, is_waiting, tally, touches_both}
use Rattle.final_answers.proofs.Tallies.Touches.{stays}
use Rattle.final_answers.proofs.Wanted.{answers_so, calls_so, execution_at}

-- ---- what is shown without an answer

abbrev pub Silent : List Output → Type 0
Silent [] = Unit {0}
Silent (output.Answer client answer ∷ shown) = ⊥
Silent (output.Admin node reply ∷ shown) = Silent shown
Silent (output.Sent number message ∷ shown) = Silent shown
Silent (output.Promoted node promotion ∷ shown) = Silent shown
Silent (output.Nothing ∷ shown) = Silent shown

pub silent_answers : (shown : List Output) (book : Book) → Silent shown → Answers shown book book
silent_answers [] book silent = refl
silent_answers (output.Answer client answer ∷ shown) book silent = absurd silent
silent_answers (output.Admin node reply ∷ shown) book silent = silent_answers shown book silent
silent_answers (output.Sent number message ∷ shown) book silent = silent_answers shown book silent
silent_answers (output.Promoted node promotion ∷ shown) book silent = silent_answers shown book silent
silent_answers (output.Nothing ∷ shown) book silent = silent_answers shown book silent

promotion_silent : (node : ℕ) (promoted : Option Promotion) → Silent (promotion_of node promoted)
promotion_silent node None = tt
promotion_silent node (Some promotion) = tt

numbered_silent : (before : ℕ) (messages : List Message) (rest : List Output) → Silent rest → Silent (numbered before messages ++ rest)
numbered_silent before [] rest silent = silent
numbered_silent before (message ∷ messages) rest silent = numbered_silent (before + 1) messages rest silent

released_silent : (node : ℕ) (releases : List Release) (rest : List Output) → Silent rest → Silent (map (released_reply node) releases ++ rest)
released_silent node [] rest silent = silent
released_silent node (one ∷ releases) rest silent = released_silent node releases rest silent

pub beside_silent : (node before : ℕ) (messages : List Message) (made : NodeOutputs) → Silent (beside_from node before messages made)
beside_silent node before messages made =
    subst Silent (sym (append_assoc (map (released_reply node) made.released) (numbered before messages) (promotion_of node made.promoted)))
    (released_silent node made.released (numbered before messages ++ promotion_of node made.promoted)
    (numbered_silent before messages (promotion_of node made.promoted) (promotion_silent node made.promoted)))

pub served_silent : (old new : RunView) (node : ℕ) (conn : Conn) (words : List (List ℕ)) (reply : Option Reply) (shown : List Output) → Serves old node conn words reply shown new → Silent shown
served_silent old new node conn words reply shown (inl served) = subst Silent (sym served.shows) (beside_silent node (length old.sent) served.made.sent served.made)
served_silent old new node conn words reply shown (inr skipped) = subst Silent (sym skipped.shows) tt

-- ---- what is written

pub writes_so : (made : Step) (shown : List Output) (executions : List Execution) (old executed new : Book) → begun made shown ≡ [] → Executes made executions old executed → Answers shown executed new
    → Writes (record { step = made; shown = shown; executed = executions }) old new
writes_so made shown executions old executed new none executes answers = record {
  executed = executed;
  executes = subst (λ (book : Book). Executes made executions book executed) (sym (ap (λ (lines : Book). old ++ lines) none ∙ append-nil old)) executes;
  answers = answers;
}

-- a client that is as it was
same_booked : (book : Book) (client after : ClientView) → after ≡ client → IsBooked book client → IsBooked book after
same_booked book client after same booked = subst (IsBooked book) (sym same) booked

pub rests_booked : (made : Step) (shown : List Output) (book : Book) (old new : RunView) (client after : ClientView) → begun made (output.Nothing ∷ []) ≡ [] → IsBooked book client → Rests old client shown new after
    → Booked made shown [] book client after
rests_booked made shown book old new client after none booked rests = record {
  new = book;
  writes = writes_so made shown [] book book book (ap (begun made) rests.shows ∙ none) refl (subst (λ (outputs : List Output). Answers outputs book book) (sym rests.shows) refl);
  touches = stays book;
  booked = same_booked book client after rests.same booked;
  number_is = ap (λ (c : ClientView). c.number) rests.same;
  right = λ right. right;
}

-- ---- a call that goes on or is answered

-- what is told of it is written
pub record Told (outputs : List Output) (old : Book) (number : ℕ) (after : ClientView) : Type 0 where
  pub new : Book
  pub answers : Answers outputs old new
  pub touches : Touches number old new
  pub booked : IsBooked new after
  pub right : AllByRecursion IsRight old → AllByRecursion IsRight new

-- of a client with this number and these late requests
pub booked_as : (book : Book) (number : ℕ) (late : List Late) (after : ClientView) → after.number ≡ number → after.late ≡ late → HasLine book number after.traffic after.core.call → HaveLines book number late → IsBooked book after
booked_as book number late after number_is late_is calls have = record {
  calls = subst (λ (n : ℕ). HasLine book n after.traffic after.core.call) (sym number_is) calls;
  late = subst (λ (n : ℕ). HaveLines book n after.late) (sym number_is) (subst (HaveLines book number) (sym late_is) have);
}

pub comes_told : (book : Book) (number : ℕ) (late : List Late) (words : List (List ℕ)) (execution : Option Reply) (outputs : List Output) (after : ClientView) → tally (is_waiting number) book ≡ 1 → Waits book number words execution
    → HaveLines book number late → Comes number late words execution outputs after → Told outputs book number after
comes_told book number late words execution outputs after one waits have comes = by_case comes.comes
  where
    by_case : IsOver number execution outputs after ⊎ GoesOn words execution outputs after → Told outputs book number after
    by_case (inl over) = record {
      new = with_answer book number words execution waits over.answer;
      answers = subst (λ (shown : List Output). Answers shown book (with_answer book number words execution waits over.answer)) (sym over.shows) (answers_it book number words execution waits over.answer);
      touches = answer_touches book number words execution waits over.answer;
      booked = booked_as (with_answer book number words execution waits over.answer) number late after comes.number_is comes.late_is
          (subst (HasLine (with_answer book number words execution waits over.answer) number after.traffic) (sym over.over) (none_waits book number words execution waits over.answer one))
          (late_then book number words execution waits over.answer late have);
      right = right_set book waits.place (answered_line book number words execution waits over.answer) over.tells;
    }
    by_case (inr goes) = record {
      new = book;
      answers = subst (λ (shown : List Output). Answers shown book book) (sym goes.shows) refl;
      touches = stays book;
      booked = booked_as book number late after comes.number_is comes.late_is
          (subst (HasLine book number after.traffic) (sym goes.is)
          (one, subst (λ (e : Option Reply). Waits book number goes.call.words e) (goes.nothing ∙ sym goes.still) (subst (λ (ws : List (List ℕ)). Waits book number ws execution) (sym goes.words_are) waits)))
          have;
      right = λ right. right;
    }

-- ---- a call begins

module _ (nodes : List NodeConfig) (old new : RunView) (client after : ClientView) (number : ℕ) (words : List (List ℕ)) (outputs : List Output) (book : Book) (numbered_so : client.number ≡ number) (booked : IsBooked book client) where
  -- a client that calls has something to say, or waits
  comes_not_idle : (late : List Late) → Comes client.number late words None outputs after → is_idle outputs ≡ false
  comes_not_idle late comes =
      elim comes.comes [
        | inl over ↦ ap is_idle over.shows
        | inr goes ↦ ap is_idle goes.shows
      ]

  calls_booked : client.core.call ≡ None → Comes client.number client.late words None outputs after → Booked (step.Call number words) outputs [] book client after
  calls_booked none comes =
      let nobody : tally (is_waiting client.number) book ≡ 0 = subst (HasLine book client.number client.traffic) none booked.calls in
      let told : Told outputs (with_call book client.number words) client.number after =
      comes_told (with_call book client.number words) client.number client.late words None outputs after (one_waits book client.number words nobody) (call_waits book client.number words)
      (late_behind book client.number words client.late booked.late) comes in
      let begins : begun (step.Call number words) outputs ≡ new_line client.number words ∷ [] =
      ap (λ (idle : Bool). cond idle [] (new_line number words ∷ [])) (comes_not_idle client.late comes) ∙ ap (λ (n : ℕ). new_line n words ∷ []) (sym numbered_so) in
      record {
        new = told.new;
        writes = record { executed = with_call book client.number words; executes = ap (λ (lines : Book). book ++ lines) (sym begins); answers = told.answers };
        touches = touches_both client.number book (with_call book client.number words) told.new (call_touches book client.number words) told.touches;
        booked = told.booked;
        number_is = comes.number_is;
        right = λ right. told.right (right_push book (new_line client.number words) tt right);
      }

  pub begins_booked : (client.traffic ≡ Quiet → client.core.call ≡ None) → Begins nodes words old client outputs new after → Adds old new [] × Booked (step.Call number words) outputs [] book client after
  begins_booked settled = by_traffic client.traffic refl
    where
      by_traffic : (traffic : Traffic) → client.traffic ≡ traffic → IsBegun nodes old client traffic words outputs new after → Adds old new [] × Booked (step.Call number words) outputs [] book client after
      by_traffic Quiet is takes =
          let none : client.core.call ≡ None = settled is in
          let may = calls_so words None client.core takes.core takes.action none refl takes.steps in (
            acts_adds nodes old (record client { core = takes.core }) None takes.action outputs new after takes.acts,
            calls_booked none (acts_so words None nodes old (record client { core = takes.core }) None takes.action outputs new after may takes.acts),
          )
      by_traffic (Asked link sent) is rested = (adds_nothing old new rested.run, rests_booked (step.Call number words) outputs book old new client after refl booked rested)
      by_traffic (Answered link reply) is rested = (adds_nothing old new rested.run, rests_booked (step.Call number words) outputs book old new client after refl booked rested)

-- ---- steps that begin no call

-- what is booked of a client, by what is under way
pub call_so : (book : Book) (client : ClientView) (traffic : Traffic) → client.traffic ≡ traffic → IsBooked book client → (under : Option Call) → client.core.call ≡ under → HasLine book client.number traffic under
call_so book client traffic is booked under called =
    subst (HasLine book client.number traffic) called (subst (λ (t : Traffic). HasLine book client.number t client.core.call) is booked.calls)

pub of_call_so : (nodes : List NodeConfig) (run : RunView) (client : ClientView) (traffic : Traffic) → client.traffic ≡ traffic → AsksWell nodes run client → (under : Option Call) → client.core.call ≡ under
    → IsOfCall nodes run client.core client.pool traffic under
of_call_so nodes run client traffic is asks under called =
    subst (IsOfCall nodes run client.core client.pool traffic) called (subst (λ (t : Traffic). IsOfCall nodes run client.core client.pool t client.core.call) is asks.call)

pub told_booked : (made : Step) (outputs : List Output) (book : Book) (client after : ClientView) → begun made outputs ≡ [] → after.number ≡ client.number → Told outputs book client.number after
    → Booked made outputs [] book client after
told_booked made outputs book client after none number_is told = record {
  new = told.new;
  writes = writes_so made outputs [] book book told.new none refl told.answers;
  touches = told.touches;
  booked = told.booked;
  number_is = number_is;
  right = told.right;
}

module _ (nodes : List NodeConfig) (old new : RunView) (client after : ClientView) (number : ℕ) (outputs : List Output) (book : Book) (booked : IsBooked book client) (asks : AsksWell nodes old client) where
  -- ---- a reply comes

  takes_reply : (link : Link) (reply : Reply) (call : Call) → client.core.call ≡ Some call → tally (is_waiting client.number) book ≡ 1 → Waits book client.number call.words (execution_at call.stage reply)
      → Takes nodes old (record client { traffic = Quiet }) (Some link) (happened.Reply reply) outputs new after → Adds old new [] × Booked (step.Return number) outputs [] book client after
  takes_reply link reply call is one waits takes =
      let execution : Option Reply = execution_at call.stage reply in
      let may = answers_so call.words execution client.core takes.core call reply takes.action is refl refl takes.steps in
      let comes : Comes client.number client.late call.words execution outputs after =
      acts_so call.words execution nodes old (record client { traffic = Quiet; core = takes.core }) (Some link) takes.action outputs new after may takes.acts in (
        acts_adds nodes old (record client { traffic = Quiet; core = takes.core }) (Some link) takes.action outputs new after takes.acts,
        told_booked (step.Return number) outputs book client after refl comes.number_is
            (comes_told book client.number client.late call.words execution outputs after one waits booked.late comes),
      )

  pub returns_booked : Returns nodes old client outputs new after → Adds old new [] × Booked (step.Return number) outputs [] book client after
  returns_booked = by_traffic client.traffic refl
    where
      by_call : (link : Link) (reply : Reply) → client.traffic ≡ Answered link reply → (under : Option Call) → client.core.call ≡ under
          → Takes nodes old (record client { traffic = Quiet }) (Some link) (happened.Reply reply) outputs new after → Adds old new [] × Booked (step.Return number) outputs [] book client after
      by_call link reply is None called takes = absurd (of_call_so nodes old client (Answered link reply) is asks None called)
      by_call link reply is (Some call) called takes =
          let has = call_so book client (Answered link reply) is booked (Some call) called in
          takes_reply link reply call called has.0 has.1 takes

      by_traffic : (traffic : Traffic) → client.traffic ≡ traffic → IsReturned nodes old client traffic outputs new after → Adds old new [] × Booked (step.Return number) outputs [] book client after
      by_traffic (Answered link reply) is takes = by_call link reply is client.core.call refl takes
      by_traffic Quiet is rested = (adds_nothing old new rested.run, rests_booked (step.Return number) outputs book old new client after refl booked rested)
      by_traffic (Asked link words) is rested = (adds_nothing old new rested.run, rests_booked (step.Return number) outputs book old new client after refl booked rested)
