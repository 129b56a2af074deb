-- Which commands are executed by the steps of nodes.
use Rattle.std.proofs.Common.{◌≡◌, ◌∙◌, ◌++◌, ◌∷◌, not, ℕ, Bool, true, false, cond, List, [], Option, None, Some, refl, sym, ap, subst, inl, inr, append-nil, append_assoc}
use Rattle.std.proofs.lemmas.List.Elements.{filter_map-append}
use Rattle.std.specs.List.{cons_option}
use Rattle.std.specs.Prelude.{MatchBool}
use Rattle.cluster_config.specs.declared.config.NodeConfig.{NodeConfig}
use Rattle.command_table.specs.declared.error_line.ErrorLine.TheVariants.{Exhausted}
use Rattle.connections.specs.declared.conn.Conn.{Conn}
use Rattle.node_step.specs.Outcome.{error}
use Rattle.node_step.specs.declared.event.Event.TheVariants.{Open, Close, Request}
use Rattle.node_step.specs.declared.response.Answer.{Answer}
use Rattle.node_step.specs.declared.response.Response.{Response}
use Rattle.node_step.specs.declared.response.Response.TheVariants.{Nothing, Opened, Replied, Parked}
use Rattle.reply_meaning.proofs.Laws.{not_executed, tell}
use Rattle.reply_meaning.specs.Law.{Answers}
use Rattle.reply_meaning.specs.Refusal.{is_refusal}
use Rattle.resp_values.specs.declared.reply.Reply.{Reply}
use Rattle.smart_client.specs.Words.{is_refused}
use Rattle.smart_client.specs.declared.action.Action.{Action}
use Rattle.smart_client.specs.declared.action.Action.TheVariants as wanted
use Rattle.world_run.specs.Executed.{Answered, answered, answered_with, decision_in, executed, if_served, is_served}
use Rattle.world_run.specs.Run.{Deed, Entry}
use Rattle.world_run.specs.Run.Deed.{Made, Skipped}
use Rattle.world_nodes.specs.NodeSteps.{Closes, Enters, released_conns}
use Rattle.world_nodes.specs.Nodes.{RunView, is_up}
use Rattle.world_nodes.specs.Serving.{IsOpened, IsServed, Serves, reply_in}
use Rattle.world_nodes.specs.declared.link.Link.{Link}
use Rattle.world_nodes.specs.declared.output.Output.{Output}
use Rattle.world.specs.Calls.{Acts, IsConnected, IsShut, IsUsed, Uses}
use Rattle.world.specs.Clients.{ClientView}

-- these commands are executed
abbrev pub Adds : RunView → RunView → List Answered → Type 0
Adds old new executions = executed new.entries ≡ executed old.entries ++ executions

pub adds_nothing : (old new : RunView) → new ≡ old → Adds old new []
adds_nothing old new same = ap (λ (run : RunView). executed run.entries) same ∙ sym (append-nil (executed old.entries))

pub adds_more : (old mid new : RunView) (first more : List Answered) → Adds old mid first → Adds mid new more → Adds old new (first ++ more)
adds_more old mid new first more one other = other ∙ ap (λ (executions : List Answered). executions ++ more) one ∙ append_assoc (executed old.entries) first more

pub adds_first : (old mid new : RunView) (first : List Answered) → Adds old mid first → Adds mid new [] → Adds old new first
adds_first old mid new first one other = subst (Adds old new) (append-nil first) (adds_more old mid new first [] one other)

-- by one entry
abbrev pub done_by : Deed → List Answered
done_by deed = cons_option (if_served (answered deed)) []

pub enters_adds : (old new : RunView) (node : ℕ) (deed : Deed) → Enters old node deed new → Adds old new (done_by deed)
enters_adds old new node deed enters =
    ap executed enters.enters.entered ∙ filter_map-append (λ (entry : Entry). if_served (answered entry.deed)) old.entries _

pub closes_adds : (old new : RunView) (node : ℕ) (conns : List Conn) → Closes old node conns new → Adds old new []
closes_adds old new node [] same = adds_nothing old new same
closes_adds old new node (conn ∷ conns) closes =
    adds_more old closes.0 new [] [] (enters_adds old closes.0 node (Made (Close conn) closes.1) closes.2) (closes_adds closes.0 new node conns closes.3)

pub shut_adds : (old new : RunView) (link : Link) → IsShut old link new → Adds old new []
shut_adds old new link = by_up (is_up old link.node)
  where
    by_up : (up : Bool) → MatchBool up (Closes old link.node (link.conn ∷ []) new) (new ≡ old) → Adds old new []
    by_up true closes = closes_adds old new link.node (link.conn ∷ []) closes
    by_up false same = adds_nothing old new same

-- ---- what a client wants executes nothing

uses_adds : (old : RunView) (client : ClientView) (link : Option Link) (action : Action) (outputs : List Output) (new : RunView) (after : ClientView) → Uses old client link action outputs new after → Adds old new []
uses_adds old client link (wanted.Connect address) outputs new after uses = absurd uses
uses_adds old client None (wanted.Send words) outputs new after uses = absurd uses
uses_adds old client (Some link) (wanted.Send words) outputs new after uses = adds_nothing old new uses.0
uses_adds old client None (wanted.Done answer close) outputs new after uses = adds_nothing old new uses.0.0
uses_adds old client (Some link) (wanted.Done answer true) outputs new after uses = shut_adds old new link uses.0.0
uses_adds old client (Some link) (wanted.Done answer false) outputs new after uses = adds_nothing old new uses.0.0

opened_adds : (old new : RunView) (node : ℕ) (conn : Option Conn) → IsOpened old node conn new → Adds old new []
opened_adds old new node None skips = enters_adds old new node Skipped skips.enters
opened_adds old new node (Some conn) opened = enters_adds old new node (Made Open opened.0) opened.1

connected_adds : (old new : RunView) (node : ℕ) (before conn : Option Conn) → IsConnected old node before conn new → Adds old new []
connected_adds old new node before conn = by_up (is_up old node)
  where
    used_adds : (before : Option Conn) → IsUsed old node before conn new → Adds old new []
    used_adds None opened = opened_adds old new node conn opened
    used_adds (Some one) used = adds_nothing old new used.0

    by_up : (up : Bool) → MatchBool up (IsUsed old node before conn new) ((new ≡ old) × (conn ≡ None)) → Adds old new []
    by_up true used = used_adds before used
    by_up false gone = adds_nothing old new gone.0

pub acts_adds : (nodes : List NodeConfig) (old : RunView) (client : ClientView) (link : Option Link) (action : Action) (outputs : List Output) (new : RunView) (after : ClientView)
    → Acts nodes old client link action outputs new after → Adds old new []
acts_adds nodes old client link (wanted.Connect address) outputs new after acts =
    adds_first old acts.run new [] (connected_adds old acts.run _ _ acts.conn acts.connected) (uses_adds acts.run _ _ acts.tells.action outputs new after acts.tells.uses)
acts_adds nodes old client link (wanted.Send words) outputs new after acts = uses_adds old client link (wanted.Send words) outputs new after acts
acts_adds nodes old client link (wanted.Done answer close) outputs new after acts = uses_adds old client link (wanted.Done answer close) outputs new after acts

-- ---- requests

-- the command was executed, with this reply
abbrev pub IsDone : List (List ℕ) → Reply → List Answered → Type 0
IsDone words reply executions = (one : Answered) × (executions ≡ one ∷ []) × (one.words ≡ words) × (one.answer.reply ≡ reply)

-- by the reply: words about data were executed exactly where it is no refusal
abbrev pub IsSo : List (List ℕ) → Option Reply → List Answered → Type 0
IsSo words None executions = executions ≡ []
IsSo words (Some reply) executions = MatchBool (is_refused words) (executions ≡ []) (MatchBool (is_refusal reply) (executions ≡ []) (IsDone words reply executions))

module _ (words : List (List ℕ)) (answer : Answer) where
  -- what is entered, by the decision
  done_with : (served : Bool) → is_served (decision_in answer.why) ≡ served → cons_option (if_served (Some (record { words = words; answer = answer }))) [] ≡ cond served (record { words = words; answer = answer } ∷ []) []
  done_with true is = ap (λ (b : Bool). cons_option (cond b (Some (record { words = words; answer = answer })) None) []) is
  done_with false is = ap (λ (b : Bool). cons_option (cond b (Some (record { words = words; answer = answer })) None) []) is

  data_so : (refuses : Bool) → is_refusal answer.reply ≡ refuses → is_served (decision_in answer.why) ≡ not (is_refusal answer.reply)
      → MatchBool refuses (cons_option (if_served (Some (record { words = words; answer = answer }))) [] ≡ []) (IsDone words answer.reply (cons_option (if_served (Some (record { words = words; answer = answer }))) []))
  data_so true is tells = done_with false (tells ∙ ap not is)
  data_so false is tells = (record { words = words; answer = answer }, done_with true (tells ∙ ap not is), refl, refl)

  words_so : (refused : Bool) → is_refused words ≡ refused → (is_refused words ≡ true → is_served (decision_in answer.why) ≡ false)
      → (is_refused words ≡ false → is_served (decision_in answer.why) ≡ not (is_refusal answer.reply))
      → MatchBool refused (cons_option (if_served (Some (record { words = words; answer = answer }))) [] ≡ [])
      (MatchBool (is_refusal answer.reply) (cons_option (if_served (Some (record { words = words; answer = answer }))) [] ≡ [])
      (IsDone words answer.reply (cons_option (if_served (Some (record { words = words; answer = answer }))) [])))
  words_so true is idle tells = done_with false (idle is)
  words_so false is idle tells = data_so (is_refusal answer.reply) refl (tells is)

-- a step for a request, and its reply
pub record Serving (old new : RunView) (words : List (List ℕ)) (reply : Option Reply) : Type 0 where
  pub executions : List Answered
  pub adds : Adds old new executions
  pub so : IsSo words reply executions

served_so : (old new : RunView) (node : ℕ) (conn : Conn) (words : List (List ℕ)) (reply : Option Reply) (outputs : List Output) → IsServed old node conn words reply outputs new → Serving old new words reply
served_so old new node conn words reply outputs served = record {
  executions = done_by (Made (Request conn words) served.made);
  adds = adds_first old served.after new (done_by (Made (Request conn words) served.made)) (enters_adds old served.after node (Made (Request conn words) served.made) served.makes)
      (closes_adds served.after new node (released_conns served.made.released) served.closes);
  so = subst (λ (r : Option Reply). IsSo words r (done_by (Made (Request conn words) served.made))) (sym served.replies) (by_response served.made.response refl);
}
  where
    by_response : (response : Response) → served.made.response ≡ response → IsSo words (reply_in served.made.response) (cons_option (if_served (answered_with words served.made.response)) [])
    by_response (Replied answer) is =
        let answers : Answers served.makes.enters.step.before conn words answer =
        record { ticket = served.makes.enters.ticket; outputs = served.made; after = served.makes.enters.step.after; step = served.makes.enters.step.leads.1; response = is } in
        subst (λ (r : Response). IsSo words (reply_in r) (cons_option (if_served (answered_with words r)) [])) (sym is)
        (words_so words answer (is_refused words) refl (not_executed served.makes.enters.step.before conn words answer answers) (tell served.makes.enters.step.before conn words answer answers))
    by_response Nothing is = subst (λ (r : Response). IsSo words (reply_in r) (cons_option (if_served (answered_with words r)) [])) (sym is) refl
    by_response (Opened other) is = subst (λ (r : Response). IsSo words (reply_in r) (cons_option (if_served (answered_with words r)) [])) (sym is) refl
    by_response Parked is = subst (λ (r : Response). IsSo words (reply_in r) (cons_option (if_served (answered_with words r)) [])) (sym is) refl

pub serves_so : (old new : RunView) (node : ℕ) (conn : Conn) (words : List (List ℕ)) (reply : Option Reply) (outputs : List Output) → Serves old node conn words reply outputs new → Serving old new words reply
serves_so old new node conn words reply outputs (inl served) = served_so old new node conn words reply outputs served
serves_so old new node conn words reply outputs (inr skipped) = record {
  executions = [];
  adds = enters_adds old new node Skipped skipped.skips.enters;
  so = subst (λ (r : Option Reply). IsSo words r []) (sym skipped.replies) (by_words (is_refused words));
}
  where
    by_words : (refused : Bool) → MatchBool refused (◌≡◌ {A = List Answered} [] []) (MatchBool (is_refusal (error Exhausted)) (◌≡◌ {A = List Answered} [] []) (IsDone words (error Exhausted) []))
    by_words true = refl
    by_words false = refl
