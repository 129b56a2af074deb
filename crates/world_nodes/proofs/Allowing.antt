-- Requests that may come to a node keep to the asking rule.
use Rattle.std.proofs.Common.{◌≡◌, ℕ, true, true≢false, List, Option, Some, None, refl, sym, subst}
use Rattle.std.proofs.lemmas.Bool.{eqb-true}
use Rattle.std.specs.Prelude.{reverse}
use Rattle.connections.specs.declared.conn.Conn.{Conn}
use Rattle.node_step.specs.State.{NodeState}
use Rattle.node_step.specs.declared.event.Event.{Event}
use Rattle.node_step.specs.declared.event.Event.TheVariants.{Open, Close, Request, Deliver, Tick}
use Rattle.node_step.specs.declared.outputs.Outputs.{Outputs}
use Rattle.node_step.specs.declared.response.Answer.{Answer}
use Rattle.node_step.specs.declared.response.Response.{Response}
use Rattle.node_step.specs.declared.response.Response.TheVariants.{Nothing, Opened, Replied, Parked}
use Rattle.redirect.specs.Asked.{is_right}
use Rattle.redirect.specs.declared.asked.Asking.{Asking}
use Rattle.redirect.specs.declared.asked.Asking.TheVariants.{No, Any, Of}
use Rattle.redirect.specs.declared.decision.Decision.{Decision}
use Rattle.redirect.specs.declared.decision.Decision.TheVariants.{Serve, ServeImport, CrossSlot, Down, TryAgain, Ask, Moved}
use Rattle.world_run.specs.Executed.{MayAsk, WasRedirected, answered, answered_with, decision_in}
use Rattle.world_run.specs.Run.{Entry}
use Rattle.world_run.specs.Run.Deed.{Made}
use Rattle.world_nodes.specs.Allowed.{IsAllowed, IsTold, MayTake, asking_in, past_of}
use Rattle.world_nodes.specs.Entered.{EntersAt}
use Rattle.world_nodes.specs.NodeSteps.{IsUnasked, Makes}
use Rattle.world_nodes.specs.Nodes.{RunView}
use Rattle.world_nodes.proofs.Connected.{asking_on, served_if_allowed}
use Rattle.world_nodes.proofs.Leaving.{opened_is_fresh}

-- what is served in an importing slot was told
right_is_told : (past : List Entry) (words : List (List ℕ)) (node number : ℕ) (asking : Asking) → IsAllowed past words node asking → is_right asking number ≡ true → IsTold past words node number
right_is_told past words node number No allowed right = absurd (true≢false (sym right))
right_is_told past words node number Any allowed right = absurd allowed
right_is_told past words node number (Of named) allowed right = subst (IsTold past words node) (eqb-true named number right) allowed

module _ (past : List Entry) (node : ℕ) (words : List (List ℕ)) where
  by_decision : (decision : Option Decision) → ((number : ℕ) → decision ≡ Some (ServeImport number) → IsTold past words node number) → WasRedirected past node words decision
  by_decision None told = tt
  by_decision (Some (ServeImport number)) told = told number refl
  by_decision (Some Serve) told = tt
  by_decision (Some CrossSlot) told = tt
  by_decision (Some Down) told = tt
  by_decision (Some (TryAgain reason)) told = tt
  by_decision (Some (Ask slot to number)) told = tt
  by_decision (Some (Moved slot to)) told = tt

  by_response : (response : Response) → ((answer : Answer) (number : ℕ) → response ≡ Replied answer → decision_in answer.why ≡ Some (ServeImport number) → IsTold past words node number)
      → MayAsk past node (answered_with words response)
  by_response (Replied answer) told = by_decision (decision_in answer.why) (λ number is. told answer number refl is)
  by_response Nothing told = tt
  by_response (Opened conn) told = tt
  by_response Parked told = tt

pub taken_may_ask : (old : RunView) (node : ℕ) (event : Event) (outputs : Outputs) (entries : List Entry) (nodes : List NodeState) → MayTake old node event
    → EntersAt old.entries old.nodes node (Made event outputs) entries nodes → MayAsk (reverse old.entries) node (answered (Made event outputs))
taken_may_ask old node (Request conn words) outputs entries nodes may enters =
    let step = enters.step in
    let allowed : IsAllowed (past_of old) words node (asking_on step.before conn) =
    subst (λ (s : Option NodeState). IsAllowed (past_of old) words node (asking_in s conn)) step.was may in
    by_response (past_of old) node words outputs.response
    (λ answer number replied served. right_is_told (past_of old) words node number (asking_on step.before conn) allowed
    (served_if_allowed enters.ticket step.before step.after conn words outputs answer number step.leads.1 replied served))
taken_may_ask old node Open outputs entries nodes may enters = tt
taken_may_ask old node (Close conn) outputs entries nodes may enters = tt
taken_may_ask old node (Deliver message) outputs entries nodes may enters = tt
taken_may_ask old node Tick outputs entries nodes may enters = tt

-- ---- who may ask

-- what no connection asks for may always come
pub unasked_may_come : (run : RunView) (node : ℕ) (event : Event) → IsUnasked event → MayTake run node event
unasked_may_come run node (Request conn words) unasked = absurd unasked
unasked_may_come run node Open unasked = tt
unasked_may_come run node (Close conn) unasked = tt
unasked_may_come run node (Deliver message) unasked = tt
unasked_may_come run node Tick unasked = tt

-- any request may come on a connection that was just opened
pub opened_may_ask : (old new : RunView) (node : ℕ) (conn : Conn) (outputs : Outputs) (words : List (List ℕ)) → Makes old node Open outputs new → outputs.response ≡ Opened conn → MayTake new node (Request conn words)
opened_may_ask old new node conn outputs words makes names =
    subst (IsAllowed (past_of new) words node) (sym (opened_is_fresh old new node conn outputs makes names).calm) tt
