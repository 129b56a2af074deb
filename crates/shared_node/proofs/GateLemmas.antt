-- What a gate answers.
use Rattle.std.proofs.Common.{◌≡◌, ◌⊎◌, ◌<◌, ◌≤◌, ◌^◌, ◌++◌, ◌∷◌, [], ℕ, List, IfErr, IfOk, Option, Some, None, true, true≢false, inl, inr, length, subst, sym}
use Rattle.std.specs.Prelude.{IfSome, Result, Ok, Err, is_some}
use Rattle.cluster_config.specs.Config.{ClusterConfig}
use Rattle.connections.specs.declared.conn.Conn.{Conn}
use Rattle.node_gate.specs.Asks.{Asked}
use Rattle.node_gate.specs.Asks.Asked.{asking, waiting}
use Rattle.node_step.specs.State.{NodeState, first_state}
use Rattle.node_step.specs.declared.event.Event.{Event}
use Rattle.cell_parts.specs.Journal.{CellView, EnteredView, Enters, IsGiven, IsHistory, IsReachable, IsReason, IsRefused, outcome_entered}
use Rattle.cell_parts.specs.declared.entry.Entry.{Entry}
use Rattle.step_fault.specs.declared.fault.StepFault.{StepFault}
use Rattle.step_fault.specs.declared.fault.StepFault.TheVariants.{Memory, Exhausted}
use Rattle.resp_values.specs.declared.reply.Reply.{Reply}
use Rattle.shared_node.specs.Answers.{MayCome, MayGive, MayRefuse}

-- the state of a cell of the cluster is one that a node of it comes to
reachable : (config own : ClusterConfig) (node : ℕ) (journal : List Entry) (state : NodeState) → own ≡ config → node < length own.nodes
    → IsHistory (first_state own node) journal state → IsReachable config journal state
reachable config own node journal state same is_node history =
    subst (λ c. IsReachable c journal state) same (record { number = node; is_node = is_node; history = history })

-- a node that was reached so may refuse an event for want of memory, of tickets, or of a number that the event needs
module _ (config : ClusterConfig) (journal : List Entry) (state : NodeState) (event : Event) (fault : StepFault) (comes : IsReachable config journal state) where
  turned_away_so : (fault ≡ Memory) ⊎ ((fault ≡ Exhausted) × (2 ^ 48 ≤ length journal)) → MayRefuse config event fault
  turned_away_so (inl memory) = inl memory
  turned_away_so (inr (out, all)) = inr (out, record { journal = journal; state = state; reachable = comes; reason = inr all })

  skipped_so : IsReason state event fault → MayRefuse config event fault
  skipped_so (inl memory) = inl memory
  skipped_so (inr (out, none)) = inr (out, record { journal = journal; state = state; reachable = comes; reason = inl none })

may_refuse : (config : ClusterConfig) (old new : CellView) (event : Event) (fault : StepFault) → IsReachable config old.journal old.state
    → IsRefused old event fault new → MayRefuse config event fault
may_refuse config old new event fault comes (inl away) = turned_away_so config old.journal old.state event fault comes away.reason
may_refuse config old new event fault comes (inr skipped) = skipped_so config old.journal old.state event fault comes skipped.skips.reason

-- a step that a cell of the cluster entered is one that a node of it may answer, and why the cell refuses an event is why the node may
pub may_come_of_step : (config : ClusterConfig) (old new : CellView) (event : Event) (result : Result EnteredView StepFault) → old.config ≡ config
    → old.node < length old.config.nodes → IsHistory (first_state old.config old.node) old.journal old.state
    → IfOk result (λ entered. Enters old event entered new) → IfErr result (λ fault. IsRefused old event fault new)
    → MayCome config (asking event (outcome_entered result))
may_come_of_step config old new event (Ok entered) same is_node history made refused =
    record {
      journal = old.journal;
      old = old.state;
      new = new.state;
      reachable = reachable config old.config old.node old.journal old.state same is_node history;
      step = made.makes.step;
    }
may_come_of_step config old new event (Err fault) same is_node history made refused =
    may_refuse config old new event fault (reachable config old.config old.node old.journal old.state same is_node history) refused

-- a reply that was taken from a cell of the cluster is one that a node of it may give
pub may_give_if_taken : (config own : ClusterConfig) (node : ℕ) (journal : List Entry) (state : NodeState) (conn : Conn) (result : Option Reply) → own ≡ config
    → node < length own.nodes → IsHistory (first_state own node) journal state
    → IfSome result (λ reply. IsGiven journal (record { conn = conn; reply = reply })) → IfSome result (λ reply. MayGive config conn reply)
may_give_if_taken config own node journal state conn None same is_node history given = tt
may_give_if_taken config own node journal state conn (Some reply) same is_node history given =
    record {
      journal = journal;
      state = state;
      reachable = reachable config own node journal state same is_node history;
      given = given;
    }

pub may_come_of_wait : (config own : ClusterConfig) (node : ℕ) (journal : List Entry) (state : NodeState) (conn : Conn) (result : Option Reply) → own ≡ config
    → node < length own.nodes → IsHistory (first_state own node) journal state
    → IfSome result (λ reply. IsGiven journal (record { conn = conn; reply = reply })) → MayCome config (waiting conn result)
may_come_of_wait config own node journal state conn None same is_node history given = tt
may_come_of_wait config own node journal state conn (Some reply) same is_node history given =
    may_give_if_taken config own node journal state conn (Some reply) same is_node history given

-- a reply that came at last is noted behind what was asked before the wait
pub noted_at_last : (conn : Conn) (result : Option Reply) (begun old new : List Asked) → is_some result ≡ true → old ≡ begun
    → IfSome result (λ reply. new ≡ old ++ waiting conn (Some reply) ∷ []) → new ≡ begun ++ waiting conn result ∷ []
noted_at_last conn None begun old new came same noted = absurd (true≢false (sym came))
noted_at_last conn (Some reply) begun old new came same noted = subst (λ (asks : List Asked). new ≡ asks ++ waiting conn (Some reply) ∷ []) same noted
