-- The journal of a node: what it did, in order, each step under the ticket that was drawn for it.
use Rattle.std.specs.Prelude.{◌≡◌, ◌<◌, ◌≤◌, ◌^◌, ◌⊎◌, ℕ, nat_lt, Bool, true, false, List, [], ◌∷◌, ◌++◌, Result, map, length, All}
use Rattle.std.specs.List.{Contains, flat_map}
use Rattle.cluster_config.specs.Config.{ClusterConfig}
use Rattle.node_gate.specs.Asks.{outcome_of}
use Rattle.node_step.specs.Numbers.{NoNumberLeft}
use Rattle.node_step.specs.State.{NodeState, first_state}
use Rattle.node_step.specs.Step.{NodeStep}
use Rattle.node_step.specs.declared.event.Event.{Event}
use Rattle.node_step.specs.declared.event.Event.TheVariants.{Deliver}
use Rattle.step_fault.specs.declared.fault.StepFault.{StepFault}
use Rattle.step_fault.specs.declared.fault.StepFault.TheVariants.{Memory, Exhausted}
use Rattle.node_step.specs.declared.outputs.Outputs.{Outputs}
use Rattle.node_step.specs.declared.outputs.Release.{Release}
use Rattle.bus.specs.declared.message.Message.{Message}
use Rattle.cell_parts.specs.Undelivered.{undelivered_after}
use Rattle.cell_parts.specs.declared.delivery.DeliveryFault.{DeliveryFault}
use Rattle.cell_parts.specs.declared.delivery.DeliveryFault.TheVariants.{Refused, Early}
use Rattle.cell_parts.specs.declared.entry.Entry.{Entry}
use Rattle.cell_parts.specs.declared.entry.Entry.TheVariants.{Step, Skipped}

-- a configuration without nodes, for a type that stands for any cluster
abbrev pub no_cluster : ClusterConfig
no_cluster = record { tick_ms = 0; node_timeout = 0; backlog = 0; nodes = []; voters = [] }

-- a step that was entered
pub record EnteredView : Type 0 where
  pub event : Event
  pub outputs : Outputs

-- what came of an event, by the step that was entered
abbrev pub outcome_entered : Result EnteredView StepFault → Result Outputs StepFault
outcome_entered = outcome_of (λ entered. entered.outputs)

-- a cell: the cluster's configuration, which node it is, its state, its journal, the replies to connections that waited and the
-- messages to other nodes that nobody has taken yet
pub record CellView : Type 0 where
  pub config : ClusterConfig
  pub node : ℕ
  pub state : NodeState
  pub journal : List Entry
  pub undelivered : List Release
  pub outbox : List Message

-- the ticket of an entry
abbrev pub ticket_of : Entry → ℕ
ticket_of (Step event outputs) = outputs.ticket
ticket_of (Skipped ticket) = ticket

abbrev pub tickets_of : List Entry → List ℕ
tickets_of entries = map ticket_of entries

-- the replies that the step of an entry gave to connections that waited
abbrev pub released_by : Entry → List Release
released_by (Step event outputs) = outputs.released
released_by (Skipped ticket) = []

-- a step of the journal gave this reply to a connection that waited
abbrev pub IsGiven : List Entry → Release → Type 0
IsGiven journal release = Contains (flat_map released_by journal) release

-- the event may take place under the ticket: a message comes under a greater one than that of the step that sent it
abbrev pub comes_in_time : ℕ → Event → Bool
comes_in_time ticket (Deliver message) = nat_lt message.ticket ticket
comes_in_time ticket event = true

-- an entry leads from a state to the next: by a step under its ticket, or to the same state
abbrev pub Leads : NodeState → Entry → NodeState → Type 0
Leads old (Step event outputs) new = (comes_in_time outputs.ticket event ≡ true) × NodeStep outputs.ticket old event outputs new
Leads old (Skipped ticket) new = new ≡ old

-- the entries lead from the first state to the last
abbrev pub IsHistory : NodeState → List Entry → NodeState → Type 0
IsHistory first [] last = last ≡ first
IsHistory first (entry ∷ entries) last = (next : NodeState) × Leads first entry next × IsHistory next entries last

-- the cell's journal leads from its node's first state to its state
abbrev pub HasHistory : CellView → Type 0
HasHistory cell = IsHistory (first_state cell.config cell.node) cell.journal cell.state

-- a node of the cluster comes to the state from its first one, by the steps of the journal
pub record IsReachable (config : ClusterConfig) (journal : List Entry) (state : NodeState) : Type 0 where
  pub number : ℕ
  pub is_node : number < length config.nodes
  pub history : IsHistory (first_state config number) journal state

-- a step of a node of the cluster, from a state that it comes to, sent the message
pub record IsSent (config : ClusterConfig) (message : Message) : Type 0 where
  pub journal : List Entry
  pub ticket : ℕ
  pub old : NodeState
  pub new : NodeState
  pub event : Event
  pub outputs : Outputs
  pub reachable : IsReachable config journal old
  pub in_time : comes_in_time ticket event ≡ true
  pub step : NodeStep ticket old event outputs new
  pub sent : Contains outputs.sent message

-- each number is greater than all before it
abbrev pub Rises : List ℕ → Type 0
Rises [] = Unit {0}
Rises (n ∷ ns) = All (λ later. n < later) ns × Rises ns

-- the journal of a node: from the configuration's first state to the node's state, under rising tickets,
-- which are all that the node drew
pub record IsJournal (first : NodeState) (journal : List Entry) (state : NodeState) (drawn : List ℕ) : Type 0 where
  pub history : IsHistory first journal state
  pub rises : Rises (tickets_of journal)
  pub drawn_are : tickets_of journal ≡ drawn

-- an entry was made under the ticket, and leads to the new state
pub record Advances (old : NodeState) (before : List Entry) (ticket : ℕ) (new : NodeState) (after : List Entry) : Type 0 where
  pub entry : Entry
  pub under : ticket_of entry ≡ ticket
  pub leads : Leads old entry new
  pub entered : after ≡ before ++ entry ∷ []

-- the entry of a step
abbrev pub entry_of : EnteredView → Entry
entry_of entered = Step entered.event entered.outputs

-- a step was made for the event under the ticket, and entered
pub record Makes (old : NodeState) (before : List Entry) (ticket : ℕ) (event : Event) (entered : EnteredView)
    (new : NodeState) (after : List Entry) : Type 0 where
  pub of : entered.event ≡ event
  pub in_time : comes_in_time ticket event ≡ true
  pub step : NodeStep ticket old event entered.outputs new
  pub entry : after ≡ before ++ entry_of entered ∷ []

-- why a node refuses an event
abbrev pub IsReason : NodeState → Event → StepFault → Type 0
IsReason state event fault = (fault ≡ Memory) ⊎ ((fault ≡ Exhausted) × NoNumberLeft state event)

-- the node refused the event, and the ticket was entered as skipped
pub record Skips (old : NodeState) (before : List Entry) (ticket : ℕ) (event : Event) (fault : StepFault)
    (new : NodeState) (after : List Entry) : Type 0 where
  pub unchanged : new ≡ old
  pub entry : after ≡ before ++ Skipped ticket ∷ []
  pub reason : IsReason old event fault

-- a step was made: it stands at the end of the journal, and is a step of the node
pub record Enters (old : CellView) (event : Event) (entered : EnteredView) (new : CellView) : Type 0 where
  pub makes : Makes old.state old.journal entered.outputs.ticket event entered new.state new.journal
  pub undelivered : new.undelivered ≡ undelivered_after event old.undelivered entered.outputs.released
  pub outbox : new.outbox ≡ old.outbox ++ entered.outputs.sent
  pub rest : new ≡ record old { state = new.state; journal = new.journal; undelivered = new.undelivered; outbox = new.outbox }

-- nothing was drawn, since memory was refused or all numbers of the seat are drawn
pub record IsTurnedAway (old : CellView) (fault : StepFault) (new : CellView) : Type 0 where
  pub unchanged : new ≡ old
  pub reason : (fault ≡ Memory) ⊎ ((fault ≡ Exhausted) × (2 ^ 48 ≤ length old.journal))

-- the node refused the event after the ticket was drawn: the ticket is entered, and nothing else changed
pub record IsSkipped (old : CellView) (event : Event) (fault : StepFault) (new : CellView) : Type 0 where
  pub ticket : ℕ
  pub skips : Skips old.state old.journal ticket event fault new.state new.journal
  pub rest : new ≡ record old { journal = new.journal }

-- why no step was made
abbrev pub IsRefused : CellView → Event → StepFault → CellView → Type 0
IsRefused old event fault new = IsTurnedAway old fault new ⊎ IsSkipped old event fault new

-- the event came under a ticket that isn't greater than its own: that ticket is entered as skipped, and nothing else changed
pub record IsTooEarly (old : CellView) (event : Event) (new : CellView) : Type 0 where
  pub ticket : ℕ
  pub early : comes_in_time ticket event ≡ false
  pub entry : new.journal ≡ old.journal ++ Skipped ticket ∷ []
  pub rest : new ≡ record old { journal = new.journal }

-- why no step was made for an event that may be a message
abbrev pub IsNotTaken : CellView → Event → DeliveryFault → CellView → Type 0
IsNotTaken old event (Refused fault) new = IsRefused old event fault new
IsNotTaken old event Early new = IsTooEarly old event new
