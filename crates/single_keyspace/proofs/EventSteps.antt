-- Steps of a node, whatever happens to it.
use Rattle.std.proofs.Common.{◌≡◌, ℕ, List, Bool, true, false, None, refl, sym, subst}
use Rattle.std.specs.Prelude.{MatchBool, is_some}
use Rattle.command_table.specs.Table.{command_of}
use Rattle.keyspace.specs.Keyspace.{Keyspace}
use Rattle.keyspace.specs.Locality.{CommandsAreLocal}
use Rattle.connections.specs.Connections.{connection_at, may_ask}
use Rattle.node_step.specs.Outcome.{Outcome, outputs_of, silent}
use Rattle.node_step.specs.Requests.{request_outcome, using_up}
use Rattle.node_step.specs.State.{NodeState}
use Rattle.node_step.specs.Streams.{Requests, with_written}
use Rattle.node_step.specs.declared.response.Response.{Response}
use Rattle.node_step.specs.Step.{IsAnswering, IsClosing, MayCome, written}
use Rattle.connections.specs.declared.conn.Conn.{Conn}
use Rattle.node_step.specs.declared.event.Event.{Event}
use Rattle.node_step.specs.declared.event.Event.TheVariants.{Open, Close, Request, Deliver, Tick}
use Rattle.world_run.specs.Executed.{MayAsk, answered, answered_with}
use Rattle.world_run.specs.Run.{Entry, MayHappen}
use Rattle.world_run.specs.Run.Deed.{Made}
use Rattle.single_keyspace.specs.Stands.{NodeStands}
use Rattle.single_keyspace.proofs.MessageSteps.{delivered_stands, tick_stands}
use Rattle.single_keyspace.proofs.RequestSteps.{command_stands}
use Rattle.single_keyspace.proofs.Seen.{SlotWas, again}
use Rattle.node_step.proofs.WithWritten.{with_written_response}
use Rattle.single_keyspace.proofs.Steps.{StepStands, nothing_sent, quiet_still, with_written_stands}

module _ {past : List Entry} {n : ℕ} {before : NodeState} {one : Keyspace} (was : (slot : ℕ) → SlotWas past n before one slot) (stands : NodeStands n before) (local : CommandsAreLocal) where
  nothing_happens : StepStands was None (silent before)
  nothing_happens = quiet_still was None refl refl (silent before) stands (λ slot. refl) (nothing_sent past n before)

  closing_stands : (conn : Conn) (is_open : Bool) (outcome : Outcome) → MatchBool is_open (IsClosing before conn outcome) (outcome ≡ silent before) → StepStands was None outcome
  closing_stands conn false outcome may = subst (StepStands was None) (sym may) nothing_happens
  closing_stands conn true outcome may =
      let after : NodeState = record before { connections = outcome.state.connections } in
      subst (StepStands was None) (sym may.comes_to)
      (quiet_still was None refl refl (silent after) (record { number_is = stands.number_is; slots = stands.slots; is_master = stands.is_master; rests = stands.rests }) (λ slot. refl) (nothing_sent past n after))

  answering_stands : (conn : Conn) (words : List (List ℕ)) (outcome : Outcome) → IsAnswering before conn words outcome → MayAsk past n (answered_with words outcome.response)
      → StepStands was (answered_with words outcome.response) outcome
  answering_stands conn words outcome answering may =
      let asked : Outcome = request_outcome before conn (command_of words) in
      let requests : Requests = written before conn words in
      let inner = command_stands (λ slot. again (was slot) (using_up before conn) refl) (record { number_is = stands.number_is; slots = stands.slots; is_master = stands.is_master; rests = stands.rests }) local words conn (connection_at before.connections conn)
      (command_of words) refl (subst (λ (r : Response). MayAsk past n (answered_with words r)) (with_written_response asked requests answering.dropped)
      (subst (λ (o : Outcome). MayAsk past n (answered_with words o.response)) answering.comes_to may)) in
      let answered_so : StepStands was (answered_with words asked.response) asked =
      record { node = inner.node; holds = inner.holds; sent = inner.sent; told = inner.told; replies = inner.replies } in
      subst (λ (o : Outcome). StepStands was (answered_with words o.response) o) (sym answering.comes_to)
      (subst (λ (r : Response). StepStands was (answered_with words r) (with_written asked requests answering.dropped)) (sym (with_written_response asked requests answering.dropped))
      (with_written_stands was (answered_with words asked.response) asked requests answering.dropped answered_so))

  request_stands : (conn : Conn) (words : List (List ℕ)) (asks : Bool) (outcome : Outcome) → MatchBool asks (IsAnswering before conn words outcome) (outcome ≡ silent before)
      → MayAsk past n (answered_with words outcome.response) → StepStands was (answered_with words outcome.response) outcome
  request_stands conn words false outcome may asking = subst (λ (o : Outcome). StepStands was (answered_with words o.response) o) (sym may) nothing_happens
  request_stands conn words true outcome may asking = answering_stands conn words outcome may asking

  pub event_stands : (ticket : ℕ) (event : Event) (outcome : Outcome) → MayHappen past event → MayCome before event outcome → MayAsk past n (answered (Made event (outputs_of ticket outcome)))
      → StepStands was (answered (Made event (outputs_of ticket outcome))) outcome
  event_stands ticket Open outcome happens may asking =
      let after : NodeState = record before { connections = outcome.state.connections } in
      subst (StepStands was None) (sym may.comes_to)
      (quiet_still was None refl refl _ (record { number_is = stands.number_is; slots = stands.slots; is_master = stands.is_master; rests = stands.rests }) (λ slot. refl) (nothing_sent past n after))
  event_stands ticket (Close conn) outcome happens may asking = closing_stands conn (is_some (connection_at before.connections conn)) outcome may
  event_stands ticket (Request conn words) outcome happens may asking = request_stands conn words (may_ask (connection_at before.connections conn)) outcome may asking
  event_stands ticket (Deliver message) outcome happens may asking = subst (StepStands was None) (sym may.comes_to) (delivered_stands was stands message may.choice happens)
  event_stands ticket Tick outcome happens may asking = subst (StepStands was None) (sym may.comes_to) (tick_stands was stands)
