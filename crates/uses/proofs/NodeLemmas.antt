-- What a node answers that was asked to set a key.
use Rattle.std.proofs.Common.{◌≡◌, ℕ, zero, suc, ◌+◌, List, [], ◌∷◌, Bool, true, false, length, length-append, ap, refl, sym, subst, ◌∙◌}
use Rattle.std.proofs.lemmas.Cmp.{nat_eq_equiv}
use Rattle.std.specs.FinMap as map
use Rattle.std.specs.Prelude.{Option, Some, None, Ok, codes, if◌then◌else◌, is_some, slice_index_or, slice_set}
use Rattle.resp_values.specs.declared.reply.Reply.TheVariants.{Bulk}
use Rattle.command_table.specs.Table.{command_of}
use Rattle.command_table.specs.Keys.{data_keys}
use Rattle.command_table.specs.declared.command.Command.TheVariants.{Data}
use Rattle.command_table.specs.declared.command.DataCommand.{DataCommand}
use Rattle.command_table.specs.declared.command.DataCommand.TheVariants.{Get, Set}
use Rattle.command_table.specs.declared.command.Condition.TheVariants.{Always}
use Rattle.keyspace.specs.Strings.{string_reply}
use Rattle.keyspace.specs.declared.value.Value.TheVariants.{Str}
use Rattle.slot_table.specs.declared.entry.SlotEntry.{SlotEntry}
use Rattle.slot_state.specs.Moves.{Moves}
use Rattle.slot_state.specs.declared.running.Move.{Move}
use Rattle.slot_state.specs.declared.running.Move.TheVariants.{Leaves, Comes}
use Rattle.slot_state.specs.declared.state.SlotState.{SlotState}
use Rattle.slot_state.specs.declared.state.SlotState.TheVariants.{Owned, Foreign, Moving}
use Rattle.key_slot.specs.Slot.{hash_slot}
use Rattle.slot_table.specs.Table.{owner_at}
use Rattle.redirect.specs.Asked.{Asked, is_frozen}
use Rattle.redirect.specs.Decision.{decision, in_slot, leaving, state_at}
use Rattle.redirect.specs.declared.asked.Asking.TheVariants.{No}
use Rattle.redirect.specs.declared.decision.Decision.{Decision}
use Rattle.redirect.specs.declared.decision.Decision.TheVariants.{Serve, Ask, TryAgain}
use Rattle.redirect.specs.declared.decision.Reason.TheVariants.{Frozen}
use Rattle.connections.specs.Connections.{ConnectionTable, connection_at, open_at, updated, with_generation, may_ask, fresh}
use Rattle.connections.specs.declared.conn.Conn.{Conn}
use Rattle.connections.specs.declared.conn.Connection.{Connection}
use Rattle.node_step.specs.Commands.{command_outcome, decision_on, served as served_by, executed}
use Rattle.node_step.proofs.WithWritten.{with_written_response, with_written_state}
use Rattle.node_step.specs.Outcome.{Outcome}
use Rattle.node_step.specs.Requests.{asking_of, is_numbered, request_outcome, using_up}
use Rattle.node_step.specs.State.{NodeState}
use Rattle.node_step.specs.Step.{NodeStep, written}
use Rattle.node_step.specs.Streams.{with_written}
use Rattle.node_step.specs.declared.event.Event.{Event}
use Rattle.node_step.specs.declared.event.Event.TheVariants.{Open, Request}
use Rattle.node_step.specs.declared.outputs.Outputs.{Outputs}
use Rattle.node_step.specs.declared.response.Response.TheVariants.{Opened}
use Rattle.cell_parts.specs.Journal.{CellView, EnteredView, Enters}
use Rattle.uses.specs.Serving.{IsServedBy, served}
use Rattle.uses.proofs.KeyLemmas.{get_set}

-- ---- the connection

-- the connection is as it was opened
abbrev IsFresh : NodeState → Conn → Type 0
IsFresh state conn = connection_at state.connections conn ≡ Some (fresh conn.generation)

fresh_here : (conn : Conn) (found : Option Connection) → found ≡ Some (fresh conn.generation) → with_generation conn.generation found ≡ Some (fresh conn.generation)
fresh_here conn found is =
    ap (with_generation conn.generation) is
    ∙ ap (λ b. if b then Some (fresh conn.generation) else None) (nat_eq_equiv.refl conn.generation)

-- what was put at a place where there was a connection stands there
put_here : (slots : List (Option Connection)) (key : ℕ) (former other : Connection) → slice_index_or slots key None ≡ Some former
    → slice_index_or (slice_set slots key (Some other)) key None ≡ Some other
put_here [] key former other is = absurd (cc)
put_here (slot ∷ slots) zero former other is = refl
put_here (slot ∷ slots) (suc key) former other is = put_here slots key former other is

-- one that is found stands at its key
stands : (generation : ℕ) (found : Option Connection) (connection : Connection) → with_generation generation found ≡ Some connection → (former : Connection) × (found ≡ Some former)
stands generation None connection is = absurd (cc)
stands generation (Some former) connection is = (former, refl)

-- a request leaves a fresh connection as it is
still_fresh : (state : NodeState) (conn : Conn) → IsFresh state conn → IsFresh (using_up state conn) conn
still_fresh state conn is =
    let table = state.connections in
    let there = stands conn.generation (open_at table conn.key) (fresh conn.generation) is in
    ap (λ found. connection_at (updated table conn.key (λ (c : Connection). record c { asking = No }) found) conn) is
    ∙ fresh_here conn _ (put_here table.slots conn.key there.0 (fresh conn.generation) there.1)

-- ---- the decision

abbrev asked_one : List ℕ → Bool → Bool → Asked
asked_one key paused there = record { keys = key ∷ []; there = there ∷ []; asking = No; paused = paused }

-- in a slot that leaves, a key that is served is served once it is there
leaving_still : (elsewhere : Decision) (frozen : Option (List (List ℕ))) (key : List ℕ) (paused there : Bool) → leaving elsewhere frozen (asked_one key paused there) ≡ Serve
    → leaving elsewhere frozen (asked_one key paused true) ≡ Serve
leaving_still elsewhere frozen key paused true serves = serves
leaving_still elsewhere frozen key paused false serves = by (is_frozen frozen (key ∷ [])) serves
  where
    by : (held : Bool) → (if held then TryAgain Frozen else elsewhere) ≡ Serve → (if held then TryAgain Frozen else Serve) ≡ Serve
    by true serves = serves
    by false serves = refl

in_slot_still : (slot : ℕ) (owner : Option ℕ) (state : SlotState Move) (key : List ℕ) (paused there : Bool) → in_slot slot owner state (asked_one key paused there) ≡ Serve
    → in_slot slot owner state (asked_one key paused true) ≡ Serve
in_slot_still slot owner Owned key paused there serves = serves
in_slot_still slot owner Foreign key paused there serves = serves
in_slot_still slot owner (Moving (Comes from number last drained)) key paused there serves = serves
in_slot_still slot None (Moving (Leaves to number copies frozen)) key paused there serves = serves
in_slot_still slot (Some owner) (Moving (Leaves to number copies frozen)) key paused there serves = leaving_still (Ask slot to number) frozen key paused there serves

still_served : (table : List (Option SlotEntry)) (moves : Moves) (node : ℕ) (key : List ℕ) (paused there : Bool) → decision table moves node (asked_one key paused there) ≡ Serve
    → decision table moves node (asked_one key paused true) ≡ Serve
still_served table moves node key paused there serves =
    in_slot_still (hash_slot key) (owner_at table (hash_slot key)) (state_at table moves node (hash_slot key)) key paused there serves

-- ---- the steps

-- an Open makes the connection that is responded, and changes nothing else
opened : (ticket : ℕ) (old new : NodeState) (conn : Conn) (outputs : Outputs) → NodeStep ticket old Open outputs new → outputs.response ≡ Opened conn
    → IsFresh new conn × (new ≡ record old { connections = new.connections })
opened ticket old new conn outputs step is_conn =
    let opening = step.may_come in
    let response : step.outcome.response ≡ Opened opening.conn = ap (λ (o : Outcome). o.response) opening.comes_to in
    let gave : Opened opening.conn ≡ Opened conn = sym response ∙ sym (ap (λ (o : Outputs). o.response) step.outputs_are) ∙ is_conn in
    let same : opening.conn ≡ conn = cc in
    let known : IsFresh step.outcome.state opening.conn = fresh_here opening.conn _ opening.opens.opened in
    let state : new ≡ record old { connections = step.outcome.state.connections } = step.state ∙ ap (λ (o : Outcome). o.state) opening.comes_to in (
      subst (λ (s : NodeState). IsFresh s conn) (sym step.state) (subst (IsFresh step.outcome.state) same known),
      subst (λ (c : ConnectionTable). new ≡ record old { connections = c }) (ap (λ (s : NodeState). s.connections) (sym step.state)) state,
    )

may : (state : NodeState) (conn : Conn) → IsFresh state conn → may_ask (connection_at state.connections conn) ≡ true
may state conn is = ap may_ask is

-- a command that the node decides to serve is executed, and may be written behind the stream
answered : (ticket : ℕ) (old new : NodeState) (conn : Conn) (words : List (List ℕ)) (outputs : Outputs) (command : DataCommand)
    → NodeStep ticket old (Request conn words) outputs new → command_of words ≡ Ok (Data command) → IsFresh old conn → IsServedBy old (data_keys command)
    → (outputs.response ≡ (served_by (using_up old conn) command Serve).response) × (new ≡ record (executed (using_up old conn) command) { stream = new.stream })
answered ticket old new conn words outputs command step is_command is serves =
    let answering = rw (may old conn is) at step.may_come in
    let asked : Outcome = request_outcome old conn (command_of words) in
    let behind : Outcome = with_written asked (written old conn words) answering.dropped in
    let known : asked ≡ command_outcome (using_up old conn) false command (decision_on (using_up old conn) command No) =
    ap (λ c. request_outcome old conn c) is_command
    ∙ ap (λ c. command_outcome (using_up old conn) (is_numbered c) command (decision_on (using_up old conn) command (asking_of c))) is in
    let made : asked ≡ served_by (using_up old conn) command Serve = known ∙ ap (command_outcome (using_up old conn) false command) serves in
    let comes : new ≡ behind.state = step.state ∙ ap (λ (o : Outcome). o.state) answering.comes_to in (
      ap (λ (o : Outputs). o.response) step.outputs_are ∙ ap (λ (o : Outcome). o.response) answering.comes_to ∙ with_written_response asked (written old conn words) answering.dropped
          ∙ ap (λ (o : Outcome). o.response) made,
      comes ∙ with_written_state asked (written old conn words) answering.dropped ∙ ap (λ (node : NodeState). record asked.state { stream = node.stream }) (sym comes)
          ∙ ap (λ (o : Outcome). record o.state { stream = new.stream }) made,
    )

-- the value that was set is the one that is got
pub set_is_got : (t0 t1 t2 : ℕ) (s0 s1 s2 s3 : NodeState) (conn : Conn) (key value : List ℕ) (o1 o2 o3 : Outputs)
    → NodeStep t0 s0 Open o1 s1 → o1.response ≡ Opened conn → NodeStep t1 s1 (Request conn (codes "SET" ∷ key ∷ value ∷ [])) o2 s2
    → NodeStep t2 s2 (Request conn (codes "GET" ∷ key ∷ [])) o3 s3 → IsServedBy s0 (key ∷ []) → o3.response ≡ served (Bulk value)
set_is_got t0 t1 t2 s0 s1 s2 s3 conn key value o1 o2 o3 opens is_conn setting getting serves =
    let opening = opened t0 s0 s1 conn o1 opens is_conn in
    let first : IsServedBy s1 (key ∷ []) = subst (λ s. IsServedBy s (key ∷ [])) (sym opening.1) serves in
    let set = answered t1 s1 s2 conn _ o2 (Set key value Always) setting refl opening.0 first in
    let there : map.get s2.keyspace key ≡ Some (Str value) = ap (λ (s : NodeState). map.get s.keyspace key) set.1 ∙ get_set s1.keyspace key (Str value) in
    let still : IsFresh s2 conn = subst (λ (s : NodeState). IsFresh s conn) (sym set.1) (still_fresh s1 conn opening.0) in
    let served_then : decision s1.table s1.moves s1.number (asked_one key (is_some s1.paused) true) ≡ Serve = still_served s1.table s1.moves s1.number key (is_some s1.paused) _ first in
    let second : IsServedBy s2 (key ∷ []) =
    ap (λ (s : NodeState). decision s.table s.moves s.number (asked_one key (is_some s.paused) (is_some (map.get s2.keyspace key)))) set.1
    ∙ ap (λ found. decision s1.table s1.moves s1.number (asked_one key (is_some s1.paused) (is_some found))) there ∙ served_then in
    let got = answered t2 s2 s3 conn _ o3 (Get key) getting refl still second in
    got.0 ∙ ap (λ found. served (string_reply found)) there

-- an event that was answered is one more entry
pub one_entry : (old new : CellView) (event : Event) (entered : EnteredView) → Enters old event entered new → length new.journal ≡ length old.journal + 1
one_entry old new event entered enters = simp length-append at (ap length enters.makes.entry)
