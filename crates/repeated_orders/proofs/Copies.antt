-- What an order to copy keys does once it was done.
use Rattle.std.proofs.Common.{◌≡◌, ℕ, ℤ, Bool, cond, List, [], ◌∷◌, map, Option, Some, refl, sym, ap, subst, ◌∙◌}
use Rattle.bus.specs.declared.message.Body.{Body}
use Rattle.connections.specs.Connections.{ConnectionTable}
use Rattle.connections.specs.declared.conn.Conn.{Conn}
use Rattle.migrate.specs.Sending.{copy_verdict}
use Rattle.migrate.specs.declared.sending.CopyVerdict.{CopyVerdict}
use Rattle.migrate.specs.declared.sending.CopyVerdict.TheVariants.{CrossSlot, WrongTarget, NoKey, CopyOutstanding, Exhausted, SendAgain, Copies}
use Rattle.slot_state.specs.Moves.{move_of}
use Rattle.slot_state.specs.declared.running.Move.{Move}
use Rattle.slot_state.specs.declared.running.Move.TheVariants.{Leaves}
use Rattle.redirect.specs.Decision.{has_other_slot}
use Rattle.node_step.proofs.Verdicts.{ordered_in_slot}
use Rattle.node_step.specs.Copies.{copy_outcome, copy_verdict_on, first_slot, node_at, those_there}
use Rattle.node_step.specs.Outcome.{Outcome, stamped}
use Rattle.node_step.specs.State.{NodeState}
use Rattle.repeated_orders.specs.Law.{KeepsAllButConnections, with_ticket}
use Rattle.repeated_orders.proofs.Orders.{behind, put_here}
use Rattle.repeated_orders.proofs.Verdicts.{copy_again}

-- the outcome only has the response and the messages of the first one
pub record OnlySends (node : NodeState) (first outcome : Outcome) : Type 0 where
  pub state : KeepsAllButConnections node outcome.state
  pub released : outcome.released ≡ []
  pub response : outcome.response ≡ first.response
  pub sent : outcome.sent ≡ first.sent

module _ (node : NodeState) (connections : ConnectionTable) (conn other : Conn) (named : List (List ℕ)) (ticks later : ℕ) where
  -- the node, where the order changed no move
  abbrev still : NodeState
  still = record node { connections = connections }

  abbrev slot : ℕ
  slot = first_slot named

  abbrev keys : List (List ℕ)
  keys = those_there node.keyspace named

  unchanged : (target : Option ℕ) (verdict : CopyVerdict) → copy_verdict_on node named target ≡ verdict → OnlySends still (copy_outcome node conn slot keys ticks verdict) (copy_outcome still other slot keys later verdict)
      → OnlySends still (copy_outcome node conn slot keys ticks verdict) (copy_outcome still other slot keys later (copy_verdict_on still named target))
  unchanged target verdict is only =
      subst (λ (v : CopyVerdict). OnlySends still (copy_outcome node conn slot keys ticks verdict) (copy_outcome still other slot keys later v)) (sym is) only

  pub copy_repeats : (host : List ℕ) (port : ℤ) (verdict : CopyVerdict) → copy_verdict_on node named (node_at node host port) ≡ verdict
      → (let first = copy_outcome node conn slot keys ticks verdict in let after = behind first connections in
      OnlySends after first (copy_outcome after other slot (those_there after.keyspace named) later (copy_verdict_on after named (node_at after host port))))
  copy_repeats host port CrossSlot is = unchanged (node_at node host port) CrossSlot is (record { state = refl; released = refl; response = refl; sent = refl })
  copy_repeats host port WrongTarget is = unchanged (node_at node host port) WrongTarget is (record { state = refl; released = refl; response = refl; sent = refl })
  copy_repeats host port NoKey is = unchanged (node_at node host port) NoKey is (record { state = refl; released = refl; response = refl; sent = refl })
  copy_repeats host port CopyOutstanding is = unchanged (node_at node host port) CopyOutstanding is (record { state = refl; released = refl; response = refl; sent = refl })
  copy_repeats host port Exhausted is = unchanged (node_at node host port) Exhausted is (record { state = refl; released = refl; response = refl; sent = refl })
  copy_repeats host port (SendAgain to number copy) is = unchanged (node_at node host port) (SendAgain to number copy) is (record { state = refl; released = refl; response = refl; sent = refl })
  copy_repeats host port (Copies to number copy) is =
      let target : Option ℕ = node_at node host port in
      let obeyed = ordered_in_slot (has_other_slot slot named) (copy_verdict (move_of node.moves slot) target keys) (Copies to number copy) is (λ same. cc) in
      let first : Outcome = copy_outcome node conn slot keys ticks (Copies to number copy) in
      let after : NodeState = behind first connections in
      let leaves : move_of after.moves slot ≡ Some (Leaves to number copy (Some keys)) = put_here node.moves.running slot (Leaves to number copy (Some keys)) in
      let verdict : copy_verdict_on after named target ≡ SendAgain to number copy =
      ap (λ (b : Bool). cond b CrossSlot (copy_verdict (move_of after.moves slot) target keys)) obeyed.0
      ∙ ap (λ (m : Option Move). copy_verdict m target keys) leaves
      ∙ copy_again (move_of node.moves slot) target keys to number copy obeyed.1 in
      subst (λ (v : CopyVerdict). OnlySends after first (copy_outcome after other slot keys later v)) (sym verdict) (record { state = refl; released = refl; response = refl; sent = refl })

-- what is sent again under another ticket
pub restamped : (from epoch first second : ℕ) (sent : List (ℕ × Body)) → map (stamped from second epoch) sent ≡ map (with_ticket second) (map (stamped from first epoch) sent)
restamped from epoch first second [] = refl
restamped from epoch first second (body ∷ sent) = ap (λ rest. stamped from second epoch body ∷ rest) (restamped from epoch first second sent)
