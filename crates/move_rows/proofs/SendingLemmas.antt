-- Copies that are sent, and connections that wait for them.
use Rattle.std.proofs.Common.{◌≡◌, ℕ, List, [], ◌∷◌, Option, Some, sym, subst, ◌∙◌}
use Rattle.bus.specs.declared.message.Body.{Body}
use Rattle.bus.specs.declared.bodies.SlotsBody.TheVariants.{Copy}
use Rattle.bus.specs.declared.message.Body.TheVariants.{Slots}
use Rattle.connections.specs.declared.conn.Conn.{Conn}
use Rattle.connections.specs.declared.conn.Wait.{Wait}
use Rattle.migrate.proofs.Verdicts.{copies_freeze}
use Rattle.migrate.specs.Sending.{copy_verdict, frozen}
use Rattle.migrate.specs.declared.sending.CopyVerdict.TheVariants.{Copies, SendAgain}
use Rattle.node_parts.specs.Becomes.{waiting_so}
use Rattle.node_parts.specs.Drafts.{Drafts, parking}
use Rattle.node_parts.specs.declared.draft.Draft.{Draft}
use Rattle.node_step.proofs.Outstanding.{outstanding_is}
use Rattle.node_step.specs.Copies.{copy_outcome, outstanding, pairs_at, sending}
use Rattle.node_step.specs.Orders.{with_moves}
use Rattle.node_step.specs.Requests.{using_up}
use Rattle.node_step.specs.State.{NodeState}
use Rattle.slot_state.specs.Moves.{copy_id, move_of}
use Rattle.slot_state.specs.declared.running.Move.TheVariants.{Leaves}

-- the copy that is outstanding is sent, and its connection waits
pub sends_copy : (old node : NodeState) (conn : Conn) (keys : List (List ℕ)) (to : ℕ) (wait : Wait) (bodies : List (ℕ × Body)) (draft : Draft) → move_of node.moves wait.id.slot ≡ Some (Leaves to wait.id.number wait.id.copy (Some keys))
    → bodies ≡ (to, Slots (Copy wait.id (pairs_at node.keyspace keys))) ∷ [] → Drafts old (parking (waiting_so node conn wait) bodies) draft
    → Drafts old (sending node conn wait.id wait.ticks) draft
sends_copy old node conn keys to wait bodies draft leaves words drafts =
    subst (λ (sent : List (ℕ × Body)). Drafts old (parking (waiting_so node conn wait) sent) draft)
    (words ∙ sym (outstanding_is node.keyspace (move_of node.moves wait.id.slot) wait.id.slot to wait.id.number wait.id.copy keys leaves)) drafts

-- what is outstanding is sent again
pub sends_again : (old node : NodeState) (conn : Conn) (wait : Wait) (bodies : List (ℕ × Body)) (draft : Draft) → bodies ≡ outstanding node.keyspace wait.id.slot (move_of node.moves wait.id.slot)
    → Drafts old (parking (waiting_so node conn wait) bodies) draft → Drafts old (sending node conn wait.id wait.ticks) draft
sends_again old node conn wait bodies draft words drafts = subst (λ (sent : List (ℕ × Body)). Drafts old (parking (waiting_so node conn wait) sent) draft) words drafts

-- keys that are copied anew are frozen
pub copy_drafted : (old : NodeState) (conn : Conn) (slot : ℕ) (keys : List (List ℕ)) (ticks : ℕ) (target : Option ℕ) (to number copy : ℕ) (draft : Draft) → copy_verdict (move_of old.moves slot) target keys ≡ Copies to number copy
    → Drafts old (sending (with_moves (using_up old conn) (frozen old.moves slot copy keys)) conn (copy_id slot number copy) ticks) draft
    → Drafts old (copy_outcome (using_up old conn) conn slot keys ticks (copy_verdict (move_of old.moves slot) target keys)) draft
copy_drafted old conn slot keys ticks target to number copy draft is drafts =
    subst (λ verdict. Drafts old (copy_outcome (using_up old conn) conn slot keys ticks verdict) draft) (sym is)
    (subst (λ moves. Drafts old (sending (with_moves (using_up old conn) moves) conn (copy_id slot number copy) ticks) draft)
    (copies_freeze old.moves slot target keys to number copy is) drafts)

-- those whose copy is outstanding are sent again
pub copy_drafted_again : (old : NodeState) (conn : Conn) (slot : ℕ) (keys : List (List ℕ)) (ticks : ℕ) (target : Option ℕ) (to number copy : ℕ) (draft : Draft) → copy_verdict (move_of old.moves slot) target keys ≡ SendAgain to number copy
    → Drafts old (sending (using_up old conn) conn (copy_id slot number copy) ticks) draft
    → Drafts old (copy_outcome (using_up old conn) conn slot keys ticks (copy_verdict (move_of old.moves slot) target keys)) draft
copy_drafted_again old conn slot keys ticks target to number copy draft is drafts =
    subst (λ verdict. Drafts old (copy_outcome (using_up old conn) conn slot keys ticks verdict) draft) (sym is) drafts
