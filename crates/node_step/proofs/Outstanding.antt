-- The copy that is outstanding behind an order to copy keys.
use Rattle.std.proofs.Common.{◌≡◌, ℕ, Bool, cond, List, [], ◌∷◌, Option, Some, ap, ◌∙◌}
use Rattle.std.proofs.lemmas.Cmp.{nat_cmp_total, eq_by_cmp_equiv}
use Rattle.std.specs.FinMap as fin_map
use Rattle.bus.specs.declared.bodies.SlotsBody.TheVariants.{Copy}
use Rattle.bus.specs.declared.message.Body.TheVariants.{Slots}
use Rattle.keyspace.specs.Keyspace.{Keyspace}
use Rattle.migrate.proofs.Verdicts.{copies_freeze}
use Rattle.migrate.specs.Sending.{after_copy_order, copy_verdict, frozen}
use Rattle.migrate.specs.declared.sending.CopyVerdict.TheVariants.{Copies, SendAgain}
use Rattle.slot_state.specs.Moves.{Moves, copy_id, move_of}
use Rattle.slot_state.specs.declared.running.Move.{Move}
use Rattle.slot_state.specs.declared.running.Move.TheVariants.{Leaves}
use Rattle.node_step.specs.Copies.{outstanding, pairs_at}
use Rattle.node_step.proofs.Verdicts.{copy_is_again}

-- the copy of the frozen keys is outstanding
pub outstanding_is : (keyspace : Keyspace) (move : Option Move) (slot to number copy : ℕ) (keys : List (List ℕ)) → move ≡ Some (Leaves to number copy (Some keys))
    → outstanding keyspace slot move ≡ (to, Slots (Copy (copy_id slot number copy) (pairs_at keyspace keys))) ∷ []
outstanding_is keyspace move slot to number copy keys leaves = ap (outstanding keyspace slot) leaves

-- keys whose copy is sent again are frozen
pub again_leaves : (move : Option Move) (target : Option ℕ) (keys : List (List ℕ)) (to number copy : ℕ) → copy_verdict move target keys ≡ SendAgain to number copy
    → (frozen : List (List ℕ)) × (move ≡ Some (Leaves to number copy (Some frozen)))
again_leaves move target keys to number copy is = let facts = copy_is_again move target keys to number copy is in (facts.0, facts.1)

-- those that are copied are frozen from then on
pub ordered_leaves : (moves : Moves) (slot : ℕ) (keys : List (List ℕ)) (to number copy : ℕ) → move_of (after_copy_order moves slot keys (Copies to number copy)) slot ≡ Some (Leaves to number copy (Some keys))
ordered_leaves moves slot keys to number copy =
    let move : Move = Leaves to number copy (Some keys) in
    fin_map.get-insert nat_cmp_total moves.running slot move slot ∙ ap (λ (b : Bool). cond b (Some move) (move_of moves slot)) ((eq_by_cmp_equiv nat_cmp_total).refl slot)

pub copied_leaves : (moves : Moves) (slot : ℕ) (target : Option ℕ) (keys : List (List ℕ)) (to number copy : ℕ) → copy_verdict (move_of moves slot) target keys ≡ Copies to number copy
    → move_of (frozen moves slot copy keys) slot ≡ Some (Leaves to number copy (Some keys))
copied_leaves moves slot target keys to number copy is =
    ap (λ (after : Moves). move_of after slot) (copies_freeze moves slot target keys to number copy is) ∙ ordered_leaves moves slot keys to number copy
