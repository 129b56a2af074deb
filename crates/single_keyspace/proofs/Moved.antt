-- How a slot is seen at a node whose move of it begins, changes or ends.
use Rattle.std.proofs.Common.{◌≡◌, ◌≢◌, ℕ, Some, refl, ap}
use Rattle.std.specs.FinMap as map
use Rattle.std.specs.Prelude.{unwrap_or}
use Rattle.keyspace.specs.Keyspace.{Keyspace}
use Rattle.slot_state.specs.Moves.{Moves, begun}
use Rattle.slot_state.specs.declared.running.Move.{Move}
use Rattle.node_step.specs.State.{NodeState}
use Rattle.single_keyspace.specs.Slots.{values_in, view_of}
use Rattle.single_keyspace.proofs.Maps.{put_here, put_apart}
use Rattle.single_keyspace.proofs.Seen.{same_view}

-- the moves with another one of the slot
abbrev pub with_move : Moves → ℕ → Move → Moves
with_move moves slot move = record moves { running = map.insert moves.running slot move }

module _ (node : NodeState) (slot number : ℕ) (move : Move) where
  pub begun_here : view_of (record node { moves = begun node.moves slot number move }) slot ≡ record (view_of node slot) { move = Some move; last = number }
  begun_here = same_view refl (put_here node.moves.running slot move) (ap (λ o. unwrap_or o 0) (put_here node.moves.last slot number)) refl

  pub begun_apart : (other : ℕ) → other ≢ slot → view_of (record node { moves = begun node.moves slot number move }) other ≡ view_of node other
  begun_apart other apart =
      same_view refl (put_apart node.moves.running slot move other apart) (ap (λ o. unwrap_or o 0) (put_apart node.moves.last slot number other apart)) refl

module _ (node : NodeState) (keyspace : Keyspace) (slot : ℕ) (move : Move) where
  pub moved_here : view_of (record node { keyspace = keyspace; moves = with_move node.moves slot move }) slot
      ≡ record (view_of node slot) { move = Some move; value = values_in keyspace slot }
  moved_here = same_view refl (put_here node.moves.running slot move) refl refl

  pub moved_apart : (other : ℕ) → other ≢ slot → values_in keyspace other ≡ values_in node.keyspace other
      → view_of (record node { keyspace = keyspace; moves = with_move node.moves slot move }) other ≡ view_of node other
  moved_apart other apart same = same_view refl (put_apart node.moves.running slot move other apart) refl same
