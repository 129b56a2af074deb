-- Slots that a node loses, and what it sends again because it may be lost.
use Rattle.std.specs.Prelude.{◌≡◌, ◌==◌, ℕ, List}
use Rattle.std.specs.List.{flat_map, list_any}
use Rattle.bus.specs.declared.message.Body.{Body}
use Rattle.node_step.specs.Claiming.{is_lost}
use Rattle.node_step.specs.State.{NodeState}
use Rattle.node_step.specs.Ticks.{sent_again}
use Rattle.slot_state.specs.Moves.{running_moves}
use Rattle.slot_table.specs.Claims.{merged}
use Rattle.slot_table.specs.declared.runs.Run.{Run}

-- these are the slots that the node loses by a claim of that one
abbrev pub AreLost : NodeState → ℕ → List (Run ℕ) → List ℕ → Type 0
AreLost node from claim lost =
    (slot : ℕ) → list_any (λ other. other == slot) lost ≡ is_lost node (merged node.table claim from) slot

-- what is sent again of all slots that leave
abbrev pub all_sent_again : NodeState → List (ℕ × Body)
all_sent_again node = flat_map (sent_again node) (running_moves node.moves)
