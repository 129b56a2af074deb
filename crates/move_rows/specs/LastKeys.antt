-- The last keys of a slot that leaves.
use Rattle.std.specs.Prelude.{◌&&◌, ℕ, Bool, List, [], if◌then◌else◌}
use Rattle.std.specs.List.{list_all}
use Rattle.bus.specs.declared.message.Body.{Body}
use Rattle.keyspace.specs.Keyspace.{Keyspace}
use Rattle.migrate.specs.Sending.{is_among}
use Rattle.node_step.specs.Slots.{drained, has_keys, keys_in}
use Rattle.node_step.specs.State.{NodeState}

-- the slot has keys, and none but these
abbrev pub are_last : Keyspace → ℕ → List (List ℕ) → Bool
are_last keyspace slot keys = has_keys keyspace slot && list_all (is_among keys) (keys_in keyspace slot)

-- what is said of the slot once these keys go
abbrev pub drained_by_ack : NodeState → ℕ → List (List ℕ) → List (ℕ × Body)
drained_by_ack node slot keys = if are_last node.keyspace slot keys then drained node slot else []
