-- CLUSTER SETSLOT slot MIGRATING node (Redis Cluster specification, "Cluster live reconfiguration"; refusals and their order are ours).
use Rattle.std.specs.Prelude.{ℕ, ◌==◌, ◌&&◌, if◌then◌else◌, Option, Some, None}
use Rattle.slot_state.specs.Moves.{Moves, begun, last_move_of, move_of}
use Rattle.slot_state.specs.Numbers.{new_number, is_named}
use Rattle.slot_state.specs.declared.migrating.MigrateVerdict.{MigrateVerdict}
use Rattle.slot_state.specs.declared.migrating.MigrateVerdict.TheVariants.{UnknownNode, HandingOver, Already, Busy, NotOwner, OldMove, Begins}
use Rattle.slot_state.specs.declared.order.Order.{Order}
use Rattle.slot_state.specs.declared.order.Standing.{Standing}
use Rattle.slot_state.specs.declared.running.Move.{Move}
use Rattle.slot_state.specs.declared.running.Move.TheVariants.{Leaves, Comes}

-- with a number it begins
abbrev pub numbered_migration : ℕ → Option ℕ → MigrateVerdict
numbered_migration to None = OldMove
numbered_migration to (Some number) = Begins to number

-- where no move is under way: the slot has to be this node's
abbrev pub new_migration : Option ℕ → ℕ → ℕ → ℕ → Option ℕ → MigrateVerdict
new_migration None node last to asked = NotOwner
new_migration (Some owner) node last to asked = if owner == node then numbered_migration to (new_number last asked) else NotOwner

-- by the move of the slot that is under way
abbrev pub migrate_beside : Standing → Option Move → ℕ → ℕ → Option ℕ → MigrateVerdict
migrate_beside at (Some (Leaves target number copies frozen)) last to asked = if target == to && is_named number asked then Already else Busy
migrate_beside at (Some (Comes from number copied drained)) last to asked = Busy
migrate_beside at None last to asked = new_migration at.owner at.node last to asked

-- the verdict, by the move under way, the greatest number of one, and the node and number in the order
abbrev pub migrate_verdict : Standing → Option Move → ℕ → Option ℕ → Option ℕ → MigrateVerdict
migrate_verdict at move last None asked = UnknownNode
migrate_verdict at move last (Some to) asked =
    if to == at.node then UnknownNode
    else (if at.is_replica then NotOwner else (if at.is_paused then HandingOver else migrate_beside at move last to asked))

-- the verdict on an order of a migration, with these moves at the node
abbrev pub migration_in : Standing → Moves → Order → MigrateVerdict
migration_in at moves order = migrate_verdict at (move_of moves order.slot) (last_move_of moves order.slot) order.node order.number

-- a migration begins with no copy and no frozen key
abbrev pub after_migrate : Moves → ℕ → MigrateVerdict → Moves
after_migrate moves slot (Begins to number) = begun moves slot number (Leaves to number 0 None)
after_migrate moves slot refused = moves
