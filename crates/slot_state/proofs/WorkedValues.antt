-- Worked values of the definitions: slot 12182 moves from node 2 to node 1 (Redis Cluster specification, "Cluster live reconfiguration").
use Rattle.std.proofs.Common.{◌≡◌, ℕ, refl, true, false}
use Rattle.std.specs.Prelude.{Some, None}
use Rattle.slot_state.specs.Ending.{node_verdict}
use Rattle.slot_state.specs.Importing.{import_verdict}
use Rattle.slot_state.specs.Migrating.{migrate_verdict}
use Rattle.slot_state.specs.Numbers.{new_number}
use Rattle.slot_state.specs.State.{state_of}
use Rattle.slot_state.specs.declared.ending.NodeVerdict.TheVariants as ending
use Rattle.slot_state.specs.declared.importing.ImportVerdict.TheVariants as importing
use Rattle.slot_state.specs.declared.migrating.MigrateVerdict.TheVariants as migrating
use Rattle.slot_state.specs.declared.order.Standing.{Standing}
use Rattle.slot_state.specs.declared.running.Move.{Move}
use Rattle.slot_state.specs.declared.running.Move.TheVariants.{Leaves, Comes}
use Rattle.slot_state.specs.declared.state.SlotState.TheVariants.{Owned, Foreign, Moving}

-- this node, a master, and the owner in its table
abbrev master : ℕ → ℕ → Standing
master node owner = record { node = node; is_replica = false; is_paused = false; owner = Some owner }

-- move 7 at its two ends, as it begins
abbrev at_source : Move
at_source = Leaves 1 7 0 None

abbrev at_target : Move
at_target = Comes 2 7 0 None

-- orders to import: begun under the next number, begun again, beside another move, at the owner, from a wrong node, under an old number
import_begins : import_verdict (master 1 2) None 6 (Some 2) None ≡ importing.Begins 2 7
import_begins = refl

import_again : import_verdict (master 1 2) (Some at_target) 7 (Some 2) (Some 7) ≡ importing.Already
import_again = refl

import_under_another : import_verdict (master 1 2) (Some at_target) 7 (Some 2) (Some 8) ≡ importing.Busy
import_under_another = refl

import_at_owner : import_verdict (master 1 1) None 6 (Some 2) (Some 7) ≡ importing.AlreadyOwner
import_at_owner = refl

import_from_another : import_verdict (master 1 2) None 6 (Some 0) (Some 7) ≡ importing.NotOwner
import_from_another = refl

import_from_itself : import_verdict (master 1 2) None 6 (Some 1) (Some 7) ≡ importing.UnknownNode
import_from_itself = refl

import_of_old : import_verdict (master 1 2) None 7 (Some 2) (Some 7) ≡ importing.OldMove
import_of_old = refl

import_at_replica : import_verdict (record { node = 4; is_replica = true; is_paused = false; owner = Some 2 }) None 6 (Some 2) (Some 7) ≡ importing.NotOwner
import_at_replica = refl

-- behind the greatest number there is none
no_next : new_number 9223372036854775807 None ≡ None
no_next = refl

-- orders to migrate: begun, again without a number, at a node that doesn't own the slot
migration_begins : migrate_verdict (master 2 2) None 0 (Some 1) (Some 7) ≡ migrating.Begins 1 7
migration_begins = refl

migration_again : migrate_verdict (master 2 2) (Some at_source) 7 (Some 1) None ≡ migrating.Already
migration_again = refl

migration_of_another : migrate_verdict (master 1 2) None 0 (Some 0) (Some 7) ≡ migrating.NotOwner
migration_of_another = refl

-- the import ends once it is drained, and under its number alone
not_drained : node_verdict (master 1 2) (Some at_target) (Some 1) None ≡ ending.NotDrained
not_drained = refl

ends : node_verdict (master 1 2) (Some (Comes 2 7 3 (Some 1))) (Some 1) (Some 7) ≡ ending.Ends 1
ends = refl

ends_another : node_verdict (master 1 2) (Some (Comes 2 7 3 (Some 1))) (Some 1) (Some 6) ≡ ending.OldMove
ends_another = refl

-- at the other nodes the table decides
is_told : node_verdict (master 0 1) None (Some 1) (Some 7) ≡ ending.IsOwner
is_told = refl

is_not_told : node_verdict (master 0 2) None (Some 1) (Some 7) ≡ ending.NotYetOwner
is_not_told = refl

-- a slot is its owner's, unless it moves
owner_rests : state_of (Some 2) None 2 ≡ Owned
owner_rests = refl

other_rests : state_of (Some 2) None 1 ≡ Foreign
other_rests = refl

none_rests : state_of None None 1 ≡ Foreign
none_rests = refl

other_imports : state_of (Some 2) (Some at_target) 1 ≡ Moving at_target
other_imports = refl
