-- CLUSTER SETSLOT slot IMPORTING node (Redis Cluster specification, "Cluster live reconfiguration"; refusals and their order are ours).
use Rattle.std.specs.Prelude.{ℕ, ◌==◌, ◌&&◌, if◌then◌else◌, Option, Some, None}
use Rattle.slot_state.specs.Moves.{Moves, begun, last_move_of, move_of}
use Rattle.slot_state.specs.Numbers.{new_number, is_named}
use Rattle.slot_state.specs.declared.importing.ImportVerdict.{ImportVerdict}
use Rattle.slot_state.specs.declared.importing.ImportVerdict.TheVariants.{UnknownNode, HandingOver, Already, Busy, AlreadyOwner, NotOwner, OldMove, Begins}
use Rattle.slot_state.specs.declared.order.Order.{Order}
use Rattle.slot_state.specs.declared.order.Standing.{Standing}
use Rattle.slot_state.specs.declared.running.Move.{Move}
use Rattle.slot_state.specs.declared.running.Move.TheVariants.{Leaves, Comes}

-- with a number it begins
abbrev pub numbered_import : ℕ → Option ℕ → ImportVerdict
numbered_import from None = OldMove
numbered_import from (Some number) = Begins from number

-- where no move is under way: the slot has to be that node's, and not this one's
abbrev pub new_import : Option ℕ → ℕ → ℕ → ℕ → Option ℕ → ImportVerdict
new_import None node last from asked = NotOwner
new_import (Some owner) node last from asked =
    if owner == node then AlreadyOwner
    else (if owner == from then numbered_import from (new_number last asked) else NotOwner)

-- by the move of the slot that is under way
abbrev pub import_beside : Standing → Option Move → ℕ → ℕ → Option ℕ → ImportVerdict
import_beside at (Some (Comes source number copied drained)) last from asked = if source == from && is_named number asked then Already else Busy
import_beside at (Some (Leaves to number copies frozen)) last from asked = Busy
import_beside at None last from asked = new_import at.owner at.node last from asked

-- the verdict, by the move under way, the greatest number of one, and the node and number in the order
abbrev pub import_verdict : Standing → Option Move → ℕ → Option ℕ → Option ℕ → ImportVerdict
import_verdict at move last None asked = UnknownNode
import_verdict at move last (Some from) asked =
    if from == at.node then UnknownNode
    else (if at.is_replica then NotOwner else (if at.is_paused then HandingOver else import_beside at move last from asked))

-- the verdict on an order of an import, with these moves at the node
abbrev pub import_in : Standing → Moves → Order → ImportVerdict
import_in at moves order = import_verdict at (move_of moves order.slot) (last_move_of moves order.slot) order.node order.number

-- an import begins with no copy, and not drained
abbrev pub after_import : Moves → ℕ → ImportVerdict → Moves
after_import moves slot (Begins from number) = begun moves slot number (Comes from number 0 None)
after_import moves slot refused = moves
