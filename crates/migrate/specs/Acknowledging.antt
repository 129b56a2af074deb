-- Acknowledgements of copies (ours).
use Rattle.std.specs.Prelude.{ℕ, ◌==◌, ◌&&◌, if◌then◌else◌, List, Option, Some, None}
use Rattle.slot_state.specs.Moves.{Moves, move_of}
use Rattle.slot_state.specs.declared.running.Move.{Move}
use Rattle.slot_state.specs.declared.running.Move.TheVariants.{Leaves, Comes}
use Rattle.migrate.specs.Arriving.{changed_at}

-- the keys whose copy it is, if that copy is outstanding
-- (its number counts, or this goes wrong: the acknowledgement of copy 1 arrives at node 0 twice, at last while copy 2, of b,
-- is outstanding; node 0 deletes b, copy 2 is lost, and nobody has b)
abbrev pub acknowledged_keys : Option Move → ℕ → ℕ → ℕ → Option (List (List ℕ))
acknowledged_keys (Some (Leaves to number copies frozen)) from move copy = if to == from && number == move && copies == copy then frozen else None
acknowledged_keys (Some (Comes source number last drained)) from move copy = None
acknowledged_keys None from move copy = None

-- the keys whose copy is outstanding, if there is one
abbrev pub frozen_keys : Option Move → Option (List (List ℕ))
frozen_keys (Some (Leaves to number copies frozen)) = frozen
frozen_keys (Some (Comes from number last drained)) = None
frozen_keys None = None

-- no copy is outstanding any more
abbrev pub unfrozen : Move → Move
unfrozen (Leaves to number copies frozen) = Leaves to number copies None
unfrozen (Comes from number last drained) = Comes from number last drained

abbrev pub after_ack : Moves → ℕ → Moves
after_ack moves slot = changed_at moves slot unfrozen (move_of moves slot)
