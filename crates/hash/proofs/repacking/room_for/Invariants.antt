use Rattle.std.proofs.Common.{take}
use Rattle.hash.specs.Packed.{SetShortWords}
use Rattle.hash.proofs.repacking.room_for.Given as goal

-- no word so far is too long
abbrev pub invariant-loop-field : goal.invariant-loop-field
invariant-loop-field l = SetShortWords (take l.field-index l.changes)
