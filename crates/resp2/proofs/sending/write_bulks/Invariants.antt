use Rattle.std.proofs.Common.{take}
use Rattle.std.specs.List.{flat_map}
use Rattle.resp2.specs.Writing.{Writes}
use Rattle.resp_values.specs.Request.{bulk_spelling}
use Rattle.resp2.proofs.sending.write_bulks.Given as goal

-- the words so far are written
abbrev pub invariant-loop-word : goal.invariant-loop-word
invariant-loop-word g l =
    Writes g.W.Write.contents l.fn.out l.out
    (flat_map bulk_spelling (take l.word-index l.words))
