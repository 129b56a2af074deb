use Rattle.std.proofs.Common.{ap}
use Rattle.hash.specs.Block.{Kept}
use Rattle.hash.proofs.KeptLemmas.{nothing_kept}
use Rattle.hash.proofs.PackedLemmas.{nothing_in}
use Rattle.hash.proofs.packed.Packed.new.Goals as goal

pub invariant_of-result : goal.invariant_of-result
invariant_of-result c =
    nothing_kept c.new.result (ap (λ (kept : Kept). kept.bytes) c.new.ensures) (ap (λ (kept : Kept). kept.count.fields) c.new.ensures) (ap (λ (kept : Kept). kept.count.size) c.new.ensures)

pub returns : goal.returns
returns c = nothing_in c.new.result.bytes (ap (λ (kept : Kept). kept.bytes) c.new.ensures)
