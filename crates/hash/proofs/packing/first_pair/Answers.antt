use Rattle.std.proofs.Common.{◌+◌, get_or, sym, subst}
use Rattle.hash.specs.Places.{BeginsWithPair}
use Rattle.hash.proofs.PackedLemmas.{begins_with_pair, value_within}
use Rattle.hash.proofs.packing.first_pair.Goals as goal

pub byte_at-requires : goal.byte_at-requires
byte_at-requires c = value_within c.args.bytes.now c.requires.packing c.requires.some

pub returns : goal.returns
returns c =
    subst (λ byte. BeginsWithPair c.args.bytes.now (1 + get_or c.args.bytes.now 0 0) (1 + get_or c.args.bytes.now 0 0 + 1 + byte)) (sym c.byte_at.ensures)
    (begins_with_pair c.args.bytes.now c.requires.packing c.requires.some)
