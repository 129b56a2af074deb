use Rattle.std.proofs.Common.{sym}
use Rattle.hash.specs.Entries.{pairs_of}
use Rattle.hash.proofs.SizeLemmas.{removed, removed_none}
use Rattle.hash.proofs.changing.remove_field.Goals as goal

pub overflow_sub-size : goal.overflow_sub-size
overflow_sub-size c =
    (removed (pairs_of c.args.entries.now) c.args.field.now c.in-Some.old c.args.size.now _ _ c.requires
    (sym c.in-Some.ensures.old) c.bulk_size-field_size.ensures.size c.bulk_size-value_size.ensures.size).old

pub returns-in-Some-clause-sized : goal.returns-in-Some-clause-sized
returns-in-Some-clause-sized c =
    rw c.in-Some.ensures.pairs
    (removed (pairs_of c.args.entries.now) c.args.field.now c.in-Some.old c.args.size.now _ _ c.requires
    (sym c.in-Some.ensures.old) c.bulk_size-field_size.ensures.size c.bulk_size-value_size.ensures.size).sized

pub returns-in_default-clause-sized : goal.returns-in_default-clause-sized
returns-in_default-clause-sized c =
    rw c.in_default.ensures.pairs
    (removed_none (pairs_of c.args.entries.now) c.args.field.now c.args.size.now c.requires (sym c.in_default.ensures.old))
