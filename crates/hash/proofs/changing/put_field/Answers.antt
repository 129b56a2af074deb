use Rattle.std.proofs.Common.{sym, ◌∙◌, arith}
use Rattle.hash.specs.Entries.{pairs_of}
use Rattle.hash.proofs.SizeLemmas.{set_again, set_new}
use Rattle.hash.proofs.changing.put_field.Goals as goal

pub overflow_sub-size : goal.overflow_sub-size
overflow_sub-size c =
    (set_again (pairs_of c.args.entries.now) c.args.field c.args.value c.in-Some.old c.args.size.now _ _ _
    c.requires (sym c.in_ok-before.ensures.old ∙ c.in-Some.is) c.bulk_size-field_bytes.ensures.size c.bulk_size-value_bytes.ensures.size c.bulk_size.ensures.size
    (omega (arith, c.len.ensures.len, c.len.ensures.small)) c.bulk_size-field_bytes.ensures.short c.bulk_size-value_bytes.ensures.short).old

pub overflow_add-size : goal.overflow_add-size
overflow_add-size c =
    omega (
      arith,
      (set_again (pairs_of c.args.entries.now) c.args.field c.args.value c.in-Some.old c.args.size.now _ _ _
          c.requires (sym c.in_ok-before.ensures.old ∙ c.in-Some.is) c.bulk_size-field_bytes.ensures.size c.bulk_size-value_bytes.ensures.size c.bulk_size.ensures.size
          (omega (arith, c.len.ensures.len, c.len.ensures.small)) c.bulk_size-field_bytes.ensures.short c.bulk_size-value_bytes.ensures.short).fits,
    )

pub overflow_add-size-in-None-2 : goal.overflow_add-size-in-None-2
overflow_add-size-in-None-2 c =
    omega (
      arith,
      (set_new (pairs_of c.args.entries.now) c.args.field c.args.value c.args.size.now _ _
          c.requires (sym c.in_ok-before.ensures.old ∙ c.in-None.is) c.bulk_size-field_bytes.ensures.size c.bulk_size-value_bytes.ensures.size
          (omega (arith, c.len.ensures.len, c.len.ensures.small)) c.bulk_size-field_bytes.ensures.short c.bulk_size-value_bytes.ensures.short).fits,
    )

pub returns-in-Some-clause-sized : goal.returns-in-Some-clause-sized
returns-in-Some-clause-sized c =
    rw c.in_ok-before.ensures.pairs
    (set_again (pairs_of c.args.entries.now) c.args.field c.args.value c.in-Some.old c.args.size.now _ _ _
    c.requires (sym c.in_ok-before.ensures.old ∙ c.in-Some.is) c.bulk_size-field_bytes.ensures.size c.bulk_size-value_bytes.ensures.size c.bulk_size.ensures.size
    (omega (arith, c.len.ensures.len, c.len.ensures.small)) c.bulk_size-field_bytes.ensures.short c.bulk_size-value_bytes.ensures.short).sized

pub returns-in-None-clause-sized : goal.returns-in-None-clause-sized
returns-in-None-clause-sized c =
    rw c.in_ok-before.ensures.pairs
    (set_new (pairs_of c.args.entries.now) c.args.field c.args.value c.args.size.now _ _
    c.requires (sym c.in_ok-before.ensures.old ∙ c.in-None.is) c.bulk_size-field_bytes.ensures.size c.bulk_size-value_bytes.ensures.size
    (omega (arith, c.len.ensures.len, c.len.ensures.small)) c.bulk_size-field_bytes.ensures.short c.bulk_size-value_bytes.ensures.short).sized
