use Rattle.std.proofs.Common.{length, ap, refl, ◌∙◌}
use Rattle.keyspace.proofs.Fitting.{word_too_long, fits_by_length}
use Rattle.resp_values.specs.Request.{bulk_spelling}
use Rattle.keyspace.proofs.limits.length_fits.Goals as goal

pub returns-then-len-gt-MOST_WORD_BYTES : goal.returns-then-len-gt-MOST_WORD_BYTES
returns-then-len-gt-MOST_WORD_BYTES c bytes is = word_too_long c.args.key.now bytes _ is c.if-len-gt-MOST_WORD_BYTES.true

pub returns : goal.returns
returns c bytes is =
    let name = c.bulk_size.ensures.size ∙ ap (λ bytes. length (bulk_spelling bytes)) c.inline-name.ensures in
    fits_by_length c.args.key.now bytes _ is c.if-len-gt-MOST_WORD_BYTES.false _ c.count_size.result c.bulk_size.result c.bulk_size-2.result c.count_size-2.result refl
    (c.count_size.ensures.size 42) name c.bulk_size-2.ensures.size (c.count_size-2.ensures.size 36)
