use Rattle.std.proofs.Common.{length, ap, refl, ◌∙◌}
use Rattle.keyspace.proofs.Fitting.{too_many, too_long, fits_by_size}
use Rattle.resp_values.specs.Request.{bulk_spelling}
use Rattle.keyspace.proofs.limits.hash_fits.Goals as goal

pub returns-then-extent-gt-MOST_FIELDS : goal.returns-then-extent-gt-MOST_FIELDS
returns-then-extent-gt-MOST_FIELDS c pairs counted sized = too_many _ pairs _ counted c.if-extent-gt-MOST_FIELDS.true

pub returns-then-around-most : goal.returns-then-around-most
returns-then-around-most c pairs counted sized =
    let name = c.bulk_size.ensures.size ∙ ap (λ bytes. length (bulk_spelling bytes)) c.inline-name.ensures in
    too_long _ pairs _ counted c.if-extent-gt-MOST_FIELDS.false _ c.count_size.result c.bulk_size.result c.bulk_size-2.result c.args.extent.size sized refl (c.count_size.ensures.size 42) name c.bulk_size-2.ensures.size c.if-around-most.true

pub returns : goal.returns
returns c pairs counted sized =
    let name = c.bulk_size.ensures.size ∙ ap (λ bytes. length (bulk_spelling bytes)) c.inline-name.ensures in
    fits_by_size _ pairs _ counted c.if-extent-gt-MOST_FIELDS.false _ c.count_size.result c.bulk_size.result c.bulk_size-2.result c.args.extent.size sized refl (c.count_size.ensures.size 42) name c.bulk_size-2.ensures.size c.if-around-most.false
