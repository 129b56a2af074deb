use Rattle.std.proofs.Common.{length, ap, refl, ◌∙◌}
use Rattle.keyspace.proofs.Fitting.{string_fits}
use Rattle.resp_values.specs.Request.{bulk_spelling}
use Rattle.keyspace.proofs.limits.string_fits.Goals as goal

pub returns : goal.returns
returns c =
    let name = c.bulk_size.ensures.size ∙ ap (λ bytes. length (bulk_spelling bytes)) c.inline-name.ensures in
    string_fits c.args.key.now c.args.bytes.now _ c.count_size.result c.bulk_size.result c.bulk_size-2.result c.bulk_size-3.result refl (c.count_size.ensures.size 42) name c.bulk_size-2.ensures.size c.bulk_size-3.ensures.size
