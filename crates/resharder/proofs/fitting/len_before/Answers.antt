use Rattle.std.proofs.Common.{◌≡◌, ◌∙◌, [], codes, length, refl, ap, sym, arith}
use Rattle.std.specs.Prelude.{decimal}
use Rattle.resharder.proofs.MigrationLemmas.{bytes_before}
use Rattle.resharder.proofs.RequestLemmas.{host_is_short, short_number}
use Rattle.resharder.proofs.fitting.len_before.Goals as goal

pub returns-clause-len : goal.returns-clause-len
returns-clause-len c =
    let place = c.args.to.now in
    let host : length place.host ≡ length c.as_slice.result.now = sym (ap length (c.as_slice.ensures.text ∙ c.host.ensures.host)) in
    let port : length (decimal place.port) ≡ length c.format.result.now = sym (ap length (c.format.ensures.text ∙ ap decimal c.port.ensures.port)) in
    omega (
      arith,
      bytes_before place,
      c.bulk_len.ensures.len (codes "MIGRATE") refl,
      c.bulk_len-2.ensures.len place.host host,
      c.bulk_len-3.ensures.len (decimal place.port) port,
      c.bulk_len-4.ensures.len [] refl,
      c.bulk_len-5.ensures.len (codes "0") refl,
      c.bulk_len-6.ensures.len (codes "100") refl,
      c.bulk_len-7.ensures.len (codes "KEYS") refl,
    )

pub returns-clause-small : goal.returns-clause-small
returns-clause-small c =
    let place = c.args.to.now in
    let host : length place.host ≡ length c.as_slice.result.now = sym (ap length (c.as_slice.ensures.text ∙ c.host.ensures.host)) in
    let port : length (decimal place.port) ≡ length c.format.result.now = sym (ap length (c.format.ensures.text ∙ ap decimal c.port.ensures.port)) in
    omega (
      arith,
      host,
      port,
      host_is_short place.host c.host.ensures.valid,
      short_number place.port (omega (arith, c.port.ensures.valid)),
      c.bulk_len.ensures.small,
      c.bulk_len-2.ensures.small,
      c.bulk_len-3.ensures.small,
      c.bulk_len-4.ensures.small,
      c.bulk_len-5.ensures.small,
      c.bulk_len-6.ensures.small,
      c.bulk_len-7.ensures.small,
    )

pub returns-clause-host : goal.returns-clause-host
returns-clause-host c = host_is_short c.args.to.now.host c.host.ensures.valid

pub returns-clause-port : goal.returns-clause-port
returns-clause-port c = short_number c.args.to.now.port (omega (arith, c.port.ensures.valid))
