use Rattle.std.proofs.Common.{◌∙◌, sym, ap, arith, rules, nat_cmp}
use Rattle.std.specs.Ordering.{ordering_then}
use Rattle.byte_string.proofs.PaddedLemmas.{next_decides, padded}
use Rattle.byte_string.proofs.short.Short.order.Goals as goal

pub returns : goal.returns
returns c =
    let this = c.args.self.now in
    let other = c.args.other.now in
    let lengths = nat_cmp this.len other.len in
    next_decides c.order.result lengths c.then_with.result _ c.then_with.ensures (λ h. search rules)
    ∙ ap (λ r. ordering_then r lengths) c.order.ensures
    ∙ sym (padded this.len other.len this.bytes other.bytes (omega arith) (omega arith) (omega arith) c.requires.this.zeros c.requires.other.zeros)
