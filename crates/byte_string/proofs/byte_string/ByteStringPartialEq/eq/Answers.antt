use Rattle.std.proofs.Common.{◌≡◌, ap, sym, ◌∙◌, rules, nat_cmp}
use Rattle.std.specs.Cmp.Lexicographic.{slice_cmp, texts_ties}
use Rattle.std.specs.Ordering.{is_eq}
use Rattle.byte_string.proofs.byte_string.ByteStringPartialEq.eq.Goals as goal

pub returns-in-Short-Short : goal.returns-in-Short-Short
returns-in-Short-Short c =
    let order : c.order.result ≡ slice_cmp nat_cmp c.args.self.now c.args.other.now = search rules in
    c.is_eq.ensures ∙ ap is_eq order ∙ sym (texts_ties c.args.self.now c.args.other.now)
