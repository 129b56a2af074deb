use Rattle.std.proofs.Common.{rules, None, sym, ap, ◌∙◌}
use Rattle.hash.specs.Pairs.{Pairs, field_changed}
use Rattle.hash.specs.Places.{IsNowhere}
use Rattle.hash.proofs.KeptLemmas.{nothing_removed}
use Rattle.hash.proofs.packed.Packed.remove.Goals as goal

pub returns-in_default : goal.returns-in_default
returns-in_default c =
    let nowhere : IsNowhere c.self.inside.block.bytes c.args.field.now = search rules in
    sym c.self.view_is ∙ nothing_removed c.self.inside.block.bytes c.args.field.now nowhere ∙ ap (λ (pairs : Pairs). field_changed pairs c.args.field.now None) c.self.view_is
