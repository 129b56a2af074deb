use Rattle.std.proofs.Common.{◌≡◌, true, sym, ap, ◌∙◌}
use Rattle.hash.proofs.HoleLemmas.{left-closed}
use Rattle.hash.specs.Holed.{is_in, left_of}
use Rattle.hash.specs.Pairs.{Pairs}
use Rattle.hash.proofs.holes.close.Goals as goal

pub returns-then-swap_remove-clause-pairs : goal.returns-then-swap_remove-clause-pairs
returns-then-swap_remove-clause-pairs c =
    let was : is_in c.args.removed.now.keys c.args.field.now ≡ true = sym c.swap_remove.ensures.found ∙ c.if-swap_remove.true in
    ap (λ (pairs : Pairs). left_of pairs c.swap_remove.new.self.keys) c.shift_remove.ensures.entries
    ∙ left-closed c.args.field.now c.args.removed.now.keys c.swap_remove.new.self.keys c.swap_remove.ensures.updates.2 was c.args.map.now.entries c.len.ensures.unique
