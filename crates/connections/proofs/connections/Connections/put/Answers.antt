use Rattle.std.proofs.Common.{◌≡◌, ◌+◌, Some, None, get_or, is_some, arith, sym, ap, ◌∙◌}
use Rattle.std.specs.Option.{option_copied}
use Rattle.connections.specs.Counting.{count_of_waits}
use Rattle.connections.specs.declared.connections.Connections.TheInside.{Inside}
use Rattle.connections.proofs.Counts.{count-put, count-room, one_if}
use Rattle.connections.proofs.connections.Connections.put.Goals.{then-waited, else-waited}
use Rattle.connections.proofs.connections.Connections.put.Goals as goal

pub prove-unreachable-requires : goal.prove-unreachable-requires
prove-unreachable-requires c =
    let slots = c.self.inside.places.slots in
    let former = c.in-Some.former.now in
    let found : get_or slots c.args.key None ≡ Some former = sym c.get.ensures ∙ ap option_copied c.in-Some.is in
    let counted = count-put slots c.args.key former (record former { waits = None }) found in
    let rest : c.if-waited.self-inside.waits + one_if (is_some former.waits) ≡ count_of_waits slots =
    elim c.if-waited.branch [
      | then-waited w ↦
          let one : one_if (is_some former.waits) ≡ 1 = ap one_if (sym c.is_some-waited.ensures ∙ w.if-waited.true) in
          let waits = ap (λ (inside : Inside). inside.waits) w.self-inside-is in
          omega (arith, c.self.invariant.waiting)
      | else-waited w ↦
          let none : one_if (is_some former.waits) ≡ 0 = ap one_if (sym c.is_some-waited.ensures ∙ w.if-waited.false) in
          let waits = ap (λ (inside : Inside). inside.waits) w.self-inside-is in
          omega (arith, c.self.invariant.waiting)
    ] in
    let room = count-room slots c.args.key former c.if-waited.self-inside.waits found rest in
    omega (arith, c.len-places.ensures, c.if-prove.true)
