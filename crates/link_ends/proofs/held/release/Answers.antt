use Rattle.std.proofs.Common.{rules, ◌≡◌, ◌∷◌, ◌++◌, [], length, ap, arith, append_assoc, sym, ◌∙◌}
use Rattle.link_ends.specs.Shims.{due, ticked}
use Rattle.link_ends.proofs.HeldLemmas.{due-cons, first_of, ticked-cons}
use Rattle.link_ends.proofs.held.release.Goals as goal

pub loop-preserved : goal.loop-preserved
loop-preserved g c =
    let was = c.loop.invariant in
    let first = c.in-Some.first in
    let split = first_of was.left was.kept first c.pop_front.new.self.items (sym was.are ∙ c.in-Some.ensures.items) (omega (arith, was.count, c.loop-test.true)) in
    let rest = split.0 in
    let stays = ticked (first ∷ []) in
    let comes = due (first ∷ []) in
    let are : c.put.new.held.items ≡ rest ++ (was.kept ++ stays) = c.put.ensures.held ∙ ap (λ items. items ++ stays) split.2 ∙ append_assoc rest was.kept stays in
    record {
      left = rest;
      kept = was.kept ++ stays;
      are = are;
      count = omega (arith, was.count, ap length split.1);
      held = was.held ∙ ap (λ left. was.kept ++ ticked left) split.1 ∙ ap (λ all. was.kept ++ all) (ticked-cons first rest) ∙ sym (append_assoc was.kept stays (ticked rest));
      coming = ap (λ items. items ++ due rest) c.put.ensures.coming ∙ append_assoc c.loop.coming.items comes (due rest)
          ∙ ap (λ all. c.loop.coming.items ++ all) (sym (due-cons first rest)) ∙ ap (λ left. c.loop.coming.items ++ due left) (sym split.1) ∙ was.coming;
      room = omega (arith, was.room, c.put.ensures.more, c.put.ensures.capacity, ap length split.1);
      long = search rules ∙ ap length are;
    }
