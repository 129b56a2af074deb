use Rattle.std.proofs.Common.{◌≡◌, ℕ, ◌+◌, ◌-◌, ◌<◌, List, [], ◌∷◌, ◌++◌, arith, rules, ap, ◌∙◌, subst}
use Rattle.std.proofs.lemmas.Grind.{common_steps}
use Rattle.tickets.specs.declared.rule.SeatView.{SeatView}
use Rattle.tickets.specs.Rule.{seat_view}
use Rattle.tickets.proofs.RuleSteps.{splits}
use Rattle.tickets.proofs.SeatLemmas.{fresh_push}
use Rattle.tickets.proofs.all_seats.deal.Goals as goal

pub split_seat-token-requires : goal.split_seat-token-requires
split_seat-token-requires c =
    let dealt = c.loop-made.invariant.dealt in
    let parts : c.loop-made.first.me.0.parts ≡ c.args.n - c.loop-made._made = ap (λ (me : SeatView × List (ℕ × ℕ)). me.0.parts) dealt in
    let test : c.loop-made._made < c.args.n - 1 = c.loop-made-test.true in
    (search rules, search rules, splits _ _ _ (omega arith) (ap (λ (me : SeatView × List (ℕ × ℕ)). me.0.drawn) dealt))

pub loop-made-preserved : goal.loop-made-preserved
loop-made-preserved c =
    let i = c.loop-made.invariant in
    let split = c.split_seat-token.ensures in
    let pushed : c.push.new.self.items ≡ c.loop-made.seats.items ++ c.over-seat.result ∷ [] = grind (arith, common_steps) in
    let kept = subst (λ (me : SeatView × List (ℕ × ℕ)). c.split_seat-token.new.seat.me ≡ (seat_view (me.0.parts - 1) me.0.all me.0.drawn, me.1)) i.dealt split.2 in
    let given = subst (λ (me : SeatView × List (ℕ × ℕ)). c.split_seat-token.result.me ≡ (seat_view 1 me.0.all [], [])) i.dealt split.4 in
    let fewer : c.args.n - c.loop-made._made - 1 ≡ c.args.n - (c.loop-made._made + 1) = omega arith in
    record {
      counted = grind (arith, common_steps);
      fresh = fresh_push _ _ _ _ _ _ _ i.fresh pushed c.over-seat.ensures (split.3 ∙ i.seated) given;
      seated = split.0 ∙ i.seated;
      dealt = kept ∙ ap (λ k. (seat_view k c.args.n [], [])) fewer;
    }

pub returns-clause-fresh : goal.returns-clause-fresh
returns-clause-fresh c =
    let i = c.loop-made.invariant in
    let pushed : c.push-2.new.self.items ≡ c.loop-made.seats.items ++ c.over-seat-2.result ∷ [] = grind (arith, common_steps) in
    fresh_push _ _ _ _ _ _ _ i.fresh pushed c.over-seat-2.ensures i.seated i.dealt
