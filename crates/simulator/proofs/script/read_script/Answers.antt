use Rattle.std.proofs.Common.{rules, arith, ◌≡◌, ◌∷◌, ◌+◌, ◌<◌, ℕ, Some, None, length, ap, subst, ◌∙◌}
use Rattle.simulator.specs.Lines.{lines}
use Rattle.simulator.specs.Script.{IsFirstUnreadable, step_in}
use Rattle.simulator.proofs.Reading.{goes_on, same_line, stops}
use Rattle.simulator.proofs.script.read_script.Goals as goal

pub returns-in_default-2-clause-line : goal.returns-in_default-2-clause-line
returns-in_default-2-clause-line c =
    let parts : lines c.loop-line.rest.now ≡ c.in-Some.line.now ∷ lines c.in-Some.behind.now = search rules in
    let none : step_in c.in-Some.line.now ≡ None = search rules in
    let count : length c.loop-line.steps.items ≡ c.len.result = search rules in
    λ number is. subst (λ (n : ℕ). IsFirstUnreadable n c.args.text.now) (ap (λ (n : ℕ). n + 1) count ∙ same_line _ _ _ is)
    (stops c.args.text.now c.loop-line.steps.items c.loop-line.rest.now c.in-Some.line.now c.in-Some.behind.now c.loop-line.invariant.reads parts none)

pub loop-line-preserved : goal.loop-line-preserved
loop-line-preserved c =
    let parts : lines c.loop-line.rest.now ≡ c.in-Some.line.now ∷ lines c.in-Some.behind.now = search rules in
    let read : Some c.in-Some-2.step ≡ step_in c.in-Some.line.now = search rules in
    let shorter : length c.in-Some.behind.now < length c.loop-line.rest.now = search rules in
    record {
      reads = rw c.in_ok-add.ensures.items (goes_on c.args.text.now c.loop-line.steps.items c.loop-line.rest.now c.in-Some.line.now c.in-Some.behind.now c.in-Some-2.step
          c.loop-line.invariant.reads parts read);
      room = omega (arith, c.in_ok-add.ensures.len, c.loop-line.invariant.room, shorter);
    }
