use Rattle.std.proofs.Common.{rules, ◌∙◌, ◌++◌, ap, sym}
use Rattle.std.specs.Prelude.{option_to_list}
use Rattle.resp2.proofs.ArraySteps.{array_left}
use Rattle.resp2.proofs.array_part.ArrayPart.end_arrays.Goals as goal

pub returns-in_default-clause-all : goal.returns-in_default-clause-all
returns-in_default-clause-all c =
    (c.arrays-test.true, search rules)

pub returns-in_default-clause-was : goal.returns-in_default-clause-was
returns-in_default-clause-was c = c.arrays.invariant.was c.arrays-test.true

pub arrays-preserved : goal.arrays-preserved
arrays-preserved c = record {
  part = array_left c.arrays.self.elements.items c.arrays.self.left c.in-Some.left c.arrays.self.outer.items c.pop.new.self.items c.arrays.invariant.part
      (λ none. c.requires.some (sym c.arrays.invariant.same ∙ none)) c.arrays-test.true
      (c.pop.ensures.items ∙ ap (λ found. c.pop.new.self.items ++ option_to_list found) c.in-Some.is);
  same = c.arrays.invariant.same;
  was = λ _. c.arrays.invariant.was c.arrays-test.true;
}
