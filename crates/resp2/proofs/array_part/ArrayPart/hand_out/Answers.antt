use Rattle.std.proofs.Common.{rules}
use Rattle.resp2.proofs.ArraySteps.{whole_array}
use Rattle.resp2.proofs.array_part.ArrayPart.hand_out.Goals as goal

pub of_elements-requires : goal.of_elements-requires
of_elements-requires c =
    let whole = whole_array c.args.self.now.elements.items c.args.self.now.left c.args.self.now.outer.items c.requires.part c.requires.some c.requires.whole.0 c.requires.whole.1 in
    search (rules, whole)
