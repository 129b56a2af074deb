use Rattle.resp2.proofs.LeafSteps.{known_len, takes_bytes}
use Rattle.resp2.proofs.leaf.take_leaf.Goals as goal

pub returns-in-Some-clause-takes : goal.returns-in-Some-clause-takes
returns-in-Some-clause-takes c =
    takes_bytes c.take_bytes.result c.args.begun.now c.in-Some.len c.args.input.now.items c.take_bytes.new.input.items c.in-Some.is
    (known_len c.args.begun.now c.args.input.now.items c.in-Some.len c.requires c.in-Some.is) c.take_bytes.ensures.takes
