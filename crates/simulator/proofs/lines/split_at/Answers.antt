use Rattle.std.proofs.Common.{◌==◌, sym}
use Rattle.std.proofs.lemmas.List.{take_rest}
use Rattle.simulator.proofs.Splitting.{split_there, split_nowhere}
use Rattle.simulator.proofs.lines.split_at.Goals as goal

pub returns-in-Some-clause-parts : goal.returns-in-Some-clause-parts
returns-in-Some-clause-parts c = rw take_rest (split_there (λ byte. byte == c.args.end) c.args.text.now c.in-Some.place (sym c.in-Some.ensures.place))

pub returns-in-None-clause-parts : goal.returns-in-None-clause-parts
returns-in-None-clause-parts c = split_nowhere (λ byte. byte == c.args.end) c.args.text.now (sym c.in-None.ensures.place)
