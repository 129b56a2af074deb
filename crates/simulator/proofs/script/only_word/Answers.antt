use Rattle.simulator.proofs.Steps.{another_comes}
use Rattle.simulator.proofs.script.only_word.Goals as goal

pub returns-in_default-Some : goal.returns-in_default-Some
returns-in_default-Some c =
    another_comes c.args.arguments.now c.split_word.result.0.now c.split_word.result.1 c.in_default-Some.field-0-1 c.split_word.ensures.words c.in_default-Some.is-1
