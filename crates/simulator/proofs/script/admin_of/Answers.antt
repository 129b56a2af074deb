use Rattle.std.proofs.Common.{rules, ◌≡◌, None}
use Rattle.command_table.specs.Numbers.{count_of}
use Rattle.world.specs.declared.step.Step.TheVariants.{Admin}
use Rattle.simulator.specs.Lines.{words}
use Rattle.simulator.specs.Script.{request_of}
use Rattle.simulator.proofs.Steps.{none_asked}
use Rattle.simulator.proofs.script.admin_of.Goals as goal

pub returns-in-None : goal.returns-in-None
returns-in-None c =
    let request : None ≡ request_of (words c.in_default-Some.request.now) = search rules in
    none_asked count_of Admin c.args.arguments.now c.split_word.result.0.now c.split_word.result.1 c.in_default-Some.request c.in-Some.node c.split_word.ensures.words
    c.in_default-Some.is-1 (search rules) request
