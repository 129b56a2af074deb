use Rattle.std.proofs.Common.{◌≡◌, rules}
use Rattle.std.specs.List.{flat_map}
use Rattle.simulator.proofs.Simulated.{simulated}
use Rattle.simulator.specs.Printing.{printed}
use Rattle.simulator.proofs.simulation.play.Goals as goal

pub returns : goal.returns
returns c =
    let prints : c.print_outputs.new.out.items ≡ flat_map printed c.in_ok-outputs.outputs.items = search rules in
    let played = c.in_ok-outputs.ensures in
    simulated c.args.config.now c.args.steps.now c.in_ok-world.world c.run.new.self c.in_ok-outputs.outputs.items c.print_outputs.new.out.items c.in_ok-world.ensures played.config played.plays prints
    played.one_keyspace played.one_master played.promoted_prefix
    (λ scene plays. c.answers_tell_what_became_of_commands.ensures c.args.config.now c.args.steps.now c.in_ok-outputs.outputs.items scene c.nodes-nodes.ensures.cluster plays)
