use Rattle.std.proofs.Common.{◌∙◌}
use Rattle.command_table.specs.Keys.{data_keys}
use Rattle.keyspace.specs.Commands.{exec}
use Rattle.key_rows.proofs.PlaceLemmas.{all_in_place, says}
use Rattle.key_rows.proofs.commands.execute.Goals as goal

pub plan_in_slot-requires-clause-slot : goal.plan_in_slot-requires-clause-slot
plan_in_slot-requires-clause-slot g c = all_in_place c.args.slot c.args.place (data_keys c.args.command.now) c.requires.slot c.requires.place

pub returns-clause-sent : goal.returns-clause-sent
returns-clause-sent g c =
    let node = c.args.node.now in
    c.in_ok-bodies.ensures
    ∙ says node (exec node.keyspace c.args.command.now).after c.args.slot c.args.place c.plan_in_slot.new.plan (data_keys c.args.command.now) c.requires.slot c.requires.place c.in_ok-reply.ensures.after
