use Rattle.std.proofs.Common.{◌≡◌, ◌++◌, drop}
use Rattle.keyspace.specs.Commands.{replies_of, keyspace_after}
use Rattle.keyspace.specs.Plan.{committed}
use Rattle.key_commands.proofs.commands.plan_each.Given as goal

-- the replies so far and those to what is left are those to all
abbrev pub invariant-loop-command : goal.invariant-loop-command
invariant-loop-command g l =
    let contents = g.S.Store.contents in
    record {
      told : l.replies.items ++ replies_of (committed (contents l.store) l.plan) (drop l.command-index l.commands) ≡ replies_of (committed (contents l.store) l.fn.plan) l.commands;
      left : keyspace_after (committed (contents l.store) l.plan) (drop l.command-index l.commands) ≡ keyspace_after (committed (contents l.store) l.fn.plan) l.commands;
    }
