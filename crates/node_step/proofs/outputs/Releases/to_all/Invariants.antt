use Rattle.std.proofs.Common.{◌≡◌, take, map}
use Rattle.node_step.specs.Outcome.{release}
use Rattle.node_step.proofs.outputs.Releases.to_all.Given as goal

-- the connections so far have their replies
abbrev pub invariant-loop-conn : goal.invariant-loop-conn
invariant-loop-conn l = l.releases.items ≡ map (release l.reply) (take l.conn-index l.conns)
