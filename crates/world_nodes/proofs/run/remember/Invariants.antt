use Rattle.std.proofs.Common.{◌≡◌, ◌++◌, take}
use Rattle.world_nodes.proofs.run.remember.Given as goal

abbrev pub invariant-loop-message : goal.invariant-loop-message
invariant-loop-message l = l.sent.items ≡ l.fn.sent.items ++ take l.message-index l.messages
