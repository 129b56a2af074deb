use Rattle.std.proofs.Common.{◌≡◌, take}
use Rattle.resharder.specs.Orders.{migrate_words}
use Rattle.resharder.proofs.order.migrate_words.Given as goal

-- the keys so far are named
abbrev pub invariant-loop-key : goal.invariant-loop-key
invariant-loop-key l = l.words.items ≡ migrate_words l.migration.to (take l.key-index l.keys)
