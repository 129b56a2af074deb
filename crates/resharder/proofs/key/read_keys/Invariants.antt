use Rattle.std.proofs.Common.{◌≡◌, [], length}
use Rattle.resharder.specs.Replies.{keys_onto}
use Rattle.resharder.proofs.key.read_keys.Given as goal

-- what is left comes behind what was read
abbrev pub invariant-keys : goal.invariant-keys
invariant-keys l = keys_onto l.keys l.rest ≡ keys_onto [] l.elements

abbrev pub decreases-keys : goal.decreases-keys
decreases-keys l = length l.rest
