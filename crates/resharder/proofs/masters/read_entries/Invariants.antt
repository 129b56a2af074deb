use Rattle.std.proofs.Common.{◌≡◌, [], length}
use Rattle.resharder.specs.Replies.{masters_onto}
use Rattle.resharder.proofs.masters.read_entries.Given as goal

-- what is left comes behind what was read
abbrev pub invariant-entries : goal.invariant-entries
invariant-entries l = masters_onto l.masters.entries l.rest ≡ masters_onto [] l.elements

abbrev pub decreases-entries : goal.decreases-entries
decreases-entries l = length l.rest
