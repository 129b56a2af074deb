use Rattle.std.proofs.Common.{◌≡◌, ◌++◌}
use Rattle.election.specs.Members.{is_voter}
use Rattle.node_step.specs.Failing.{members_of}
use Rattle.node_step.specs.Orders.{to_all}
use Rattle.node_parts.proofs.ToAll.{those_below}
use Rattle.election_rows.proofs.votes.append_to_voters.Given as goal

-- the voters so far get the body
abbrev pub invariant-loop-place : goal.invariant-loop-place
invariant-loop-place g l = l.bodies.items ≡ l.initial.bodies.items ++ to_all (those_below (is_voter (members_of l.node)) l.place) l.body
