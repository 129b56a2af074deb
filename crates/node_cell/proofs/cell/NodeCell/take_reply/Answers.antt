use Rattle.std.proofs.Common.{rules, ◌≡◌}
use Rattle.cell_parts.specs.Journal.{IsGiven}
use Rattle.cell_parts.specs.Undelivered.{joined}
use Rattle.node_cell.proofs.GivenLemmas.{given_left, taken_is_given}
use Rattle.node_cell.proofs.cell.NodeCell.take_reply.Goals as goal

pub invariant_of-self : goal.invariant_of-self
invariant_of-self g c = (
  c.self.invariant.0,
  rw c.take_reply_to.ensures.left (given_left c.args.conn (IsGiven (g.L.Log.entries c.self.inside.log)) (joined c.self.inside.undelivered.items) c.self.invariant.1),
  search rules,
  search rules,
  search rules,
  search rules,
)

pub returns-clause-given : goal.returns-clause-given
returns-clause-given g c =
    let journal : c.args.self.now.journal ≡ g.L.Log.entries c.self.inside.log = search rules in
    rw (c.take_reply_to.ensures.reply, journal)
    (taken_is_given c.args.conn (IsGiven (g.L.Log.entries c.self.inside.log)) (joined c.self.inside.undelivered.items) c.self.invariant.1)
