use Rattle.std.proofs.Common.{◌≡◌, sym, ◌∙◌, rules}
use Rattle.election.specs.Members.{is_voter}
use Rattle.node_parts.proofs.ToAll.{left_out, sent_on}
use Rattle.node_step.specs.Failing.{members_of}
use Rattle.election_rows.proofs.votes.append_to_voters.Goals as goal
use Rattle.election_rows.proofs.votes.append_to_voters.Goals.{then-is_voter+in_ok-clone+in_ok-push, else-is_voter}

pub loop-place-preserved : goal.loop-place-preserved
loop-place-preserved g c =
    let votes = is_voter (members_of c.args.node.now) in
    let at : c.unwrap-to.result ≡ c.loop-place.place = search rules in
    elim c.if-is_voter.branch [
      | then-is_voter+in_ok-clone+in_ok-push w ↦
          sent_on votes c.loop-place.place c.args.body.now c.unwrap-to.result w.in_ok-clone.field-0 c.args.bodies.now.items c.loop-place.bodies.items c.if-is_voter.bodies.items
          at w.in_ok-clone.ensures.cases (sym c.is_voter.ensures ∙ w.if-is_voter.true) c.loop-place.invariant (rw w.bodies-is w.in_ok-push.ensures.items)
      | else-is_voter w ↦
          left_out votes c.loop-place.place c.args.body.now c.unwrap-to.result c.args.bodies.now.items c.loop-place.bodies.items c.if-is_voter.bodies.items
          at (sym c.is_voter.ensures ∙ w.if-is_voter.false) c.loop-place.invariant (rw w.bodies-is)
    ]
