use Rattle.std.proofs.Common.{rules, refl}
use Rattle.election_rows.proofs.VoteLemmas.{vote_drafted}
use Rattle.election_rows.proofs.votes.write_vote.Goals as goal

pub returns : goal.returns
returns g c =
    vote_drafted c.args.node.now c.args.request c.args.granted _ _ c.draft_releases.new.draft (search rules) c.in_ok-bodies.ensures (c.draft_releases.ensures _ refl)
