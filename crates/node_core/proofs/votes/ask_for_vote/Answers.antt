use Rattle.bus.specs.declared.bodies.ElectionBody.TheVariants.{Candidacy}
use Rattle.bus.specs.declared.message.Body.TheVariants.{Election}
use Rattle.node_core.proofs.VoteLemmas.{vote_drafted, vote_taken}
use Rattle.node_core.specs.Comes.{MayBeTaken}
use Rattle.node_parts.proofs.ChangeLemmas.{draft_can_be_made}
use Rattle.node_core.proofs.votes.ask_for_vote.Goals as goal

pub make-requires : goal.make-requires
make-requires g c =
    draft_can_be_made c.vote-granted.new.self (MayBeTaken c.args.node.now c.args.from (Election (Candidacy c.args.request.now))) c.write_vote.new.draft
    (vote_drafted c.args.ticket c.args.node.now c.vote-granted.new.self c.args.from c.args.request.now c.vote-granted.result c.write_vote.new.draft c.vote-granted.ensures.granted
    c.vote-granted.ensures.state c.in_ok-write_vote.ensures)

pub returns-clause-taken : goal.returns-clause-taken
returns-clause-taken g c =
    vote_taken c.args.ticket c.args.node.now c.vote-granted.new.self c.args.from c.args.request.now c.vote-granted.result c.write_vote.new.draft c.vote-granted.ensures.granted
    c.vote-granted.ensures.state c.in_ok-make.field-0.0 c.make.new.node c.in_ok-write_vote.ensures c.in_ok-make.ensures.outputs c.in_ok-make.ensures.state
