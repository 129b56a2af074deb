use Rattle.std.proofs.Common.{refl}
use Rattle.node_core.proofs.StepLemmas.{if_made}
use Rattle.node_core.proofs.VoteLemmas.{only_counted, promoted_by_vote}
use Rattle.node_core.proofs.votes.count_vote.Goals as goal

pub returns-in_default-clause-taken : goal.returns-in_default-clause-taken
returns-in_default-clause-taken g c =
    only_counted c.args.ticket c.args.node.now c.count_vote.new.self c.args.from c.args.epoch c.count_vote.result c.count_vote.ensures.elected c.count_vote.ensures.state c.plain.result.0 _
    c.in_default.is c.plain.ensures.outputs refl

pub returns-clause-taken : goal.returns-clause-taken
returns-clause-taken g c =
    if_made c.promoted.result _ _
    (λ made comes. promoted_by_vote c.args.ticket c.args.node.now c.count_vote.new.self c.args.from c.args.epoch c.count_vote.result c.count_vote.ensures.elected c.count_vote.ensures.state made.0
    c.promoted.new.node c.in-Some.elected c.in-Some.is comes)
    c.promoted.ensures.promoted
