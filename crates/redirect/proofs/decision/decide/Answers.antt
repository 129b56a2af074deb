use Rattle.std.proofs.Common.{rules}
use Rattle.redirect.specs.Asked.{asked, bytes_of}
use Rattle.redirect.proofs.DecisionLemmas.{decision-says}
use Rattle.redirect.proofs.decision.decide.Goals as goal

pub returns-clause-value : goal.returns-clause-value
returns-clause-value c = c.decide_in_slot.ensures.value c.args.table.now c.args.moves.now c.owner.ensures c.get.ensures (search rules)

pub returns-clause-crossed : goal.returns-clause-crossed
returns-clause-crossed c =
    (decision-says c.args.table.now c.args.moves.now c.args.node (asked c.args.keys.now c.args.there.now c.args.asking c.args.is_paused) (bytes_of c.args.keys.now) _ (returns-clause-value c)).crossed

pub returns-clause-served : goal.returns-clause-served
returns-clause-served c =
    (decision-says c.args.table.now c.args.moves.now c.args.node (asked c.args.keys.now c.args.there.now c.args.asking c.args.is_paused) (bytes_of c.args.keys.now) _ (returns-clause-value c)).served

pub returns-clause-moved : goal.returns-clause-moved
returns-clause-moved c =
    (decision-says c.args.table.now c.args.moves.now c.args.node (asked c.args.keys.now c.args.there.now c.args.asking c.args.is_paused) (bytes_of c.args.keys.now) _ (returns-clause-value c)).moved
