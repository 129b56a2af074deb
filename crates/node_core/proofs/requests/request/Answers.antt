use Rattle.std.proofs.Common.{sym, ap, ◌∙◌}
use Rattle.connections.specs.Connections.{connection_at}
use Rattle.node_step.specs.State.{NodeState}
use Rattle.node_core.proofs.AnswerLemmas.{parked_is_drafted, unopened_is_drafted}
use Rattle.node_parts.proofs.ChangeLemmas.{drafts_nothing}
use Rattle.node_core.proofs.requests.request.Goals as goal

pub returns-in_default-clause-draft : goal.returns-in_default-clause-draft
returns-in_default-clause-draft g c =
    unopened_is_drafted c.args.node.now c.args.conn c.args.words.now c.args.draft.now
    (sym (ap (λ (node : NodeState). connection_at node.connections c.args.conn) c.node.view_is) ∙ sym c.get.ensures ∙ c.in_default.is) (drafts_nothing _ _ c.requires.nothing)

pub returns-in-Some-waits-clause-draft : goal.returns-in-Some-waits-clause-draft
returns-in-Some-waits-clause-draft g c =
    parked_is_drafted c.args.node.now c.args.conn c.in-Some.connection c.in-Some-waits._wait c.args.words.now c.args.draft.now
    (sym (ap (λ (node : NodeState). connection_at node.connections c.args.conn) c.node.view_is) ∙ sym c.get.ensures ∙ c.in-Some.is)
    c.in-Some-waits.is (drafts_nothing _ _ c.requires.nothing)
