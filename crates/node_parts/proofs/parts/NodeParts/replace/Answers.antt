use Rattle.std.proofs.Common.{ap, ◌∙◌, length}
use Rattle.std.specs.Prelude.{take}
use Rattle.node_parts.proofs.ElectionLemmas.{replaces}
use Rattle.node_parts.proofs.MasterLemmas.{taken_succeeded}
use Rattle.node_parts.proofs.parts.NodeParts.replace.Goals as goal

pub returns-clause-state : goal.returns-clause-state
returns-clause-state g c =
    let inside = c.self.inside in
    let count = length inside.config.nodes in
    replaces c.args.self.now c.forget_master-dropped.new.self _ (take count c.succeed.new.masters) c.args.former c.args.next c.forget_master-dropped.ensures.state c.self.view_is
    (ap (take count) c.succeed.ensures ∙ taken_succeeded inside.election.masters count c.args.former c.args.next)
