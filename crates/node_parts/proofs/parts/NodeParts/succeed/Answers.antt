use Rattle.std.proofs.Common.{ap, ◌∙◌, length}
use Rattle.std.specs.Prelude.{take}
use Rattle.node_parts.proofs.ElectionLemmas.{succeeds}
use Rattle.node_parts.proofs.MasterLemmas.{taken_succeeded}
use Rattle.node_parts.proofs.parts.NodeParts.succeed.Goals as goal

pub returns : goal.returns
returns g c =
    let count = length c.self.inside.config.nodes in
    let succession = c.args.succession in
    succeeds _ c.args.self.now succession.table succession.master succession.epoch (take count c.succeed.new.masters) c.forget.new.self c.in_place_of.result c.own_stream.result c.promote.new.self.stream c.self.view_is
    (ap (take count) c.succeed.ensures ∙ taken_succeeded c.self.inside.election.masters count succession.master c.self.inside.number)
    c.forget.ensures c.in_place_of.ensures c.own_stream.ensures c.promote.ensures.stream
