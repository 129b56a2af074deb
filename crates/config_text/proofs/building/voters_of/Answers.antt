use Rattle.std.proofs.Common.{◌≡◌, ◌∙◌, ap, arith, get_or}
use Rattle.config_text.specs.Faults.{number_of}
use Rattle.config_text.proofs.building.voters_of.Goals as goal

pub node_no-requires : goal.node_no-requires
node_no-requires c =
    let known = c.requires.known c.loop-id.id-index c.id-item.result (omega arith) in
    let same : c.number_of.result ≡ number_of c.args.nodes.now (get_or c.args.ids.now c.loop-id.id-index c.id-item.result) = c.number_of.ensures ∙ ap (number_of c.args.nodes.now) c.id-item.is in
    omega arith
