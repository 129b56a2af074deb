use Rattle.std.proofs.Common.{rules, ◌≡◌, ◌==◌, ◌∙◌, length, not}
use Rattle.std.specs.List.{list_any}
use Rattle.cell_parts.specs.Undelivered.{joined}
use Rattle.node_cell.proofs.GivenLemmas.{any_there}
use Rattle.node_cell.proofs.cell.NodeCell.has_undelivered.Goals as goal

pub returns : goal.returns
returns g c =
    let shown : c.args.self.now.undelivered ≡ joined c.self.inside.undelivered.items = search rules in
    let there : c.has_some.result ≡ list_any (λ part. not (length part == 0)) c.self.inside.undelivered.items = search rules in
    rw shown (there ∙ any_there c.self.inside.undelivered.items)
