use Rattle.std.proofs.Common.{ap, sym, ◌∙◌}
use Rattle.cell_parts.specs.Journal.{CellView}
use Rattle.links.proofs.StationLemmas.{with_same_journal, with_step_taken}
use Rattle.links.proofs.station.Station.take_step.Goals as goal

pub invariant_of-self : goal.invariant_of-self
invariant_of-self g c = with_step_taken _ _ _ _ c.self.invariant (ap (λ station. station.unsorted) c.self.view_is ∙ c.requires) c.in-Some.ensures.sent c.take_sent.ensures.left

pub invariant_of-self-in-None : goal.invariant_of-self-in-None
invariant_of-self-in-None g c =
    let left = c.take_sent.ensures.left in
    with_same_journal _ _ _ c.self.invariant (ap (λ (cell : CellView). cell.config) left) (ap (λ (cell : CellView). cell.node) left)
    (ap (λ (cell : CellView). cell.journal) left) (c.in-None.ensures.none.1 ∙ sym c.in-None.ensures.none.0)
