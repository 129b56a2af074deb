use Rattle.std.proofs.Common.{ap, subst}
use Rattle.std.specs.Prelude.{IfSome}
use Rattle.resp_values.specs.declared.reply.Reply.{Reply}
use Rattle.links.specs.Stations.{StationView}
use Rattle.cell_parts.specs.Journal.{CellView, IsGiven}
use Rattle.links.proofs.StationLemmas.{with_same_journal}
use Rattle.links.proofs.station.StationHoldsCell.take_reply.Goals as goal

pub invariant_of-self : goal.invariant_of-self
invariant_of-self g c =
    let left = c.take_reply.ensures.left in
    with_same_journal _ _ _ c.self.invariant (ap (λ (cell : CellView). cell.config) left) (ap (λ (cell : CellView). cell.node) left)
    (ap (λ (cell : CellView). cell.journal) left) (ap (λ (cell : CellView). cell.outbox) left)

pub returns-clause-given : goal.returns-clause-given
returns-clause-given g c =
    subst (λ (station : StationView). IfSome c.take_reply.result (λ (reply : Reply). IsGiven station.cell.journal (record { conn = c.args.conn; reply = reply }))) c.self.view_is
    c.take_reply.ensures.given
