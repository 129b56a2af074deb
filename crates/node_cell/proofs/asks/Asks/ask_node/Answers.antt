use Rattle.std.proofs.Common.{refl, sym}
use Rattle.node_cell.proofs.asks.Asks.ask_node.Goals as goal

pub returns-clause-asked : goal.returns-clause-asked
returns-clause-asked g c = rw (sym c.self.view_is, c.push.ensures, c.note_of.ensures, c.of-asked.ensures) refl
