use Rattle.std.proofs.lemmas.List.Elements.{All-drop}
use Rattle.cell_parts.specs.Journal.{IsSent}
use Rattle.node_cell.proofs.posted.SendingIterator.next.Goals as goal

pub invariant_of-self-2 : goal.invariant_of-self-2
invariant_of-self-2 g c = rw c.pop_front.ensures.rest (All-drop (IsSent g.K.Deployment.config) 1 c.self.inside.messages.items c.self.invariant)
