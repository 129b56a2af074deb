use Rattle.std.proofs.Common.{◌∙◌, ap, drop, List}
use Rattle.std.proofs.lemmas.List.Elements.{All-drop, All-same}
use Rattle.bus.specs.declared.message.Message.{Message}
use Rattle.cell_parts.specs.Journal.{IsSent}
use Rattle.node_cell.proofs.posted.Sending.let_go.Goals as goal

pub invariant_of-self : goal.invariant_of-self
invariant_of-self g c = All-same (IsSent g.K.Deployment.config) _ _ c.pop_front.ensures.rest (All-drop (IsSent g.K.Deployment.config) 1 c.self.inside.messages.items c.self.invariant)

pub returns : goal.returns
returns g c = c.pop_front.ensures.rest ∙ ap (λ (all : List Message). drop 1 all) c.self.view_is
