use Rattle.links.proofs.StationLemmas.{after_ask}
use Rattle.links.proofs.station.StationHoldsCell.ask.Goals as goal

pub invariant_of-self : goal.invariant_of-self
invariant_of-self g c = after_ask _ _ c.args.event c.ask_node.result _ c.self.invariant c.requires.own c.ask_node.ensures.ok c.ask_node.ensures.err
