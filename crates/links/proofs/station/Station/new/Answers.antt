use Rattle.std.proofs.Common.{◌∙◌, map, subst, sym}
use mathlib.Core.List.{map-map}
use Rattle.link_ends.specs.Ends.{AreEndsOf}
use Rattle.links.specs.Stations.{port_of}
use Rattle.links.proofs.StationLemmas.{begins_so, end_in}
use Rattle.links.proofs.station.Station.new.Goals as goal

pub invariant_of-result : goal.invariant_of-result
invariant_of-result g c =
    let giving = g.E.PortEnd.giving in
    let ends = c.into_vec.result.items in
    begins_so _ _ (map giving ends) _ _ c.requires.journal c.requires.outbox
    (subst (AreEndsOf _ _ _) (sym (map-map end_in giving ends ∙ c.into_vec.ensures)) c.requires.ends)
    (c.in_ok-ports.ensures ∙ sym (map-map port_of giving ends)) c.none.ensures
