use Rattle.std.proofs.Common.{◌≡◌, ◌∙◌, ◌++◌, ◌∷◌, [], All, append-nil, ap, subst, sym, length, map, vec_len, arith}
use Rattle.std.specs.Vec.Iter.{into_iter_items}
use Rattle.std.proofs.lemmas.List.{nil_from_length}
use Rattle.std.proofs.lemmas.List.Elements.{All-cons}
use Rattle.links.specs.Stations.{IsStation, StationView}
use Rattle.audit.specs.Gathered.{part_of}
use Rattle.audit.specs.Stations.{cells_of, ends_of}
use Rattle.audit.proofs.Moving.{moved}
use Rattle.audit.proofs.stations.finish_each.Goals as goal

pub loop-station-init : goal.loop-station-init
loop-station-init g c =
    let gives = c.into_iter-station-iterator.ensures.into_iter_gives in
    let counted : vec_len c.args.stations ≡ length c.args.stations.items = search (c.args.stations.ok) in
    record {
      parts = rw c.requires.no_part (ap (λ stations. map part_of (cells_of stations)) gives.0);
      ends = rw c.requires.no_end (ap (map ends_of) gives.0);
      stations = subst (All (IsStation g.W.Web.links)) gives.0;
      cluster = subst (All (λ (station : StationView). station.cell.config ≡ g.K.Deployment.config)) gives.0;
      left = gives.1 ∙ counted ∙ ap length (sym gives.0);
    }

pub loop-station-preserved : goal.loop-station-preserved
loop-station-preserved g c =
    let steps = c.in-Some.ensures.steps in
    let wired = IsStation g.W.Web.links in
    let of_cluster = λ (station : StationView). station.cell.config ≡ g.K.Deployment.config in
    let part : c.push.new.self.items ≡ c.loop-station.parts.items ++ c.of.result ∷ [] = rw (sym c.in_ok-map_err.ensures.variant) at c.push.ensures.items in
    let end : c.push-in-loop-station.new.self.items ≡ c.loop-station.all_ends.items ++ c.new.result ∷ [] = rw (sym c.in_ok-map_err-2.ensures.variant) at c.push-in-loop-station.ensures.items in
    record {
      parts = moved part_of _ _ _ c.in-Some.station.cell _ _ (rw (c.of.ensures, c.in_ok-cell.ensures.cell) at part) (ap cells_of steps.0) c.loop-station.invariant.parts;
      ends = moved ends_of _ _ _ c.in-Some.station _ _ (rw (c.new.ensures, c.in_ok-cell.ensures.ends) at end) steps.0 c.loop-station.invariant.ends;
      stations = λ rest. c.loop-station.invariant.stations (subst (All wired) (sym steps.0) (All-cons wired c.in-Some.station (into_iter_items c.next.new.self) c.in_ok-cell.ensures.station rest));
      cluster = λ rest. c.loop-station.invariant.cluster (subst (All of_cluster) (sym steps.0) (All-cons of_cluster c.in-Some.station (into_iter_items c.next.new.self) c.in_ok-cell.ensures.cluster rest));
      left = omega (arith, steps.1, c.loop-station.invariant.left, ap length steps.0);
    }

pub returns-clause-parts : goal.returns-clause-parts
returns-clause-parts g c =
    let none : into_iter_items c.loop-station.station-iterator ≡ [] = nil_from_length _ (sym c.loop-station.invariant.left ∙ c.in-None.ensures.steps.0) in
    sym (append-nil c.loop-station.parts.items) ∙ (rw none at c.loop-station.invariant.parts)

pub returns-clause-ends : goal.returns-clause-ends
returns-clause-ends g c =
    let none : into_iter_items c.loop-station.station-iterator ≡ [] = nil_from_length _ (sym c.loop-station.invariant.left ∙ c.in-None.ensures.steps.0) in
    sym (append-nil c.loop-station.all_ends.items) ∙ (rw none at c.loop-station.invariant.ends)
