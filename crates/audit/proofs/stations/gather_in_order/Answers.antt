use Rattle.std.proofs.Common.{rules, ◌≡◌, ℕ, List, length, sym, subst}
use Rattle.bus.specs.declared.message.Message.{Message}
use Rattle.link_ends.specs.Ends.{AllArrived, AreWired, EndView}
use Rattle.audit.specs.Gathered.{parts_of}
use Rattle.audit.specs.Merge.{AreEachOnce, PartView, nodes_of}
use Rattle.audit.specs.Stations.{cells_of}
use Rattle.audit.proofs.Delivered.{all_sound, wired}
use Rattle.audit.proofs.Ordering.{each_once}
use Rattle.audit.proofs.stations.gather_in_order.Goals as goal

pub compare_all-requires : goal.compare_all-requires
compare_all-requires g c =
    let left = c.in_ok-parts.ensures in
    subst (λ (ends : List (List (EndView Message))). AreWired (length ends) ends) (sym left.ends)
    (wired g.W.Web.links g.K.Deployment.config c.args.stations.items left.stations left.cluster c.requires.order)

pub merge-requires-clause-sound : goal.merge-requires-clause-sound
merge-requires-clause-sound g c =
    let left = c.in_ok-parts.ensures in
    all_sound g.W.Web.links g.K.Deployment.config c.args.stations.items left.stations left.cluster c.requires.order g.K.Deployment.table g.K.Deployment.seats c.in-Some.taken.journals.items c.in-Some.taken.seats.items
    (subst (λ (ends : List (List (EndView Message))). AllArrived (length ends) ends) left.ends c.compare_all.ensures) (search rules)

pub returns-clause-run : goal.returns-clause-run
returns-clause-run g c = c.merge.ensures (parts_of (cells_of c.args.stations.items)) (search rules)

pub unreachable-requires : goal.unreachable-requires
unreachable-requires g c =
    let none : AreEachOnce (length c.nodes-count.result.now) (nodes_of c.in_ok-parts.parts.items) → ⊥ = search rules in
    let count : length g.K.Deployment.config.nodes ≡ length c.nodes-count.result.now = search rules in
    none (subst (λ (parts : List PartView). AreEachOnce (length c.nodes-count.result.now) (nodes_of parts)) (sym c.in_ok-parts.ensures.parts)
    (subst (λ (n : ℕ). AreEachOnce n (nodes_of (parts_of (cells_of c.args.stations.items)))) count (each_once _ c.args.stations.items c.requires.order)))
