-- Stations of all nodes, in their order or in another.
use Rattle.std.proofs.Common.{◌≡◌, ◌<◌, ◌∙◌, ℕ, List, [], ◌∷◌, length, map, IfErr, IfOk, Result, Ok, Err, refl, sym, ap, arith}
use Rattle.std.proofs.lemmas.Bool.{lt-ltb}
use Rattle.std.proofs.lemmas.List.{length-map}
use Rattle.std.proofs.lemmas.List.FromFn.{length-range_with_len}
use Rattle.std.proofs.lemmas.List.Sorted.{Contains-permutation, IsPermutation-map}
use Rattle.std.specs.List.{range_with_len}
use Rattle.std.specs.List.Sorted.{IsPermutation}
use Rattle.cluster_config.specs.Config.{ClusterConfig}
use Rattle.links.specs.Stations.{StationView}
use Rattle.tickets.specs.Tickets.{once_below, times}
use Rattle.audit_fault.specs.declared.fault.AuditFault.{AuditFault}
use Rattle.audit_fault.specs.declared.fault.AuditFault.TheVariants.{Memory, Stranger}
use Rattle.audit.specs.Gathered.{IsGathered, part_of, parts_of}
use Rattle.audit.specs.Law.{RunView}
use Rattle.audit.specs.Merge.{AreEachOnce, PartView, nodes_of}
use Rattle.audit.specs.Stations.{AreInOrder, cells_of}
use Rattle.audit.proofs.EachNode.{one_if, same_times, times_in_order}

abbrev number_of : StationView → ℕ
number_of station = station.cell.node

-- stations of all nodes are some
pub some_are_there : (count : ℕ) (stations : List StationView) → length stations ≡ 0 → 0 < count → AreEachOnce count (nodes_of (parts_of (cells_of stations))) → ⊥
some_are_there count [] none some once =
    let one = once 0 in
    let wanted : once_below 0 count ≡ 1 = ap one_if (lt-ltb 0 count some) in
    omega (arith, one, wanted)
some_are_there count (station ∷ stations) none some once = omega (arith, none)

-- by their numbers
pub are_in_order : (count other : ℕ) (stations : List StationView) → other ≡ count → 0 < count → map number_of stations ≡ range_with_len 0 count → AreInOrder other stations
are_in_order count other stations same some order = (
  omega (arith, same, some),
  sym (length-map stations number_of) ∙ ap length order ∙ length-range_with_len 0 count ∙ sym same,
  order ∙ ap (range_with_len 0) (sym same),
)

nodes_are : (stations : List StationView) → nodes_of (parts_of (cells_of stations)) ≡ map number_of stations
nodes_are [] = refl
nodes_are (station ∷ stations) = ap (λ (numbers : List ℕ). station.cell.node ∷ numbers) (nodes_are stations)

-- in order, they are each node once
pub each_once : (count : ℕ) (stations : List StationView) → AreInOrder count stations → AreEachOnce count (nodes_of (parts_of (cells_of stations)))
each_once count stations order n = ap (times n) (nodes_are stations ∙ order.2) ∙ times_in_order n count

-- by their numbers they aren't each node once
pub not_each_once : (count other : ℕ) (stations : List StationView) → other ≡ count → (AreEachOnce count (map number_of stations) → ⊥) → AreEachOnce other (nodes_of (parts_of (cells_of stations))) → ⊥
not_each_once count other stations same none once = none (λ n. ap (times n) (sym (nodes_are stations)) ∙ once n ∙ ap (once_below n) same)

-- ---- in another order

-- parts in another order are the same run
same_run : (config : ClusterConfig) (parts others : List PartView) (run : RunView) → IsPermutation parts others → IsGathered config others run → IsGathered config parts run
same_run config parts others run same is = record {
  each_once = λ n. same_times (λ (part : PartView). part.node) n parts others same ∙ is.each_once n;
  config_is = is.config_is;
  run_is = is.run_is;
  numbered = is.numbered;
  journals_are = λ part among. is.journals_are part (Contains-permutation parts others part same among);
}

pub gathered_in_order : (config : ClusterConfig) (stations ordered : List StationView) (result : Result RunView AuditFault) → IsPermutation stations ordered → IfOk result (IsGathered config (parts_of (cells_of ordered)))
    → IfOk result (IsGathered config (parts_of (cells_of stations)))
gathered_in_order config stations ordered (Ok run) same is =
    same_run config (parts_of (cells_of stations)) (parts_of (cells_of ordered)) run
    (IsPermutation-map part_of (cells_of stations) (cells_of ordered) (IsPermutation-map (λ (station : StationView). station.cell) stations ordered same)) is
gathered_in_order config stations ordered (Err fault) same is = tt

-- where memory alone was refused, there is no stranger
pub never_stranger : (P : Type 0) (result : Result RunView AuditFault) → IfErr result (λ fault. fault ≡ Memory) → IfErr result (λ fault. fault ≡ Stranger → P)
never_stranger P (Ok run) is = tt
never_stranger P (Err fault) is = λ same. cc
