-- The ends of all nodes are those of the links that they name.
use Rattle.std.proofs.Common.{◌+◌, ◌<◌, ℕ, suc, List, [], ◌∷◌, length, get_or, sym, subst, ap, arith}
use Rattle.atomic_table.specs.Seated.{TableId}
use Rattle.std.proofs.lemmas.List.{get_or_default}
use Rattle.std.specs.Prelude.{All}
use Rattle.link_ends.specs.Ends.{AreEndsOf, AreLinked, AreLinkedFrom, EndView, IsUnused, links_by, no_end}

from_each : {T : Type 0} (links : ℕ → ℕ → TableId) (count number : ℕ) (ends : List (List (EndView T))) → ((node : ℕ) → node < length ends → AreEndsOf links (number + node) count (get_or ends node []))
    → AreLinkedFrom links count number ends
from_each links count number [] each = tt
from_each links count number (first ∷ others) each = (
  subst (λ (node : ℕ). AreEndsOf links node count first) (omega arith) (each 0 (omega arith)),
  from_each links count (number + 1) others (λ node within.
      subst (λ (place : ℕ). AreEndsOf links place count (get_or others node [])) (omega arith) (each (suc node) (omega (arith, within)))),
)

own_ends : {T : Type 0} (count : ℕ) (ends : List (List (EndView T))) → AreLinked count ends → (node : ℕ) → node < count → AreEndsOf (links_by ends) node count (get_or ends node [])
own_ends {T} count ends are node inside = record {
  whole = are.others node inside;
  are_ends = λ other none below.
      let here : other < length (get_or ends node []) = subst (λ (n : ℕ). other < n) (sym (are.others node inside)) below in
      record {
        to = ap (λ (end : EndView T). end.to) (get_or_default (get_or ends node []) other none no_end here);
        from = sym (are.linked other node no_end none below inside);
        unused = are.unused node other none inside below;
      };
}

pub named_by : {T : Type 0} (count : ℕ) (ends : List (List (EndView T))) → AreLinked count ends → AreLinkedFrom (links_by ends) count 0 ends
named_by count ends are = from_each (links_by ends) count 0 ends (λ node within.
    subst (λ (place : ℕ). AreEndsOf (links_by ends) place count (get_or ends node [])) (omega arith)
    (own_ends count ends are node (subst (λ (n : ℕ). node < n) are.nodes within)))

-- no end was used
pub all_unused : {T : Type 0} (count : ℕ) (ends : List (List (EndView T))) → AreLinked count ends → All (λ (row : List (EndView T)). All IsUnused row) ends
all_unused {T} count ends are node row inside other none below =
    let here : node < count = subst (λ (n : ℕ). node < n) are.nodes inside in
    let same = get_or_default ends node row [] inside in
    let there : other < count = subst (λ (n : ℕ). other < n) (are.others node here) (subst (λ (row : List (EndView T)). other < length row) same below) in
    subst (λ (row : List (EndView T)). IsUnused (get_or row other none)) (sym same) (are.unused node other none here there)
