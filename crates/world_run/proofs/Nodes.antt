-- The nodes of a run: how they begin, and one of them that changes.
use Rattle.std.proofs.Common.{◌≡◌, ◌≢◌, ◌<◌, ◌≤◌, ◌+◌, ◌⊎◌, ℕ, zero, suc, List, [], ◌∷◌, Option, Some, None, length, refl, ap, ◌∙◌, inl, inr, arith}
use Rattle.std.proofs.lemmas.Bool.{cases_lt}
use Rattle.std.proofs.lemmas.List.FromFn.{get_or-range_with_len, length-range_with_len}
use Rattle.std.proofs.lemmas.Option.{slice_get-get_or, slice_get-map, slice_get_past}
use Rattle.std.specs.List.{range_with_len}
use Rattle.std.specs.Prelude.{option_map, slice_get, slice_set}
use Rattle.cluster_config.specs.Config.{ClusterConfig}
use Rattle.node_step.specs.State.{first_state}
use Rattle.world_run.specs.Run.{first_nodes}

pub no_some : {A : Type 0} {o : Option A} {x : A} → o ≡ None → o ≡ Some x → ⊥
no_some none some = cc

pub same_some : {A : Type 0} {o : Option A} {x y : A} → o ≡ Some x → o ≡ Some y → x ≡ y
same_some one two = cc

pub set_here : {X : Type 0} (xs : List X) (i : ℕ) (x y : X) → slice_get xs i ≡ Some x → slice_get (slice_set xs i y) i ≡ Some y
set_here [] i x y is = absurd (no_some refl is)
set_here (z ∷ xs) zero x y is = refl
set_here (z ∷ xs) (suc i) x y is = set_here xs i x y is

pub set_apart : {X : Type 0} (xs : List X) (i : ℕ) (y : X) (j : ℕ) → j ≢ i → slice_get (slice_set xs i y) j ≡ slice_get xs j
set_apart [] i y j apart = refl
set_apart (z ∷ xs) zero y zero apart = absurd (apart refl)
set_apart (z ∷ xs) zero y (suc j) apart = refl
set_apart (z ∷ xs) (suc i) y zero apart = refl
set_apart (z ∷ xs) (suc i) y (suc j) apart = set_apart xs i y j (λ same. apart (ap suc same))

-- at the start there is a node of the configuration, or none
pub first_node : (config : ClusterConfig) (i : ℕ) → ((i < length config.nodes) × (slice_get (first_nodes config) i ≡ Some (first_state config i))) ⊎ (slice_get (first_nodes config) i ≡ None)
first_node config i =
    let numbers : List ℕ = range_with_len 0 (length config.nodes) in
    let all : length numbers ≡ length config.nodes = length-range_with_len 0 (length config.nodes) in
    elim (cases_lt i (length config.nodes)) [
      | inl below ↦
          let within : i < length numbers = omega (arith, all, below) in
          let counted : 0 + i ≡ i = omega arith in
          inl (below, slice_get-map (first_state config) numbers i ∙ ap (option_map (first_state config)) (slice_get-get_or numbers i 0 within ∙ ap Some (get_or-range_with_len 0 (length config.nodes) i 0 below ∙ counted)))
      | inr past ↦
          let beyond : length numbers ≤ i = omega (arith, all, past) in
          inr (slice_get-map (first_state config) numbers i ∙ ap (option_map (first_state config)) (slice_get_past numbers i beyond))
    ]
