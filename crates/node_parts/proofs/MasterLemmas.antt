-- Who copies whom.
use Rattle.std.proofs.Common.{◌≡◌, ◌<◌, ◌≤◌, ℕ, zero, suc, List, [], ◌∷◌, Option, Some, None, length, map, refl, sym, ap, ◌∙◌, arith}
use Rattle.std.proofs.lemmas.List.{ext_get_or}
use Rattle.std.specs.Prelude.{slice_get, slice_index_or, slice_set, take}
use Rattle.cluster_config.specs.declared.config.NodeConfig.{NodeConfig}
use Rattle.cluster_config.specs.declared.config.Role.TheVariants.{Master, Replica}
use Rattle.key_slot.specs.declared.slots.SlotRange.{SlotRange}
use Rattle.node_step.specs.Roles.{instead, succeeded}
use Rattle.node_step.specs.State.{first_masters, master_in}

-- the master of a node, if it is there and has one
abbrev master_by : Option NodeConfig → Option ℕ
master_by None = None
master_by (Some node) = master_in node.role

master_at : (nodes : List NodeConfig) (number : ℕ) → slice_index_or (first_masters nodes) number None ≡ master_by (slice_get nodes number)
master_at [] number = refl
master_at (node ∷ nodes) zero = refl
master_at (node ∷ nodes) (suc number) = master_at nodes number

-- one that isn't there has none
pub unknown_has_no_master : (nodes : List NodeConfig) (number : ℕ) → slice_get nodes number ≡ None → None ≡ slice_index_or (first_masters nodes) number None
unknown_has_no_master nodes number unknown = sym (master_at nodes number ∙ ap master_by unknown)

-- one that is there has the master of its role
pub replica_has_master : (nodes : List NodeConfig) (number : ℕ) (node : NodeConfig) (of : ℕ) → slice_get nodes number ≡ Some node → node.role ≡ Replica of → Some of ≡ slice_index_or (first_masters nodes) number None
replica_has_master nodes number node of known is = sym (master_at nodes number ∙ ap master_by known ∙ ap master_in is)

pub master_has_none : (nodes : List NodeConfig) (number : ℕ) (node : NodeConfig) (slots : List SlotRange) → slice_get nodes number ≡ Some node → node.role ≡ Master slots → None ≡ slice_index_or (first_masters nodes) number None
master_has_none nodes number node slots known is = sym (master_at nodes number ∙ ap master_by known ∙ ap master_in is)

-- ---- rows with a place for each node that there may be

as_many : (nodes : List NodeConfig) → length (first_masters nodes) ≡ length nodes
as_many [] = refl
as_many (node ∷ nodes) = ap (λ n. suc n) (as_many nodes)

taken_at : (row : List (Option ℕ)) (n i : ℕ) → i < n → slice_index_or (take n row) i None ≡ slice_index_or row i None
taken_at [] zero i below = refl
taken_at [] (suc n) i below = refl
taken_at (x ∷ row) zero i below = absurd (omega (arith, below))
taken_at (x ∷ row) (suc n) zero below = refl
taken_at (x ∷ row) (suc n) (suc i) below = taken_at row n i (omega (arith, below))

as_long : (row : List (Option ℕ)) (n : ℕ) → n ≤ length row → length (take n row) ≡ n
as_long row zero most = refl
as_long [] (suc n) most = absurd (omega (arith, most))
as_long (x ∷ row) (suc n) most = ap (λ m. suc m) (as_long row n (omega (arith, most)))

-- a row that has the masters of all nodes in their places
pub all_first : (row : List (Option ℕ)) (nodes : List NodeConfig) → length row ≡ 16 → length nodes ≤ 16
    → ((place : ℕ) → place < 16 → slice_index_or row place None ≡ slice_index_or (first_masters nodes) place None) → take (length nodes) row ≡ first_masters nodes
all_first row nodes whole most each =
    let long : length (take (length nodes) row) ≡ length nodes = as_long row (length nodes) (omega (arith, whole, most)) in
    ext_get_or None (take (length nodes) row) (first_masters nodes) (long ∙ sym (as_many nodes))
    (λ place below. let within : place < length nodes = omega (arith, below, long) in taken_at row (length nodes) place within ∙ each place (omega (arith, within, most)))

-- whoever takes a place takes it in those that count, too
taken_set : (row : List (Option ℕ)) (n i : ℕ) → take n (slice_set row i None) ≡ slice_set (take n row) i None
taken_set [] zero i = refl
taken_set [] (suc n) i = refl
taken_set (x ∷ row) zero zero = refl
taken_set (x ∷ row) zero (suc i) = refl
taken_set (x ∷ row) (suc n) zero = refl
taken_set (x ∷ row) (suc n) (suc i) = ap (λ rest. x ∷ rest) (taken_set row n i)

taken_map : (f : Option ℕ → Option ℕ) (row : List (Option ℕ)) (n : ℕ) → take n (map f row) ≡ map f (take n row)
taken_map f [] zero = refl
taken_map f [] (suc n) = refl
taken_map f (x ∷ row) zero = refl
taken_map f (x ∷ row) (suc n) = ap (λ rest. f x ∷ rest) (taken_map f row n)

pub taken_succeeded : (row : List (Option ℕ)) (n former next : ℕ) → take n (succeeded row former next) ≡ succeeded (take n row) former next
taken_succeeded row n former next = taken_set (map (instead former next) row) n next ∙ ap (λ (those : List (Option ℕ)). slice_set those next None) (taken_map (instead former next) row n)

-- one that is among them is a master
pub succeeds_there : (masters after new : List (Option ℕ)) (former next : ℕ) → after ≡ map (instead former next) masters → new ≡ slice_set after next None → new ≡ succeeded masters former next
succeeds_there masters after new former next follows sets = sets ∙ ap (λ (those : List (Option ℕ)). slice_set those next None) follows

set_past : (masters : List (Option ℕ)) (i : ℕ) → length masters ≤ i → slice_set masters i None ≡ masters
set_past [] i past = refl
set_past (x ∷ masters) zero past = absurd (omega (arith, past))
set_past (x ∷ masters) (suc i) past = ap (λ rest. x ∷ rest) (set_past masters i (omega (arith, past)))

-- past them there is none
pub succeeds_past : (masters after : List (Option ℕ)) (former next : ℕ) → after ≡ map (instead former next) masters → length after ≤ next → after ≡ succeeded masters former next
succeeds_past masters after former next follows past = sym (set_past after next past) ∙ ap (λ (those : List (Option ℕ)). slice_set those next None) follows
