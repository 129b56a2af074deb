-- Worked values of the decision: slot 12182 moves from node 2 to node 1 (Redis Cluster specification, "ASK redirection").
use Rattle.std.proofs.Common.{◌≡◌, ℕ, Bool, refl, true, false, List, [], ◌∷◌}
use Rattle.std.specs.Prelude.{Some, None, codes}
use Rattle.slot_state.specs.State.{state_of}
use Rattle.slot_state.specs.declared.running.Move.{Move}
use Rattle.slot_state.specs.declared.running.Move.TheVariants.{Leaves, Comes}
use Rattle.redirect.specs.Asked.{Asked}
use Rattle.redirect.specs.Decision.{in_slot}
use Rattle.redirect.specs.declared.asked.Asking.{Asking}
use Rattle.redirect.specs.declared.asked.Asking.TheVariants.{No, Any, Of}
use Rattle.redirect.specs.declared.decision.Decision.{Decision}
use Rattle.redirect.specs.declared.decision.Decision.TheVariants.{Serve, ServeImport, Down, TryAgain, Ask, Moved}
use Rattle.redirect.specs.declared.decision.Reason.TheVariants.{Frozen, SomeAreMissing}

-- move 7 at its two ends, as it begins
abbrev at_source : Move
at_source = Leaves 1 7 0 None

abbrev at_target : Move
at_target = Comes 2 7 0 None

abbrev command : List (List ℕ) → List Bool → Asking → Asked
command keys there asking = record { keys = keys; there = there; asking = asking; paused = false }

-- at a node, with the slot's move there
abbrev decided : ℕ → Move → Asked → Decision
decided node move asked = in_slot 12182 (Some 2) (state_of (Some 2) (Some move) node) asked

-- at the source: a key that is missing, two of which one is missing, one that is frozen
missing_at_source : decided 2 at_source (command (codes "foo" ∷ []) (false ∷ []) No) ≡ Ask 12182 1 7
missing_at_source = refl

some_at_source : decided 2 at_source (command (codes "{foo}1" ∷ codes "{foo}2" ∷ []) (true ∷ false ∷ []) No)
    ≡ TryAgain SomeAreMissing
some_at_source = refl

frozen_at_source : decided 2 (Leaves 1 7 1 (Some (codes "foo" ∷ []))) (command (codes "foo" ∷ []) (true ∷ []) No)
    ≡ TryAgain Frozen
frozen_at_source = refl

-- at the target: after ASKING, without it, and after one for another move
asked_at_target : decided 1 at_target (command (codes "foo" ∷ []) (false ∷ []) Any) ≡ ServeImport 7
asked_at_target = refl

not_asked_at_target : decided 1 at_target (command (codes "foo" ∷ []) (false ∷ []) No) ≡ Moved 12182 2
not_asked_at_target = refl

asked_for_another : decided 1 (Comes 2 9 0 None) (command (codes "foo" ∷ []) (false ∷ []) (Of 7)) ≡ Moved 12182 2
asked_for_another = refl

-- two keys have to be at the target, both; one that is named twice is one key
some_at_target : decided 1 at_target (command (codes "{foo}1" ∷ codes "{foo}2" ∷ []) (true ∷ false ∷ []) (Of 7))
    ≡ TryAgain SomeAreMissing
some_at_target = refl

twice_at_target : decided 1 at_target (command (codes "foo" ∷ codes "foo" ∷ []) (false ∷ false ∷ []) (Of 7)) ≡ ServeImport 7
twice_at_target = refl

-- an import is served after ASKING though the table has no owner of the slot
asked_without_owner : in_slot 12182 None (state_of None (Some at_target) 1) (command (codes "foo" ∷ []) (false ∷ []) Any) ≡ ServeImport 7
asked_without_owner = refl

-- a slot without a move is its owner's, and down where it has none
owner_serves : in_slot 12182 (Some 2) (state_of (Some 2) None 2) (command (codes "foo" ∷ []) (false ∷ []) No) ≡ Serve
owner_serves = refl

others_name_it : in_slot 12182 (Some 2) (state_of (Some 2) None 1) (command (codes "foo" ∷ []) (false ∷ []) Any) ≡ Moved 12182 2
others_name_it = refl

is_down : in_slot 12182 None (state_of None None 1) (command (codes "foo" ∷ []) (false ∷ []) No) ≡ Down
is_down = refl

-- two keys are frozen at the source: a command that names one of them is refused, and another one goes on
abbrev two_frozen : Move
two_frozen = Leaves 1 3 1 (Some (codes "{a}2" ∷ codes "{a}1" ∷ []))

one_of_two_frozen : decided 2 two_frozen (command (codes "{a}1" ∷ []) (true ∷ []) No) ≡ TryAgain Frozen
one_of_two_frozen = refl

second_named_frozen : decided 2 two_frozen (command (codes "{a}3" ∷ codes "{a}2" ∷ []) (true ∷ true ∷ []) No) ≡ TryAgain Frozen
second_named_frozen = refl

beside_two_frozen : decided 2 two_frozen (command (codes "{a}9" ∷ []) (false ∷ []) No) ≡ Ask 12182 1 3
beside_two_frozen = refl
