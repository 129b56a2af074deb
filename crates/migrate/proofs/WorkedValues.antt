-- Worked values: a slot leaves to node 1 in move 3, and some of its keys are copied (Redis command reference, "MIGRATE").
use Rattle.std.proofs.Common.{◌≡◌, ℕ, List, [], ◌∷◌, Option, refl}
use Rattle.std.specs.Prelude.{Some, None, codes}
use Rattle.slot_state.specs.declared.running.Move.{Move}
use Rattle.slot_state.specs.declared.running.Move.TheVariants.{Leaves}
use Rattle.migrate.specs.Acknowledging.{acknowledged_keys}
use Rattle.migrate.specs.Sending.{copy_verdict}
use Rattle.migrate.specs.declared.sending.CopyVerdict.{CopyVerdict}
use Rattle.migrate.specs.declared.sending.CopyVerdict.TheVariants.{WrongTarget, NoKey, CopyOutstanding, SendAgain, Copies}

abbrev begun : Move
begun = Leaves 1 3 0 None

abbrev two : List (List ℕ)
two = codes "{a}2" ∷ codes "{a}1" ∷ []

abbrev outstanding : Move
outstanding = Leaves 1 3 1 (Some two)

abbrev ordered : Move → Option ℕ → List (List ℕ) → CopyVerdict
ordered move target keys = copy_verdict (Some move) target keys

copies_two : ordered begun (Some 1) two ≡ Copies 1 3 1
copies_two = refl

-- the target is judged before the keys, and these before the outstanding copy
elsewhere : ordered begun (Some 0) [] ≡ WrongTarget
elsewhere = refl

none_there : ordered outstanding (Some 1) [] ≡ NoKey
none_there = refl

-- just these keys, in any order, are sent again; fewer or others are not
again : ordered outstanding (Some 1) two ≡ SendAgain 1 3 1
again = refl

again_in_another_order : ordered outstanding (Some 1) (codes "{a}1" ∷ codes "{a}2" ∷ []) ≡ SendAgain 1 3 1
again_in_another_order = refl

one_of_them : ordered outstanding (Some 1) (codes "{a}1" ∷ []) ≡ CopyOutstanding
one_of_them = refl

another : ordered outstanding (Some 1) (codes "{a}1" ∷ codes "{a}3" ∷ []) ≡ CopyOutstanding
another = refl

acknowledged : acknowledged_keys (Some outstanding) 1 3 1 ≡ Some two
acknowledged = refl
