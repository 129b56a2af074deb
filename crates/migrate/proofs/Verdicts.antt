-- What a verdict tells of the move that it was given on.
use Rattle.std.proofs.Common.{◌≡◌, ◌+◌, ◌-◌, ◌^◌, ◌==◌, ℕ, Bool, true, false, cond, List, [], ◌∷◌, Option, refl, ap}
use Rattle.std.specs.Prelude.{Some, None, nat_le, nat_lt}
use Rattle.std.specs.FinMap as map
use Rattle.std.proofs.lemmas.Bool.{eqb-true}
use Rattle.slot_state.specs.Moves.{Moves, move_of}
use Rattle.slot_state.specs.declared.running.Move.{Move}
use Rattle.slot_state.specs.declared.running.Move.TheVariants.{Leaves, Comes}
use Rattle.migrate.specs.Acknowledging.{acknowledged_keys, frozen_keys}
use Rattle.migrate.specs.Arriving.{after_arrival, arrival_verdict, by_number, changed_at, counted, one_more, with_last}
use Rattle.migrate.specs.Sending.{after_copy_order, are_just, by_keys, copy_verdict, frozen, with_frozen}
use Rattle.migrate.specs.declared.arriving.ArrivalVerdict.TheVariants.{Ignored, Installs, Repeats}
use Rattle.migrate.specs.declared.sending.CopyVerdict.{CopyVerdict}
use Rattle.migrate.specs.declared.sending.CopyVerdict.TheVariants.{WrongTarget, CopyOutstanding, Exhausted, SendAgain, Copies}

-- ---- an order to copy keys

module _ (to number copy : ℕ) where
  only_where : (test : Bool) (verdict other : CopyVerdict) → cond test verdict other ≡ Copies to number copy → (other ≡ Copies to number copy → ⊥) → verdict ≡ Copies to number copy
  only_where true verdict other is apart = is
  only_where false verdict other is apart = absurd (apart is)

  of_next : (keys : List (List ℕ)) (target own copies : ℕ) (outstanding : Option (List (List ℕ))) → by_keys target own copies outstanding keys ≡ Copies to number copy
      → Leaves target own copy (Some keys) ≡ Leaves to number copy (Some keys)
  of_next [] target own copies outstanding is = absurd (cc)
  of_next (key ∷ keys) target own copies None is = next (nat_lt copies (2 ^ 64 - 1)) is
    where
      next : (test : Bool) → cond test (Copies target own (copies + 1)) Exhausted ≡ Copies to number copy → Leaves target own copy (Some (key ∷ keys)) ≡ Leaves to number copy (Some (key ∷ keys))
      next true same = cc
      next false same = absurd (cc)
  of_next (key ∷ keys) target own copies (Some others) is = beside (are_just others (key ∷ keys)) is
    where
      beside : (test : Bool) → cond test (SendAgain target own copies) CopyOutstanding ≡ Copies to number copy → Leaves target own copy (Some (key ∷ keys)) ≡ Leaves to number copy (Some (key ∷ keys))
      beside true same = absurd (cc)
      beside false same = absurd (cc)

  by_move : (moves : Moves) (slot : ℕ) (target : Option ℕ) (keys : List (List ℕ)) (move : Option Move) → copy_verdict move target keys ≡ Copies to number copy
      → changed_at moves slot (with_frozen copy keys) move ≡ after_copy_order moves slot keys (Copies to number copy)
  by_move moves slot target keys None is = absurd (cc)
  by_move moves slot None keys (Some move) is = absurd (cc)
  by_move moves slot (Some target) keys (Some (Comes from own last drained)) is = absurd (cc)
  by_move moves slot (Some target) keys (Some (Leaves node own copies outstanding)) is =
      ap (λ (move : Move). record moves { running = map.insert moves.running slot move })
      (of_next keys node own copies outstanding (only_where (node == target) _ WrongTarget is (λ same. cc)))

-- what is copied is frozen
pub copies_freeze : (moves : Moves) (slot : ℕ) (target : Option ℕ) (keys : List (List ℕ)) (to number copy : ℕ) → copy_verdict (move_of moves slot) target keys ≡ Copies to number copy
    → frozen moves slot copy keys ≡ after_copy_order moves slot keys (Copies to number copy)
copies_freeze moves slot target keys to number copy is = by_move to number copy moves slot target keys (move_of moves slot) is

-- ---- a copy that arrives

next_is : (last copy : ℕ) → by_number last copy ≡ Installs → copy ≡ last + 1
next_is last copy is = by_tests (copy == last + 1) (nat_le copy last) refl is
  where
    by_tests : (next old : Bool) → (copy == last + 1) ≡ next → cond next Installs (cond old Repeats Ignored) ≡ Installs → copy ≡ last + 1
    by_tests true old test same = eqb-true copy (last + 1) test
    by_tests false true test same = absurd (cc)
    by_tests false false test same = absurd (cc)

installs_next : (from number copy : ℕ) (fits : Bool) (move : Move) → arrival_verdict (Some move) from number copy fits ≡ Installs → with_last copy move ≡ one_more move
installs_next from number copy fits (Leaves to own copies outstanding) is = absurd (cc)
installs_next from number copy fits (Comes source own last drained) is = by_test _ is
  where
    by_test : (test : Bool) → cond test (by_number last copy) Ignored ≡ Installs → with_last copy (Comes source own last drained) ≡ one_more (Comes source own last drained)
    by_test true same = ap (λ n. Comes source own n drained) (next_is last copy same)
    by_test false same = absurd (cc)

-- what is installed is counted
pub installs_count : (moves : Moves) (slot from number copy : ℕ) (fits : Bool) → arrival_verdict (move_of moves slot) from number copy fits ≡ Installs → counted moves slot copy ≡ after_arrival moves slot Installs
installs_count moves slot from number copy fits is = by_move_there (move_of moves slot) is
  where
    by_move_there : (move : Option Move) → arrival_verdict move from number copy fits ≡ Installs → changed_at moves slot (with_last copy) move ≡ changed_at moves slot one_more move
    by_move_there None same = absurd (cc)
    by_move_there (Some move) same = ap (λ (next : Move). record moves { running = map.insert moves.running slot next }) (installs_next from number copy fits move same)

-- ---- an acknowledgement

-- the keys that are acknowledged are the frozen ones
pub acknowledged_is_frozen : (move : Option Move) (from number copy : ℕ) (keys : List (List ℕ)) → acknowledged_keys move from number copy ≡ Some keys → frozen_keys move ≡ Some keys
acknowledged_is_frozen None from number copy keys is = absurd (cc)
acknowledged_is_frozen (Some (Comes source own last drained)) from number copy keys is = absurd (cc)
acknowledged_is_frozen (Some (Leaves to own copies outstanding)) from number copy keys is = by_test _ is
  where
    by_test : (test : Bool) → cond test outstanding None ≡ Some keys → outstanding ≡ Some keys
    by_test true same = same
    by_test false same = absurd (cc)
