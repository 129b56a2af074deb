-- The verdicts on an order whose move began or ended, or whose copy was made.
use Rattle.std.proofs.Common.{◌≡◌, ◌≢◌, ◌+◌, ◌-◌, ◌^◌, ◌==◌, ◌||◌, ℕ, nat_eq, Bool, true, false, cond, List, [], ◌∷◌, length, Option, Some, None, Contains, refl, sym, ap, ◌∙◌, inl, inr, arith}
use Rattle.std.proofs.lemmas.Bool.{and_from, eq-eqb}
use Rattle.std.proofs.lemmas.Bool.Decides.{nat_tests}
use Rattle.std.proofs.lemmas.Cmp.{nat_list_eq_equiv}
use Rattle.std.specs.Cmp.Lexicographic.{pointwise}
use Rattle.std.specs.List.{list_all}
use Rattle.std.specs.Prelude.{nat_lt}
use Rattle.slot_state.specs.Ending.{node_verdict}
use Rattle.slot_state.specs.Importing.{import_verdict}
use Rattle.slot_state.specs.Migrating.{migrate_verdict}
use Rattle.slot_state.specs.declared.ending.NodeVerdict.TheVariants as ending
use Rattle.slot_state.specs.declared.importing.ImportVerdict.TheVariants as import
use Rattle.slot_state.specs.declared.migrating.MigrateVerdict.TheVariants as migrate
use Rattle.slot_state.specs.declared.order.Standing.{Standing}
use Rattle.slot_state.specs.declared.running.Move.{Move}
use Rattle.slot_state.specs.declared.running.Move.TheVariants.{Leaves, Comes}
use Rattle.migrate.specs.Sending.{are_just, by_frozen, by_keys, copy_verdict, is_among}
use Rattle.migrate.specs.declared.sending.CopyVerdict.TheVariants as copies
use Rattle.node_step.proofs.Lists.{contains_first, contains_more, contains_nothing, first_or_more}

-- ---- orders that began a move

pub import_again : (at : Standing) (move : Option Move) (last newest : ℕ) (other asked : Option ℕ) (from number : ℕ) → import_verdict at move last other asked ≡ import.Begins from number
    → import_verdict at (Some (Comes from number 0 None)) newest other asked ≡ import.Already
import_again at move last newest other asked from number is = grind (arith, nat_tests)

pub migration_again : (at : Standing) (move : Option Move) (last newest : ℕ) (other asked : Option ℕ) (to number : ℕ) → migrate_verdict at move last other asked ≡ migrate.Begins to number
    → migrate_verdict at (Some (Leaves to number 0 None)) newest other asked ≡ migrate.Already
migration_again at move last newest other asked to number is = grind (arith, nat_tests)

-- ---- orders that ended one

-- without a move nothing ends
pub none_ends : (at : Standing) (other asked : Option ℕ) (epoch : ℕ) → node_verdict at None other asked ≢ ending.Ends epoch
none_ends at None asked epoch is = cc
none_ends at (Some node) asked epoch is = absurd (grind (arith, nat_tests))

-- an import that ended left the slot to its node
pub ending_again : (at after : Standing) (move : Option Move) (other asked : Option ℕ) (epoch : ℕ) → node_verdict at move other asked ≡ ending.Ends epoch
    → after.node ≡ at.node → after.owner ≡ Some at.node → node_verdict after None other asked ≡ ending.IsOwner
ending_again at after move other asked epoch is same owned = grind (arith, nat_tests)

-- ---- orders by which a copy was made

bytes_themselves : (key : List ℕ) → pointwise nat_eq key key ≡ true
bytes_themselves key = nat_list_eq_equiv.refl key

-- keys are just themselves
among_themselves : (keys others : List (List ℕ)) → ((key : List ℕ) → Contains others key → Contains keys key) → list_all (is_among keys) others ≡ true
among_themselves keys [] all = refl
among_themselves keys (key ∷ others) all =
    and_from (is_among keys key) (list_all (is_among keys) others) (found keys key (all key (contains_first key others)))
    (among_themselves keys others (λ q among. all q (contains_more key q others among)))
  where
    either_way : (b : Bool) {other : Bool} → other ≡ true → (b || other) ≡ true
    either_way true is = refl
    either_way false is = is

    found : (keys : List (List ℕ)) (key : List ℕ) → Contains keys key → is_among keys key ≡ true
    found [] key among = absurd (contains_nothing key among)
    found (other ∷ keys) key among =
        elim (first_or_more other key keys among) [
          | inl same ↦ ap (λ (b : Bool). b || is_among keys key) (ap (λ (k : List ℕ). pointwise nat_eq k key) same ∙ bytes_themselves key)
          | inr more ↦ either_way (pointwise nat_eq other key) (found keys key more)
        ]

just_themselves : (keys : List (List ℕ)) → are_just keys keys ≡ true
just_themselves keys = and_from (length keys == length keys) (list_all (is_among keys) keys) (eq-eqb (length keys) (length keys) refl) (among_themselves keys keys (λ key among. among))

pub copy_again : (move : Option Move) (target : Option ℕ) (keys : List (List ℕ)) (to number copy : ℕ) → copy_verdict move target keys ≡ copies.Copies to number copy
    → copy_verdict (Some (Leaves to number copy (Some keys))) target keys ≡ copies.SendAgain to number copy
copy_again None target keys to number copy is = absurd (cc)
copy_again (Some move) None keys to number copy is = absurd (cc)
copy_again (Some (Comes from other last drained)) (Some target) keys to number copy is = absurd (cc)
copy_again (Some (Leaves node other made frozen)) (Some target) keys to number copy is = by_target_is (node == target) refl is
  where
    by_keys_is : (keys : List (List ℕ)) → by_keys node other made frozen keys ≡ copies.Copies to number copy → node ≡ to × by_keys to number copy (Some keys) keys ≡ copies.SendAgain to number copy
    by_keys_is [] same = absurd (cc)
    by_keys_is (key ∷ keys) same = (by_frozen_is frozen same, ap (λ (b : Bool). cond b (copies.SendAgain to number copy) copies.CopyOutstanding) (just_themselves (key ∷ keys)))
      where
        by_frozen_is : (held : Option (List (List ℕ))) → by_frozen node other made held (key ∷ keys) ≡ copies.Copies to number copy → node ≡ to
        by_frozen_is None same = by_room (nat_lt made (2 ^ 64 - 1)) same
          where
            by_room : (b : Bool) → cond b (copies.Copies node other (made + 1)) copies.Exhausted ≡ copies.Copies to number copy → node ≡ to
            by_room true same = cc
            by_room false same = absurd (cc)
        by_frozen_is (Some others) same = by_just (are_just others (key ∷ keys)) same
          where
            by_just : (b : Bool) → cond b (copies.SendAgain node other made) copies.CopyOutstanding ≡ copies.Copies to number copy → node ≡ to
            by_just true same = absurd (cc)
            by_just false same = absurd (cc)

    by_target_is : (b : Bool) → (node == target) ≡ b → cond b (by_keys node other made frozen keys) copies.WrongTarget ≡ copies.Copies to number copy
        → cond (to == target) (by_keys to number copy (Some keys) keys) copies.WrongTarget ≡ copies.SendAgain to number copy
    by_target_is false test same = absurd (cc)
    by_target_is true test same =
        let facts = by_keys_is keys same in
        ap (λ (b : Bool). cond b (by_keys to number copy (Some keys) keys) copies.WrongTarget) (ap (λ (n : ℕ). n == target) (sym facts.0) ∙ test) ∙ facts.1
