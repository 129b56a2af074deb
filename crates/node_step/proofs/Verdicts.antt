-- Verdicts and decisions, read backwards.
use Rattle.std.proofs.Common.{◌≡◌, ◌≢◌, ◌≤◌, ◌<◌, ◌+◌, ◌==◌, ◌⊎◌, nat_eq, ℕ, List, [], ◌∷◌, Bool, true, false, cond, Option, Some, None, Contains, refl, sym, ap, ◌∙◌, inl, inr, arith}
use Rattle.std.proofs.lemmas.Bool.{and_parts, both_ways, eqb-true}
use Rattle.std.proofs.lemmas.Bool.Decides.{nat_tests}
use Rattle.std.proofs.lemmas.Cmp.{nat_list_eq_equiv}
use Rattle.std.specs.Cmp.Lexicographic.{pointwise}
use Rattle.slot_state.specs.declared.running.Move.{Move}
use Rattle.slot_state.specs.declared.running.Move.TheVariants.{Leaves, Comes}
use Rattle.slot_state.specs.declared.order.Standing.{Standing}
use Rattle.slot_state.specs.Importing.{import_verdict}
use Rattle.slot_state.specs.Migrating.{migrate_verdict}
use Rattle.slot_state.specs.Ending.{node_verdict}
use Rattle.slot_state.specs.State.{state_of}
use Rattle.slot_state.specs.declared.importing.ImportVerdict.TheVariants as import
use Rattle.slot_state.specs.declared.migrating.MigrateVerdict.TheVariants as migrate
use Rattle.slot_state.specs.declared.ending.NodeVerdict.TheVariants as ending
use Rattle.migrate.specs.Sending.{are_just, copy_verdict}
use Rattle.migrate.specs.Arriving.{arrival_verdict}
use Rattle.migrate.specs.Acknowledging.{acknowledged_keys}
use Rattle.migrate.specs.declared.sending.CopyVerdict.{CopyVerdict}
use Rattle.migrate.specs.declared.sending.CopyVerdict.TheVariants as copies
use Rattle.migrate.specs.declared.arriving.ArrivalVerdict.TheVariants.{Installs, Repeats}
use Rattle.redirect.specs.Asked.{Asked, are_several, is_frozen, all_there, none_there}
use Rattle.redirect.specs.Decision.{in_slot}
use Rattle.redirect.specs.declared.decision.Decision.TheVariants.{Serve, ServeImport, Ask}
use Rattle.node_step.proofs.Lists.{contains_first}

-- ---- words

pub same_bytes : (one other : List ℕ) → pointwise nat_eq one other ≡ true → one ≡ other
same_bytes [] [] same = refl
same_bytes [] (b ∷ other) same = absurd (both_ways false refl same)
same_bytes (a ∷ one) [] same = absurd (both_ways false refl same)
same_bytes (a ∷ one) (b ∷ other) same =
    let parts = and_parts (nat_eq a b) (pointwise nat_eq one other) same in
    ap (λ c. c ∷ one) (eqb-true a b parts.0) ∙ ap (λ rest. b ∷ rest) (same_bytes one other parts.1)

pub bytes_themselves : (key : List ℕ) → pointwise nat_eq key key ≡ true
bytes_themselves key = nat_list_eq_equiv.refl key

-- ---- orders

pub import_begins : (at : Standing) (move : Option Move) (last : ℕ) (other asked : Option ℕ) (from number : ℕ) → import_verdict at move last other asked ≡ import.Begins from number
    → (move ≡ None) × (at.owner ≡ Some from) × (from ≢ at.node) × (last < number)
import_begins at move last other asked from number is = grind (arith, nat_tests)

pub migration_begins : (at : Standing) (move : Option Move) (last : ℕ) (other asked : Option ℕ) (to number : ℕ) → migrate_verdict at move last other asked ≡ migrate.Begins to number
    → (move ≡ None) × (at.owner ≡ Some at.node) × (to ≢ at.node) × (last < number)
migration_begins at move last other asked to number is = grind (arith, nat_tests)

-- none begins where the node hands its slots over
pub import_runs : (at : Standing) (move : Option Move) (last : ℕ) (other asked : Option ℕ) (from number : ℕ) → import_verdict at move last other asked ≡ import.Begins from number → at.is_paused ≡ false
import_runs at move last other asked from number is = grind (arith, nat_tests)

pub migration_runs : (at : Standing) (move : Option Move) (last : ℕ) (other asked : Option ℕ) (to number : ℕ) → migrate_verdict at move last other asked ≡ migrate.Begins to number → at.is_paused ≡ false
migration_runs at move last other asked to number is = grind (arith, nat_tests)

-- nor at a replica
pub replicas_import_nothing : (at : Standing) (move : Option Move) (last : ℕ) (other asked : Option ℕ) (from number : ℕ) → at.is_replica ≡ true → import_verdict at move last other asked ≡ import.Begins from number → ⊥
replicas_import_nothing at move last other asked from number replica is = grind (arith, nat_tests)

pub replicas_migrate_nothing : (at : Standing) (move : Option Move) (last : ℕ) (other asked : Option ℕ) (to number : ℕ) → at.is_replica ≡ true → migrate_verdict at move last other asked ≡ migrate.Begins to number → ⊥
replicas_migrate_nothing at move last other asked to number replica is = grind (arith, nat_tests)

pub import_ends : (at : Standing) (move : Option Move) (other asked : Option ℕ) (epoch : ℕ) → node_verdict at move other asked ≡ ending.Ends epoch
    → (from : ℕ) × (number : ℕ) × (copied : ℕ) × (move ≡ Some (Comes from number copied (Some epoch)))
import_ends at None None asked epoch is = cc
import_ends at (Some move) None asked epoch is = cc
import_ends at None (Some node) asked epoch is = absurd (grind (arith, nat_tests))
import_ends at (Some (Leaves to number copies frozen)) (Some node) asked epoch is = absurd (grind (arith, nat_tests))
import_ends at (Some (Comes from number copied None)) (Some node) asked epoch is = absurd (grind (arith, nat_tests))
import_ends at (Some (Comes from number copied (Some drained))) (Some node) asked epoch is =
    let same : drained ≡ epoch = grind (arith, nat_tests) in
    (from, number, copied, ap (λ e. Some (Comes from number copied (Some e))) same)

-- ---- copies

pub copy_is_next : (move : Option Move) (target : Option ℕ) (keys : List (List ℕ)) (to number copy : ℕ) → copy_verdict move target keys ≡ copies.Copies to number copy
    → (made : ℕ) × (move ≡ Some (Leaves to number made None)) × (copy ≡ made + 1) × ((first : List ℕ) × Contains keys first)
copy_is_next None target keys to number copy is = cc
copy_is_next (Some move) None keys to number copy is = cc
copy_is_next (Some (Comes from other last drained)) (Some target) keys to number copy is = cc
copy_is_next (Some (Leaves node other made frozen)) (Some target) [] to number copy is = absurd (grind (arith, nat_tests))
copy_is_next (Some (Leaves node other made (Some frozen))) (Some target) (key ∷ keys) to number copy is = absurd (grind (arith, nat_tests))
copy_is_next (Some (Leaves node other made None)) (Some target) (key ∷ keys) to number copy is =
    let parts : (node ≡ to) × (other ≡ number) × (copy ≡ made + 1) = grind (arith, nat_tests) in
    (made, cc, parts.2, (key, contains_first key keys))

pub copy_is_again : (move : Option Move) (target : Option ℕ) (keys : List (List ℕ)) (to number copy : ℕ) → copy_verdict move target keys ≡ copies.SendAgain to number copy
    → (frozen : List (List ℕ)) × (move ≡ Some (Leaves to number copy (Some frozen))) × (are_just frozen keys ≡ true)
copy_is_again None target keys to number copy is = cc
copy_is_again (Some move) None keys to number copy is = cc
copy_is_again (Some (Comes from other last drained)) (Some target) keys to number copy is = cc
copy_is_again (Some (Leaves node other made frozen)) (Some target) [] to number copy is = absurd (grind (arith, nat_tests))
copy_is_again (Some (Leaves node other made None)) (Some target) (key ∷ keys) to number copy is = absurd (grind (arith, nat_tests))
copy_is_again (Some (Leaves node other made (Some frozen))) (Some target) (key ∷ keys) to number copy is =
    let parts : (node ≡ to) × (other ≡ number) × (made ≡ copy) × (are_just frozen (key ∷ keys) ≡ true) = by_tests (node == target) (are_just frozen (key ∷ keys)) refl is in
    (frozen, cc, parts.3)
  where
    by_tests : (right just : Bool) → are_just frozen (key ∷ keys) ≡ just → cond right (cond just (copies.SendAgain node other made) copies.CopyOutstanding) copies.WrongTarget ≡ copies.SendAgain to number copy
        → (node ≡ to) × (other ≡ number) × (made ≡ copy) × (are_just frozen (key ∷ keys) ≡ true)
    by_tests false just test same = absurd (cc)
    by_tests true false test same = absurd (cc)
    by_tests true true test same = (cc, cc, cc, test)

-- an order that is obeyed is of keys in one slot
pub ordered_in_slot : (crosses : Bool) (verdict other : CopyVerdict) → cond crosses copies.CrossSlot verdict ≡ other → other ≢ copies.CrossSlot → (crosses ≡ false) × (verdict ≡ other)
ordered_in_slot true verdict other is apart = absurd (apart (sym is))
ordered_in_slot false verdict other is apart = (refl, is)

pub copy_arrives : (move : Option Move) (from number copy : ℕ) (fits : Bool) → arrival_verdict move from number copy fits ≡ Installs
    → (copied : ℕ) × (drained : Option ℕ) × (move ≡ Some (Comes from number copied drained)) × (copy ≡ copied + 1)
copy_arrives None from number copy fits is = cc
copy_arrives (Some (Leaves to other copies frozen)) from number copy fits is = cc
copy_arrives (Some (Comes source other copied drained)) from number copy fits is =
    let parts : (source ≡ from) × (other ≡ number) × (copy ≡ copied + 1) = grind (arith, nat_tests) in
    (copied, drained, cc, parts.2)

pub copy_repeats : (move : Option Move) (from number copy : ℕ) (fits : Bool) → arrival_verdict move from number copy fits ≡ Repeats
    → (copied : ℕ) × (drained : Option ℕ) × (move ≡ Some (Comes from number copied drained)) × (copy ≤ copied)
copy_repeats None from number copy fits is = cc
copy_repeats (Some (Leaves to other copies frozen)) from number copy fits is = cc
copy_repeats (Some (Comes source other copied drained)) from number copy fits is =
    let parts : (source ≡ from) × (other ≡ number) × (copy ≤ copied) = grind (arith, nat_tests) in
    (copied, drained, cc, parts.2)

pub ack_counts : (move : Option Move) (from number copy : ℕ) (keys : List (List ℕ)) → acknowledged_keys move from number copy ≡ Some keys → move ≡ Some (Leaves from number copy (Some keys))
ack_counts None from number copy keys is = cc
ack_counts (Some (Comes source other copied drained)) from number copy keys is = cc
ack_counts (Some (Leaves to other copies None)) from number copy keys is = absurd (grind (arith, nat_tests))
ack_counts (Some (Leaves to other copies (Some frozen))) from number copy keys is =
    let parts : (to ≡ from) × (other ≡ number) × (copies ≡ copy) = grind (arith, nat_tests) in
    let same : Some frozen ≡ Some keys = grind (arith, nat_tests) in
    cc

-- ---- commands

pub serves : (slot : ℕ) (owner : Option ℕ) (move : Option Move) (node : ℕ) (asked : Asked) → in_slot slot owner (state_of owner move node) asked ≡ Serve
    → ((move ≡ None) × (owner ≡ Some node) × (asked.paused ≡ false))
    ⊎ ((to : ℕ) × (number : ℕ) × (copies : ℕ) × (frozen : Option (List (List ℕ))) × (move ≡ Some (Leaves to number copies frozen)) × (is_frozen frozen asked.keys ≡ false) × (all_there asked ≡ true))
serves slot None None node asked is = cc
serves slot (Some owner) None node asked is = inl (refl, grind (arith, nat_tests), grind (arith, nat_tests))
serves slot None (Some (Leaves to number copies frozen)) node asked is = cc
serves slot (Some owner) (Some (Leaves to number copies frozen)) node asked is = inr (to, number, copies, frozen, refl, grind arith, grind arith)
serves slot None (Some (Comes from number copied drained)) node asked is = absurd (grind arith)
serves slot (Some owner) (Some (Comes from number copied drained)) node asked is = absurd (grind arith)

pub serves_import : (slot : ℕ) (owner : Option ℕ) (move : Option Move) (node : ℕ) (asked : Asked) (number : ℕ) → in_slot slot owner (state_of owner move node) asked ≡ ServeImport number
    → (from : ℕ) × (copied : ℕ) × (drained : Option ℕ) × (move ≡ Some (Comes from number copied drained)) × ((are_several asked.keys ≡ false) ⊎ (all_there asked ≡ true))
serves_import slot None None node asked number is = cc
serves_import slot (Some owner) None node asked number is = absurd (grind (arith, nat_tests))
serves_import slot None (Some (Leaves to other copies frozen)) node asked number is = cc
serves_import slot (Some owner) (Some (Leaves to other copies frozen)) node asked number is = absurd (grind arith)
serves_import slot None (Some (Comes from other copied drained)) node asked number is =
    let same : other ≡ number = grind arith in
    (from, copied, drained, ap (λ k. Some (Comes from k copied drained)) same, grind arith)
serves_import slot (Some owner) (Some (Comes from other copied drained)) node asked number is =
    let same : other ≡ number = grind arith in
    (from, copied, drained, ap (λ k. Some (Comes from k copied drained)) same, grind arith)

pub asks : (slot : ℕ) (owner : Option ℕ) (move : Option Move) (node : ℕ) (asked : Asked) (other to number : ℕ) → in_slot slot owner (state_of owner move node) asked ≡ Ask other to number
    → (copies : ℕ) × (frozen : Option (List (List ℕ))) × (move ≡ Some (Leaves to number copies frozen)) × (none_there asked ≡ true) × (other ≡ slot)
asks slot None None node asked other to number is = cc
asks slot (Some owner) None node asked other to number is = absurd (grind (arith, nat_tests))
asks slot None (Some (Leaves target k copies frozen)) node asked other to number is = cc
asks slot (Some owner) (Some (Leaves target k copies frozen)) node asked other to number is =
    let parts : (target ≡ to) × (k ≡ number) × (slot ≡ other) = grind arith in
    (copies, frozen, cc, grind arith, sym parts.2)
asks slot None (Some (Comes from k copied drained)) node asked other to number is = absurd (grind arith)
asks slot (Some owner) (Some (Comes from k copied drained)) node asked other to number is = absurd (grind arith)
