-- A worked run of three nodes and more: node 0 has a slot and takes a key, and the slot moves to node 1.
use Rattle.std.proofs.Common.{◌≡◌, ◌≢◌, ◌==◌, ℕ, Bool, cond, List, [], ◌∷◌, Option, Some, None, Contains, codes, refl, sym, ap, subst, ◌∙◌, inl, inr, arith}
use Rattle.std.proofs.lemmas.Bool.{cases_Bool, eq-eqb, ne_eqb}
use Rattle.std.proofs.lemmas.List.Elements.{Contains-get_or, Contains-push_cases}
use Rattle.slot_table.specs.declared.entry.SlotEntry.{SlotEntry}
use Rattle.one_slot.specs.View.{View, Views}
use Rattle.one_slot.specs.Sent.{Sent, Drained, Copy, Ack, Claimed, Told, IsSent}
use Rattle.one_slot.specs.Events.{Changes, Keeps, Starts, IsServed, served, import_begun, migration_begun, copy_ordered, copy_installed, copy_acknowledged, drained_noted, import_ended}
use Rattle.one_slot.proofs.KeyLemmas.{is_key, is_key-same}
use Rattle.one_slot.proofs.Beginnings.{starts-holds, import_begins-keeps, migration_begins-keeps}
use Rattle.one_slot.proofs.Commands.{owner_serves-keeps, coming_serves-keeps}
use Rattle.one_slot.proofs.Copies.{copy_ordered-keeps, copy_installed-keeps, copy_acknowledged-keeps}
use Rattle.one_slot.proofs.Endings.{drained_noted-keeps, import_ends-keeps, claim_taken-keeps}
use Rattle.one_slot.proofs.Sendings.{copy-is_sent, drained-is_sent, claim-is_sent, ack-is_sent, told-is_sent}

-- the views with another one at a node
abbrev place : Views ℕ → ℕ → View ℕ → Views ℕ
place views node view other = cond (other == node) view (views other)

placed : (views : Views ℕ) (node : ℕ) (view : View ℕ) → Changes views (place views node view) node view
placed views node view = record {
  here = ap (λ (b : Bool). cond b view (views node)) (eq-eqb node node refl);
  there = λ other apart. ap (λ (b : Bool). cond b view (views other)) (ne_eqb other node apart);
}

abbrev foo : List ℕ
foo = codes "foo"

abbrev nothing : List ℕ → Option ℕ
nothing key = None

-- a value at the key foo alone
abbrev at_foo : ℕ → List ℕ → Option ℕ
at_foo value key = cond (is_key key foo) (Some value) None

at_foo-other : (value : ℕ) (key : List ℕ) → key ≢ foo → at_foo value key ≡ None
at_foo-other value key other =
    elim (cases_Bool (is_key key foo)) [
      | inl same ↦ absurd (other (is_key-same key foo same))
      | inr differ ↦ ap (λ (b : Bool). cond b (Some value) None) differ
    ]

foo_among : (key : List ℕ) → key ≡ foo → Contains (foo ∷ []) key
foo_among key same = subst (Contains (foo ∷ [])) (sym same) (Contains-get_or (foo ∷ []) 0 foo (omega arith))

one_element : {A : Type 0} (x y : A) → Contains (x ∷ []) y → x ≡ y
one_element x y among = elim (Contains-push_cases [] x y among) [ inl none ↦ absurd (omega (arith, none.1)) | inr same ↦ same ]

at_foo-only : (value : ℕ) (key : List ℕ) → Contains (foo ∷ []) key → at_foo value key ≡ Some value
at_foo-only value key among = subst (λ (k : List ℕ). at_foo value k ≡ Some value) (one_element foo key among) refl

at_foo-pair : (key : List ℕ) (x : ℕ) → Contains {X = List ℕ × ℕ} ((foo, 7) ∷ []) (key, x) → at_foo 7 key ≡ Some x
at_foo-pair key x among = subst (λ (p : List ℕ × ℕ). at_foo 7 p.0 ≡ Some p.1) (one_element {A = List ℕ × ℕ} (foo, 7) (key, x) among) refl

foo_pair : (key : List ℕ) → Contains (foo ∷ []) key → Contains {X = List ℕ × ℕ} ((foo, 7) ∷ []) (key, 7)
foo_pair key among = subst (λ (k : List ℕ). Contains {X = List ℕ × ℕ} ((foo, 7) ∷ []) (k, 7)) (one_element foo key among) (0, omega arith, refl)

-- SET foo, where no other key is
sets_foo : (old : List ℕ → Option ℕ) (value : ℕ) → ((key : List ℕ) → key ≢ foo → old key ≡ None) → IsServed old (at_foo value) old (at_foo value) (foo ∷ [])
sets_foo old value none =
    let rest : (key : List ℕ) → ¬ Contains (foo ∷ []) key → at_foo value key ≡ old key = λ key other.
    let apart : key ≢ foo = λ same. other (foo_among key same) in
    at_foo-other value key apart ∙ sym (none key apart) in
    record { rest = rest; rest_one = rest; inside = λ key among. refl }

abbrev entry_0 : SlotEntry
entry_0 = record { epoch = 1; owner = 0 }

abbrev entry_1 : SlotEntry
entry_1 = record { epoch = 2; owner = 1 }

abbrev views_0 : Views ℕ
views_0 node = record { entry = Some entry_0; move = None; last = 0; value = nothing }

starts_0 : Starts entry_0 views_0 nothing
starts_0 = record {
  each = λ node. record { entry = λ entry is. let same : entry ≡ entry_0 = cc in same; move = refl; value = λ key. refl };
  owner = refl;
  nothing = λ key. refl;
}

-- node 0 serves SET foo
abbrev views_1 : Views ℕ
views_1 = place views_0 0 (served (views_0 0) (at_foo 7))

keeps_1 : Keeps entry_0 entry_0 views_0 views_1 (at_foo 7)
keeps_1 = owner_serves-keeps (starts-holds starts_0) 0 (foo ∷ []) (sets_foo nothing 7 (λ key other. refl)) (placed views_0 0 _) (record { owner = refl; idle = refl })

-- it leaves for node 1 under the number 5, and node 1 imports it
abbrev views_2 : Views ℕ
views_2 = place views_1 0 (migration_begun (views_1 0) 1 5)

keeps_2 : Keeps entry_0 entry_0 views_1 views_2 (at_foo 7)
keeps_2 = migration_begins-keeps keeps_1.holds 0 1 5 (record { idle = refl; owner = refl; other = λ same. absurd (omega arith); above = omega arith }) (placed views_1 0 _)

abbrev views_3 : Views ℕ
views_3 = place views_2 1 (import_begun (views_2 1) 0 5)

keeps_3 : Keeps entry_0 entry_0 views_2 views_3 (at_foo 7)
keeps_3 = import_begins-keeps keeps_2.holds 1 0 5 (record { idle = refl; owner = refl; other = λ same. absurd (omega arith); above = omega arith }) (placed views_2 1 _)

-- the key is copied: ordered, installed, acknowledged
abbrev views_4 : Views ℕ
views_4 = place views_3 0 (copy_ordered (views_3 0) 1 5 0 (foo ∷ []))

keeps_4 : Keeps entry_0 entry_0 views_3 views_4 (at_foo 7)
keeps_4 =
    copy_ordered-keeps keeps_3.holds 0 1 5 0 (foo ∷ [])
    (record { move = refl; one = foo; among = foo_among foo refl; here = λ key among. (7, at_foo-only 7 key among) }) (placed views_3 0 _)

abbrev the_copy : Sent ℕ
the_copy = Copy 0 1 5 1 ((foo, 7) ∷ [])

copy_4 : IsSent entry_0 views_4 the_copy
copy_4 =
    copy-is_sent keeps_4.holds 0 1 5 1 ((foo, 7) ∷ [])
    (record { move = refl; one = foo; among = foo_among foo refl; here = λ key x among. at_foo-pair key x among; each = λ key among. (7, at_foo-only 7 key among) })

abbrev views_5 : Views ℕ
views_5 = place views_4 1 (copy_installed (views_4 1) 0 5 0 None (at_foo 7))

keeps_5 : Keeps entry_0 entry_0 views_4 views_5 (at_foo 7)
keeps_5 =
    copy_installed-keeps keeps_4.holds 1 0 5 0 None ((foo, 7) ∷ []) (at_foo 7) refl copy_4
    (record { at = λ key among. (7, foo_pair key among, at_foo-only 7 key among); rest = λ key other. at_foo-other 7 key (λ same. other (foo_among key same)) }) (placed views_4 1 _)

ack_5 : IsSent entry_0 views_5 (Ack 1 0 5 1)
ack_5 = ack-is_sent keeps_5.holds 1 0 5 1 1 None ((foo, 7) ∷ []) refl (omega arith) (keeps_5.sent the_copy copy_4)

abbrev views_6 : Views ℕ
views_6 = place views_5 0 (copy_acknowledged (views_5 0) 1 5 1 nothing)

keeps_6 : Keeps entry_0 entry_0 views_5 views_6 (at_foo 7)
keeps_6 =
    copy_acknowledged-keeps keeps_5.holds 0 1 5 1 (foo ∷ []) nothing refl ack_5
    (record { at = λ key among. refl; rest = λ key other. sym (at_foo-other 7 key (λ same. other (foo_among key same))) }) (placed views_5 0 _)

-- node 0 says that it has no key left, and the import ends
drained_6 : IsSent entry_0 views_6 (Drained 0 1 5 1)
drained_6 = drained-is_sent keeps_6.holds 0 1 5 1 (record { leaves = record { copies = 1; frozen = None; is = refl }; owner = 0; entry = refl; empty = λ key. refl })

abbrev views_7 : Views ℕ
views_7 = place views_6 1 (drained_noted (views_6 1) 0 5 1 1)

keeps_7 : Keeps entry_0 entry_0 views_6 views_7 (at_foo 7)
keeps_7 = drained_noted-keeps keeps_6.holds 1 0 5 1 1 None refl drained_6 (placed views_6 1 _)

-- meanwhile node 0 answers ASK to SET foo, and node 1 serves it
told_7 : IsSent entry_0 views_7 (Told 0 1 5 (foo ∷ []))
told_7 = told-is_sent keeps_7.holds 0 1 5 (foo ∷ []) (record { leaves = record { copies = 1; frozen = None; is = refl }; none = λ key among. refl })

abbrev views_8 : Views ℕ
views_8 = place views_7 1 (served (views_7 1) (at_foo 8))

keeps_8 : Keeps entry_0 entry_0 views_7 views_8 (at_foo 8)
keeps_8 =
    coming_serves-keeps keeps_7.holds 1 0 5 (foo ∷ []) (record { from = 0; copied = 1; drained = Some 1; is = refl }) told_7
    (sets_foo (at_foo 7) 8 (at_foo-other 7)) (placed views_7 1 _)

abbrev views_9 : Views ℕ
views_9 = place views_8 1 (import_ended (views_8 1) entry_1)

keeps_9 : Keeps entry_0 entry_1 views_8 views_9 (at_foo 8)
keeps_9 = import_ends-keeps keeps_8.holds 1 0 5 1 1 2 (record { move = refl; above = omega arith }) (placed views_8 1 _)

-- node 0 hears of it, and has neither the slot nor a move
claim_9 : IsSent entry_1 views_9 (Claimed 1 2)
claim_9 = claim-is_sent keeps_9.holds 1 2 refl

abbrev views_10 : Views ℕ
views_10 = place views_9 0 (record { entry = Some entry_1; move = None; last = 5; value = nothing })

keeps_10 : Keeps entry_1 entry_1 views_9 views_10 (at_foo 8)
keeps_10 =
    claim_taken-keeps keeps_9.holds 0 entry_1 _ claim_9
    (record {
      other = λ same. absurd (omega arith);
      above = refl;
      entry = refl;
      last = refl;
      lost = λ named to number leaving. refl;
      deleted = λ named key. refl;
      move = λ foreign. absurd (foreign refl);
      value = λ foreign. absurd (foreign refl);
    })
    (placed views_9 0 _)

-- a late copy of the move is still true, since the move is over at node 1
late_copy : IsSent entry_1 views_10 the_copy
late_copy =
    keeps_10.sent the_copy (keeps_9.sent the_copy (keeps_8.sent the_copy (keeps_7.sent the_copy (keeps_6.sent the_copy (keeps_5.sent the_copy copy_4)))))
