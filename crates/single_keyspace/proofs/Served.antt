-- What holds of the slots, and what is replied, as a command is executed.
use Rattle.std.proofs.Common.{◌≡◌, ◌≢◌, ◌⊎◌, ◌==◌, ℕ, List, [], ◌∷◌, map, Bool, true, false, not, Option, Some, None, Contains, refl, sym, ap, subst, ◌∙◌, inl, inr, arith}
use Rattle.std.proofs.lemmas.Bool.{both_ways, cases_Bool, cond-true, cond-false, eqb-true, eq-eqb, not-true, not-false}
use Rattle.std.proofs.lemmas.List.Elements.{All-contains, Contains-get_or}
use Rattle.std.specs.Cmp.Lexicographic.{pointwise}
use Rattle.std.specs.FinMap as fin_map
use Rattle.std.specs.List.{list_any, list_all}
use Rattle.std.specs.Prelude.{is_some, nat_eq, slice_index_or}
use Rattle.command_table.specs.Keys.{data_keys}
use Rattle.command_table.specs.declared.command.DataCommand.{DataCommand}
use Rattle.key_slot.specs.Slot.{hash_slot}
use Rattle.keyspace.specs.Commands.{exec}
use Rattle.keyspace.specs.Keyspace.{Keyspace}
use Rattle.keyspace.specs.Locality.{Agree, IsLocal}
use Rattle.keyspace.specs.declared.value.Value.{Value}
use Rattle.slot_store.specs.InSlot.{is_in_slot}
use Rattle.slot_table.specs.Table.{owner_at}
use Rattle.slot_state.specs.Moves.{move_of}
use Rattle.redirect.specs.Asked.{is_frozen, is_one_of}
use Rattle.redirect.specs.Decision.{has_other_slot, by_keys, decision_at}
use Rattle.redirect.specs.declared.asked.Asking.{Asking}
use Rattle.redirect.specs.declared.decision.Decision.{Decision}
use Rattle.redirect.specs.declared.decision.Decision.TheVariants.{Serve, ServeImport, CrossSlot, Ask}
use Rattle.one_slot.specs.View.{Views}
use Rattle.one_slot.specs.Sent.{IsSent}
use Rattle.one_slot.specs.Slot.{Freezes}
use Rattle.one_slot.specs.Sent.Sent.{Told}
use Rattle.one_slot.specs.Events.{Changes, Keeps, IsServed, OwnerServes, LeavingServes, IsAsked}
use Rattle.node_step.specs.Commands.{asked_of, decision_on, executed}
use Rattle.node_step.specs.State.{NodeState}
use Rattle.world_run.specs.Run.{Entry}
use Rattle.single_keyspace.specs.Slots.{values_in, view_of}
use Rattle.single_keyspace.proofs.Laws.{EventLaws, ViewLaws, ImportServes, events_at, laws_at}
use Rattle.single_keyspace.proofs.Lists.{first_or_more, contains_first, contains_nothing, no_element, each_element, mapped}
use Rattle.single_keyspace.proofs.Seen.{SlotWas, HoldsAfter, holds_but, holds_untouched, same_values, same_view}
use Rattle.single_keyspace.proofs.Values.{no_value, some_value, values_alike, value_here}
use Rattle.single_keyspace.specs.Stands.{BeginsIn}
use Rattle.single_keyspace.proofs.Verdicts.{bytes_themselves, serves, serves_import, asks}

-- ---- keys of one slot

pub one_slot : (key : List ℕ) (others : List (List ℕ)) → has_other_slot (hash_slot key) others ≡ false → (q : List ℕ) → Contains (key ∷ others) q → hash_slot q ≡ hash_slot key
one_slot key others none q among =
    elim (first_or_more key q others among) [
      | inl same ↦ ap hash_slot (sym same)
      | inr more ↦
          eqb-true (hash_slot q) (hash_slot key)
          (not-false (hash_slot q == hash_slot key) (no_element (λ (k : List ℕ). not (hash_slot k == hash_slot key)) others q none more))
    ]

-- ---- what the node has at the keys

module _ (keyspace : Keyspace) (slot : ℕ) (keys : List (List ℕ)) (inside : (key : List ℕ) → Contains keys key → hash_slot key ≡ slot) where
  pub in_it : (key : List ℕ) → Contains keys key → is_in_slot slot key ≡ true
  in_it key among = eq-eqb (hash_slot key) slot (inside key among)

  abbrev tests : List ℕ → Bool
  tests key = is_some (fin_map.get keyspace key)

  pub all_are_there : list_all (λ is. is) (map tests keys) ≡ true → (key : List ℕ) → Contains keys key → (x : Value) × (values_in keyspace slot key ≡ Some x)
  all_are_there all key among =
      let some = some_value (fin_map.get keyspace key) (each_element (λ (is : Bool). is) (map tests keys) (tests key) all (mapped tests keys key among)) in
      (some.0, value_here keyspace slot key (in_it key among) ∙ some.1)

  pub none_is_there : not (list_any (λ is. is) (map tests keys)) ≡ true → (key : List ℕ) → Contains keys key → values_in keyspace slot key ≡ None
  none_is_there none key among =
      value_here keyspace slot key (in_it key among)
      ∙ no_value (fin_map.get keyspace key) (no_element (λ (is : Bool). is) (map tests keys) (tests key) (not-true (list_any (λ (is : Bool). is) (map tests keys)) none) (mapped tests keys key among))

pub not_frozen : (frozen : Option (List (List ℕ))) (keys : List (List ℕ)) → is_frozen frozen keys ≡ false → (key : List ℕ) → Freezes frozen key → ¬ Contains keys key
not_frozen None keys none key freezes = absurd freezes
not_frozen (Some frozen) keys none key freezes = λ among.
    both_ways (pointwise nat_eq key key)
    (no_element (λ (other : List ℕ). pointwise nat_eq other key) frozen key (no_element (λ (named : List ℕ). is_one_of frozen named) keys key none among) freezes)
    (bytes_themselves key)

-- ---- execution

module _ (command : DataCommand) (local : IsLocal command) where
  abbrev keys : List (List ℕ)
  keys = data_keys command

  -- other slots stay
  pub other_slots : (m : Keyspace) (slot other : ℕ) → ((key : List ℕ) → Contains keys key → hash_slot key ≡ slot) → other ≢ slot → (key : List ℕ) → values_in (exec m command).after other key ≡ values_in m other key
  other_slots m slot other inside apart key =
      values_alike (exec m command).after m other key
      (λ here. local.outside m key (λ among. apart (sym (eqb-true (hash_slot key) other here) ∙ inside key among)))

  module _ (m one : Keyspace) (slot : ℕ) (inside : (key : List ℕ) → Contains keys key → hash_slot key ≡ slot)
      (same : (key : List ℕ) → Contains keys key → values_in one slot key ≡ values_in m slot key) where
    agree_at : (key : List ℕ) → Contains keys key → fin_map.get one key ≡ fin_map.get m key
    agree_at key among =
        sym (value_here one slot key (in_it one slot keys inside key among)) ∙ same key among ∙ value_here m slot key (in_it m slot keys inside key among)

    agree : Agree one m keys
    agree k d lt = agree_at (slice_index_or keys k d) (Contains-get_or keys k d lt)

    pub one_reply : (exec m command).reply ≡ (exec one command).reply
    one_reply = sym (local.reply one m agree)

    pub is_served : IsServed (values_in m slot) (values_in (exec m command).after slot) (values_in one slot) (values_in (exec one command).after slot) keys
    is_served = record {
      rest = λ key out. values_alike (exec m command).after m slot key (λ here. local.outside m key out);
      rest_one = λ key out. values_alike (exec one command).after one slot key (λ here. local.outside one key out);
      inside = λ key among.
          values_alike (exec one command).after (exec m command).after slot key
          (λ here. All-contains (λ (q : List ℕ). fin_map.get (exec one command).after q ≡ fin_map.get (exec m command).after q) keys key (local.inside one m agree) among);
    }

-- what holds of all slots, and the reply
pub record CommandHolds {past : List Entry} {n : ℕ} {before : NodeState} {one : Keyspace} (was : (slot : ℕ) → SlotWas past n before one slot) (command : DataCommand) : Type 0 where
  pub reply : (exec before.keyspace command).reply ≡ (exec one command).reply
  pub holds : (slot : ℕ) → HoldsAfter (was slot) (executed before command) (exec one command).after

module _ {past : List Entry} {n : ℕ} {before : NodeState} {one : Keyspace} (was : (slot : ℕ) → SlotWas past n before one slot) (command : DataCommand) (local : IsLocal command) where
  abbrev after : NodeState
  after = executed before command

  -- in one slot
  in_one_slot : (slot : ℕ) → ((key : List ℕ) → Contains (data_keys command) key → hash_slot key ≡ slot)
      → ((key : List ℕ) → Contains (data_keys command) key → values_in one slot key ≡ values_in before.keyspace slot key)
      → ((new : Views Value) → IsServed (values_in before.keyspace slot) (values_in (exec before.keyspace command).after slot) (values_in one slot) (values_in (exec one command).after slot) (data_keys command)
      → Changes (was slot).seen new n (view_of after slot) → Keeps (was slot).top (was slot).top (was slot).seen new (values_in (exec one command).after slot))
      → CommandHolds was command
  in_one_slot slot inside same holds = record {
    reply = one_reply command local before.keyspace one slot inside same;
    holds = holds_but was after (exec one command).after slot
        (λ new changes. record { newest = (was slot).top; holds = holds new (is_served command local before.keyspace one slot inside same) changes })
        (λ other apart. same_view refl refl refl (same_values (other_slots command local before.keyspace slot other inside apart)))
        (λ other apart. other_slots command local one slot other inside apart);
  }

  nothing_among : data_keys command ≡ [] → (key : List ℕ) → Contains (data_keys command) key → ⊥
  nothing_among none key among = contains_nothing key (subst (λ (keys : List (List ℕ)). Contains keys key) none among)

  -- without keys
  pub without_keys : data_keys command ≡ [] → CommandHolds was command
  without_keys none = record {
    reply = one_reply command local before.keyspace one 0 (λ key among. absurd (nothing_among none key among)) (λ key among. absurd (nothing_among none key among));
    holds = λ slot.
        holds_untouched (was slot) after (exec one command).after (same_view refl refl refl (same_values (stays before.keyspace slot))) (stays one slot);
  } where
    stays : (m : Keyspace) (slot : ℕ) (key : List ℕ) → values_in (exec m command).after slot key ≡ values_in m slot key
    stays m slot key = values_alike (exec m command).after m slot key (λ here. local.outside m key (nothing_among none key))

-- ---- the decision

-- the decision was made in that slot, which has all keys
pub record IsDecidedIn (node : NodeState) (command : DataCommand) (asking : Asking) (why : Decision) (slot : ℕ) : Type 0 where
  pub inside : (key : List ℕ) → Contains (data_keys command) key → hash_slot key ≡ slot
  pub first : List ℕ
  pub among : Contains (data_keys command) first
  pub decides : decision_at node.table node.moves node.number slot (asked_of node command asking) ≡ why

-- there is no key, or the keys are in two slots, or in one
pub decided_in : (node : NodeState) (command : DataCommand) (asking : Asking) (why : Decision) → decision_on node command asking ≡ why
    → (data_keys command ≡ []) ⊎ ((why ≡ CrossSlot) ⊎ ((slot : ℕ) × IsDecidedIn node command asking why slot))
decided_in node command asking why is = by_its_keys (data_keys command) refl is
  where
    by_its_keys : (keys : List (List ℕ)) → data_keys command ≡ keys → by_keys node.table node.moves node.number keys (asked_of node command asking) ≡ why
        → (data_keys command ≡ []) ⊎ ((why ≡ CrossSlot) ⊎ ((slot : ℕ) × IsDecidedIn node command asking why slot))
    by_its_keys [] same is = inl same
    by_its_keys (key ∷ others) same is =
        let in_one : Decision = decision_at node.table node.moves node.number (hash_slot key) (asked_of node command asking) in
        elim (cases_Bool (has_other_slot (hash_slot key) others)) [
          | inl two ↦ inr (inl (sym is ∙ cond-true (has_other_slot (hash_slot key) others) CrossSlot in_one two))
          | inr one ↦
              inr (inr (
                hash_slot key,
                record {
                  inside = λ q among. one_slot key others one q (subst (λ (keys : List (List ℕ)). Contains keys q) same among);
                  first = key;
                  among = subst (λ (keys : List (List ℕ)). Contains keys key) (sym same) (contains_first key others);
                  decides = sym (cond-false (has_other_slot (hash_slot key) others) CrossSlot in_one one) ∙ is;
                },
              ))
        ]

begins : (slot : ℕ) (keys : List (List ℕ)) → BeginsIn slot keys → (key : List ℕ) × Contains keys key × (hash_slot key ≡ slot)
begins slot [] first = absurd first
begins slot (key ∷ others) first = (key, contains_first key others, first)

pub begins_in : (slot : ℕ) (keys : List (List ℕ)) (first : List ℕ) → ((key : List ℕ) → Contains keys key → hash_slot key ≡ slot) → Contains keys first → BeginsIn slot keys
begins_in slot [] first inside among = contains_nothing first among
begins_in slot (key ∷ others) first inside among = inside key (contains_first key others)

-- ASK is answered in the slot of the keys, of which none is there
pub asked_there : (node : NodeState) (command : DataCommand) (asking : Asking) (other to number : ℕ) → decision_on node command asking ≡ Ask other to number
    → (slot : ℕ) → BeginsIn slot (data_keys command) → IsAsked (view_of node slot) to number (data_keys command)
asked_there node command asking other to number is slot first =
    let begun = begins slot (data_keys command) first in
    elim (decided_in node command asking (Ask other to number) is) [
      | inl none ↦ absurd (contains_nothing begun.0 (subst (λ (keys : List (List ℕ)). Contains keys begun.0) none begun.1))
      | inr (inl cross) ↦ absurd (grind arith)
      | inr (inr found) ↦
          let asks_so = asks found.0 (owner_at node.table found.0) (move_of node.moves found.0) node.number (asked_of node command asking) other to number found.1.decides in
          let same : found.0 ≡ slot = sym (found.1.inside begun.0 begun.1) ∙ begun.2 in
          subst (λ (s : ℕ). IsAsked (view_of node s) to number (data_keys command)) same
          (record {
            leaves = record { copies = asks_so.0; frozen = asks_so.1; is = asks_so.2 };
            none = none_is_there node.keyspace found.0 (data_keys command) found.1.inside asks_so.3;
          })
    ]

module _ {past : List Entry} {n : ℕ} {before : NodeState} {one : Keyspace} (was : (slot : ℕ) → SlotWas past n before one slot) (command : DataCommand) (local : IsLocal command)
    (at : before.number ≡ n) (asking : Asking) where
  events : (slot : ℕ) (new : Views Value) → EventLaws (was slot).top (was slot).seen new (values_in one slot) n (view_of before slot)
  events slot new = events_at (was slot).top (was slot).seen new (values_in one slot) n (view_of before slot) (was slot).holds (was slot).here

  laws : (slot : ℕ) → ViewLaws (was slot).top (was slot).seen (values_in one slot) n (view_of before slot)
  laws slot = laws_at (was slot).top (was slot).seen (values_in one slot) n (view_of before slot) (was slot).holds (was slot).here

  pub serve_holds : decision_on before command asking ≡ Serve → CommandHolds was command
  serve_holds is =
      elim (decided_in before command asking Serve is) [
        | inl none ↦ without_keys was command local none
        | inr (inl cross) ↦ absurd (grind arith)
        | inr (inr found) ↦
            let slot : ℕ = found.0 in
            let inside = found.1.inside in
            elim (serves slot (owner_at before.table slot) (move_of before.moves slot) before.number (asked_of before command asking) found.1.decides) [
              | inl owns ↦
                  let serving : OwnerServes n (view_of before slot) = record { owner = owns.1 ∙ ap Some at; idle = owns.0 } in
                  in_one_slot was command local slot inside
                  ((laws slot).owner_has (data_keys command) serving)
                  (λ new is changes. (events slot new).owner_serves (data_keys command) (values_in (exec before.keyspace command).after slot) (values_in (exec one command).after slot) serving is changes)
              | inr leaves ↦
                  let serving : LeavingServes (view_of before slot) (data_keys command) = record {
                    first = found.1.first;
                    among = found.1.among;
                    to = leaves.0;
                    number = leaves.1;
                    copies = leaves.2;
                    frozen = leaves.3;
                    move = leaves.4;
                    free = record {
                      here = all_are_there before.keyspace slot (data_keys command) inside leaves.6;
                      thawed = not_frozen leaves.3 (data_keys command) leaves.5;
                    };
                  } in
                  in_one_slot was command local slot inside
                  ((laws slot).leaving_has (data_keys command) serving)
                  (λ new is changes. (events slot new).leaving_serves (data_keys command) (values_in (exec before.keyspace command).after slot) (values_in (exec one command).after slot) serving is changes)
            ]
      ]

  pub import_holds : (number : ℕ) → decision_on before command asking ≡ ServeImport number
      → ((slot : ℕ) → BeginsIn slot (data_keys command) → (by : ℕ) × IsSent (was slot).top (was slot).seen (Told by n number (data_keys command)))
      → CommandHolds was command
  import_holds number is told =
      elim (decided_in before command asking (ServeImport number) is) [
        | inl none ↦ without_keys was command local none
        | inr (inl cross) ↦ absurd (grind arith)
        | inr (inr found) ↦
            let slot : ℕ = found.0 in
            let inside = found.1.inside in
            let comes = serves_import slot (owner_at before.table slot) (move_of before.moves slot) before.number (asked_of before command asking) number found.1.decides in
            let redirected = told slot (begins_in slot (data_keys command) found.1.first inside found.1.among) in
            let serving : ImportServes (was slot).top (was slot).seen n (view_of before slot) (data_keys command) = record {
              number = number;
              comes = record { from = comes.0; copied = comes.1; drained = comes.2; is = comes.3 };
              by = redirected.0;
              told = redirected.1;
            } in
            in_one_slot was command local slot inside
            ((laws slot).import_has (data_keys command) serving)
            (λ new is changes. (events slot new).import_serves (data_keys command) (values_in (exec before.keyspace command).after slot) (values_in (exec one command).after slot) serving is changes)
      ]
