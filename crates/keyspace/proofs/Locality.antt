-- Why a command reads and changes its own keys alone: its effect is a function of the values there.
use Rattle.std.proofs.Common.{◌≡◌, ℕ, List, [], ◌∷◌, true, false, cond, refl, sym, ap, subst, ◌∙◌, arith}
use Rattle.std.proofs.lemmas.List.Elements.{All-head, All-tail, All-weaker, Contains-append_right, Contains-get_or}
use Rattle.std.specs.FinMap as map
use Rattle.std.specs.Prelude.{Option, Contains}
use Rattle.command_table.specs.Keys.{data_keys}
use Rattle.command_table.specs.declared.command.DataCommand.{DataCommand}
use Rattle.keyspace.proofs.Applied.{is_key, is_key-same, get_changed}
use Rattle.keyspace.specs.Commands.{exec, effect, effect_in, values_at, with_values}
use Rattle.keyspace.specs.Keyspace.{Keyspace, changed}
use Rattle.keyspace.specs.Locality.{Agree, CommandsAreLocal}
use Rattle.keyspace.specs.declared.value.Value.{Value}

-- keyspaces that agree at keys have the same values there
values_agree : (m n : Keyspace) (keys : List (List ℕ)) → Agree m n keys → values_at m keys ≡ values_at n keys
values_agree m n [] agree = refl
values_agree m n (key ∷ keys) agree =
    ap (λ value. value ∷ values_at m keys) (All-head (λ q. map.get m q ≡ map.get n q) key keys agree)
    ∙ ap (λ values. map.get n key ∷ values) (values_agree m n keys (All-tail (λ q. map.get m q ≡ map.get n q) key keys agree))

-- keyspaces that agree at a key do so after values are left at any keys
left_alike : (m n : Keyspace) (keys : List (List ℕ)) (values : List (Option Value)) (q : List ℕ) → map.get m q ≡ map.get n q → map.get (with_values m keys values) q ≡ map.get (with_values n keys values) q
left_alike m n keys [] q same = same
left_alike m n [] (value ∷ values) q same = same
left_alike m n (key ∷ keys) (value ∷ values) q same =
    left_alike (changed m key value) (changed n key value) keys values q
    (get_changed m key value q ∙ ap (cond (is_key q key) value) same ∙ sym (get_changed n key value q))

-- a key at which no value is left stays as it was
left_outside : (m : Keyspace) (keys : List (List ℕ)) (values : List (Option Value)) (q : List ℕ) → ¬ Contains keys q → map.get (with_values m keys values) q ≡ map.get m q
left_outside m keys [] q other = refl
left_outside m [] (value ∷ values) q other = refl
left_outside m (key ∷ keys) (value ∷ values) q other =
    left_outside (changed m key value) keys values q (λ among. other (Contains-append_right (key ∷ []) keys q among))
    ∙ get_changed m key value q
    ∙ elim (is_key q key) as (λ b. is_key q key ≡ b → cond b value (map.get m q) ≡ map.get m q) [
      | true ↦ λ same. absurd (other (subst (Contains (key ∷ keys)) (sym (is_key-same q key same)) (Contains-get_or (key ∷ keys) 0 key (omega arith))))
      | false ↦ λ apart. refl
    ] refl

-- where keyspaces agree at the command's keys, and at another key, they agree there after it
pub after_alike : (m n : Keyspace) (command : DataCommand) (q : List ℕ) → Agree m n (data_keys command) → map.get m q ≡ map.get n q → map.get (exec m command).after q ≡ map.get (exec n command).after q
after_alike m n command q agree same =
    left_alike m n (data_keys command) (effect_in m command).leaves q same
    ∙ ap (λ values. map.get (with_values n (data_keys command) (effect command values).leaves) q) (values_agree m n (data_keys command) agree)

pub commands_are_local : CommandsAreLocal
commands_are_local command = record {
  reply = λ m n agree. ap (λ values. (effect command values).reply) (values_agree m n (data_keys command) agree);
  inside = λ m n agree.
      All-weaker (λ q. map.get m q ≡ map.get n q) (λ q. map.get (exec m command).after q ≡ map.get (exec n command).after q) (λ q same.
      after_alike m n command q agree same)
      (data_keys command) agree;
  outside = λ m q other. left_outside m (data_keys command) (effect_in m command).leaves q other;
}
