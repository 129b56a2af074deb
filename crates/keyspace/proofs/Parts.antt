-- Why a command whose keys are in one part of a keyspace executes there as in the whole.
use Rattle.std.proofs.Common.{◌≡◌, ℕ, List, Bool, true, false, not, cond, refl, sym, ap, ◌∙◌, All, true≢false}
use Rattle.std.proofs.lemmas.List.Elements.{All-weaker}
use Rattle.std.proofs.lemmas.Map.Lookups.{exact_bytes}
use Rattle.std.specs.FinMap as map
use Rattle.std.specs.Prelude.{None, Contains}
use Rattle.command_table.specs.Keys.{data_keys}
use Rattle.command_table.specs.declared.command.DataCommand.{DataCommand}
use Rattle.keyspace.proofs.Applied.{same}
use Rattle.keyspace.proofs.Locality as locality
use Rattle.keyspace.specs.Commands.{exec}
use Rattle.keyspace.specs.Keyspace.{Keyspace}
use Rattle.keyspace.specs.Locality.{Agree}
use Rattle.keyspace.specs.Parts.{part, rest, CommandsExecuteInAPart, PartsMakeTheKeyspace}

-- the value at a key in a part
pub get_part : (takes : List ℕ → Bool) (m : Keyspace) (q : List ℕ) → map.get (part takes m) q ≡ cond (takes q) (map.get m q) None
get_part takes m q = map.get-retain_keys m takes q (λ x e. ap takes (sym (exact_bytes q x e)))

-- a key that is taken
pub get_taken : (takes : List ℕ → Bool) (m : Keyspace) (q : List ℕ) → takes q ≡ true → map.get (part takes m) q ≡ map.get m q
get_taken takes m q taken = get_part takes m q ∙ ap (λ b. cond b (map.get m q) None) taken

-- one that is left to the rest
pub get_left : (takes : List ℕ → Bool) (m : Keyspace) (q : List ℕ) → takes q ≡ false → map.get (part takes m) q ≡ None
get_left takes m q left = get_part takes m q ∙ ap (λ b. cond b (map.get m q) None) left

-- the part of a part is the part
pub part_again : (takes : List ℕ → Bool) (m : Keyspace) → part takes (part takes m) ≡ part takes m
part_again takes m = same _ _ (λ q.
    get_part takes (part takes m) q ∙ ap (λ v. cond (takes q) v None) (get_part takes m q)
    ∙ elim (takes q) as (λ b. cond b (cond b (map.get m q) None) None ≡ cond b (map.get m q) None) [ true ↦ refl | false ↦ refl ]
    ∙ sym (get_part takes m q))

pub parts_make_the_keyspace : PartsMakeTheKeyspace
parts_make_the_keyspace takes m n inside outside = same m n (λ q.
    elim (takes q) as (λ b. takes q ≡ b → map.get m q ≡ map.get n q) [
      | true ↦ λ taken. sym (get_taken takes m q taken) ∙ ap (λ k. map.get k q) inside ∙ get_taken takes n q taken
      | false ↦ λ left. sym (get_taken (λ key. not (takes key)) m q (ap not left)) ∙ ap (λ k. map.get k q) outside ∙ get_taken (λ key. not (takes key)) n q (ap not left)
    ] refl)

module _ (takes : List ℕ → Bool) (command : DataCommand) (taken : All (λ key. takes key ≡ true) (data_keys command)) (m : Keyspace) where
  -- the part has at the command's keys what the whole has
  agrees : Agree (part takes m) m (data_keys command)
  agrees = All-weaker (λ q. takes q ≡ true) (λ q. map.get (part takes m) q ≡ map.get m q) (λ q t. get_taken takes m q t) (data_keys command) taken

  -- a key that is left is none of the command's
  none_of_them : (q : List ℕ) → takes q ≡ false → ¬ Contains (data_keys command) q
  none_of_them q left among = absurd (true≢false (sym (ap takes (sym among.2) ∙ taken among.0 q among.1) ∙ left))

  inside : (q : List ℕ) → map.get (exec (part takes m) command).after q ≡ map.get (part takes (exec m command).after) q
  inside q = elim (takes q) as (λ b. takes q ≡ b → map.get (exec (part takes m) command).after q ≡ map.get (part takes (exec m command).after) q) [
    | true ↦ λ t. locality.after_alike (part takes m) m command q agrees (get_taken takes m q t) ∙ sym (get_taken takes (exec m command).after q t)
    | false ↦ λ left. (locality.commands_are_local command).outside (part takes m) q (none_of_them q left) ∙ get_left takes m q left ∙ sym (get_left takes (exec m command).after q left)
  ] refl

  outside : (q : List ℕ) → map.get (rest takes (exec m command).after) q ≡ map.get (rest takes m) q
  outside q = elim (takes q) as (λ b. takes q ≡ b → map.get (rest takes (exec m command).after) q ≡ map.get (rest takes m) q) [
    | true ↦ λ t. get_left (λ key. not (takes key)) (exec m command).after q (ap not t) ∙ sym (get_left (λ key. not (takes key)) m q (ap not t))
    | false ↦ λ left. get_part (λ key. not (takes key)) (exec m command).after q
        ∙ ap (λ v. cond (not (takes q)) v None) ((locality.commands_are_local command).outside m q (none_of_them q left))
        ∙ sym (get_part (λ key. not (takes key)) m q)
  ] refl

pub commands_execute_in_a_part : CommandsExecuteInAPart
commands_execute_in_a_part takes command taken m = record {
  reply = (locality.commands_are_local command).reply (part takes m) m (agrees takes command taken m);
  inside = same _ _ (inside takes command taken m);
  outside = same _ _ (outside takes command taken m);
}
