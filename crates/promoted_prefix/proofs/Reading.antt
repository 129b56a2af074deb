-- What holds of the commands that words are read as, where that holds of their words.
use Rattle.std.proofs.Common.{ℕ, ℤ, Bool, true, false, cond, zero, suc, List, [], ◌∷◌, Option, Some, None}
use Rattle.std.specs.List.{AllByRecursion}
use Rattle.std.specs.Option.{option_map}
use Rattle.std.specs.Prelude.{Result, Ok, Err, ⊤}
use Rattle.command_table.specs.ClusterTable.{are_keys, asking, keys_in_slot, migration, move_number, on_slot, ordered, slot_of, with_import, with_migration, with_subcommand, with_subcommands, with_timeout, order_of, timeout_of}
use Rattle.command_table.specs.Names.{subcommand_of}
use Rattle.command_table.specs.Numbers.{count_of, natural, number_of}
use Rattle.command_table.specs.Pairs.{pairs_of}
use Rattle.command_table.specs.Table.{condition_of, with_condition, with_field_pairs, with_fields, with_keys, with_message, with_one, with_option, with_pairs, with_three, with_two}
use Rattle.command_table.specs.declared.command.ClusterCommand.{ClusterCommand}
use Rattle.command_table.specs.declared.command.Command.{Command}
use Rattle.command_table.specs.declared.command.Command.TheVariants.{Data, Cluster}
use Rattle.command_table.specs.declared.command.Condition.{Condition}
use Rattle.command_table.specs.declared.command.DataCommand.{DataCommand}
use Rattle.command_table.specs.declared.command.DataCommand.TheVariants.{Echo, Hset, Ping, Set}
use Rattle.command_table.specs.declared.command.SlotOrder.{SlotOrder}
use Rattle.command_table.specs.declared.fault.CommandFault.{CommandFault}
use Rattle.command_table.specs.declared.fault.CommandFault.TheVariants.{Syntax}
use Rattle.command_table.specs.declared.names.Name.{Name}
use Rattle.command_table.specs.declared.names.Name.TheVariants as name
use Rattle.command_table.specs.declared.names.Subcommand.{Subcommand}
use Rattle.command_table.specs.declared.names.Subcommand.TheVariants as subcommand

-- the one is asked of each word, and the other is said of commands on keys
module _ (Word : List ℕ → Type 0) (Says : DataCommand → Type 0) where
  abbrev pub Holds : Result Command CommandFault → Type 0
  Holds (Ok (Data which)) = Says which
  Holds (Ok (Cluster command)) = ⊤
  Holds (Err fault) = ⊤

  abbrev pub AreWords : List (List ℕ) → Type 0
  AreWords words = AllByRecursion Word words

  abbrev pub ArePairs : List (List ℕ × List ℕ) → Type 0
  ArePairs pairs = AllByRecursion (λ (pair : List ℕ × List ℕ). Word pair.0 × Word pair.1) pairs

  -- the words come two by two, if none is left over
  abbrev pub AreFound : Option (List (List ℕ × List ℕ)) → Type 0
  AreFound None = ⊤
  AreFound (Some pairs) = ArePairs pairs

  one_more : (first second : List ℕ) (found : Option (List (List ℕ × List ℕ))) → Word first → Word second → AreFound found → AreFound (option_map (λ pairs. (first, second) ∷ pairs) found)
  one_more first second None one other are = tt
  one_more first second (Some pairs) one other are = ((one, other), are)

  pub pairs_are : (words : List (List ℕ)) → AreWords words → AreFound (pairs_of words)
  pairs_are [] are = tt
  pairs_are (word ∷ []) are = tt
  pairs_are (first ∷ second ∷ words) are = one_more first second (pairs_of words) are.0 are.1.0 (pairs_are words are.1.1)

  -- ---- commands on keys

  module _ (n : Name) where
    pub one : (make : List ℕ → DataCommand) → ((x : List ℕ) → Word x → Says (make x)) → (arguments : List (List ℕ)) → AreWords arguments → Holds (with_one n make arguments)
    one make each [] are = tt
    one make each (x ∷ []) are = each x are.0
    one make each (x ∷ y ∷ arguments) are = tt

    pub two : (make : List ℕ → List ℕ → DataCommand) → ((x y : List ℕ) → Word x → Word y → Says (make x y)) → (arguments : List (List ℕ)) → AreWords arguments → Holds (with_two n make arguments)
    two make each [] are = tt
    two make each (x ∷ []) are = tt
    two make each (x ∷ y ∷ []) are = each x y are.0 are.1.0
    two make each (x ∷ y ∷ z ∷ arguments) are = tt

    pub three : (make : List ℕ → List ℕ → List ℕ → DataCommand) → ((x y z : List ℕ) → Word x → Word y → Word z → Says (make x y z)) → (arguments : List (List ℕ)) → AreWords arguments → Holds (with_three n make arguments)
    three make each [] are = tt
    three make each (x ∷ []) are = tt
    three make each (x ∷ y ∷ []) are = tt
    three make each (x ∷ y ∷ z ∷ []) are = each x y z are.0 are.1.0 are.1.1.0
    three make each (x ∷ y ∷ z ∷ w ∷ arguments) are = tt

    pub keys : (make : List (List ℕ) → DataCommand) → ((x : List ℕ) (xs : List (List ℕ)) → AreWords (x ∷ xs) → Says (make (x ∷ xs))) → (arguments : List (List ℕ)) → AreWords arguments → Holds (with_keys n make arguments)
    keys make each [] are = tt
    keys make each (x ∷ xs) are = each x xs are

    pub fields : (make : List ℕ → List (List ℕ) → DataCommand) → ((x : List ℕ) (xs : List (List ℕ)) → AreWords (x ∷ xs) → Says (make x xs)) → (arguments : List (List ℕ)) → AreWords arguments → Holds (with_fields n make arguments)
    fields make each [] are = tt
    fields make each (x ∷ []) are = tt
    fields make each (x ∷ y ∷ xs) are = each x (y ∷ xs) are

    pub pairs : (make : List (List ℕ × List ℕ) → DataCommand) → ((x : List ℕ × List ℕ) (xs : List (List ℕ × List ℕ)) → ArePairs (x ∷ xs) → Says (make (x ∷ xs))) → (found : Option (List (List ℕ × List ℕ))) → AreFound found
        → Holds (with_pairs n make found)
    pairs make each None are = tt
    pairs make each (Some []) are = tt
    pairs make each (Some (x ∷ xs)) are = each x xs are

  pub field_pairs : ((key : List ℕ) (x : List ℕ × List ℕ) (xs : List (List ℕ × List ℕ)) → Word key → ArePairs (x ∷ xs) → Says (Hset key (x ∷ xs))) → (arguments : List (List ℕ)) → AreWords arguments → Holds (with_field_pairs arguments)
  field_pairs each [] are = tt
  field_pairs each (key ∷ words) are = pairs name.Hset (Hset key) (λ x xs of. each key x xs are.0 of) (pairs_of words) (pairs_are words are.1)

  pub condition : (key value : List ℕ) → ((when : Condition) → Says (Set key value when)) → (found : Option Condition) → Holds (with_condition key value found)
  condition key value each None = tt
  condition key value each (Some when) = each when

  pub option : ((key value : List ℕ) (when : Condition) → Word key → Word value → Says (Set key value when)) → (arguments : List (List ℕ)) → AreWords arguments → Holds (with_option arguments)
  option each [] are = tt
  option each (key ∷ []) are = tt
  option each (key ∷ value ∷ []) are = each key value _ are.0 are.1.0
  option each (key ∷ value ∷ word ∷ []) are = condition key value (λ when. each key value when are.0 are.1.0) (condition_of word)
  option each (key ∷ value ∷ first ∷ second ∷ words) are = tt

  pub message : Says Ping → ((said : List ℕ) → Says (Echo said)) → (arguments : List (List ℕ)) → Holds (with_message arguments)
  message ping echo [] = ping
  message ping echo (said ∷ []) = echo said
  message ping echo (said ∷ more ∷ arguments) = tt

  -- ---- commands about the cluster

  on_slot_read : (make : ℕ → ClusterCommand) (slot : Option ℕ) → Holds (on_slot make slot)
  on_slot_read make None = tt
  on_slot_read make (Some slot) = tt

  keys_in_slot_read : (slot count : Option ℕ) → Holds (keys_in_slot slot count)
  keys_in_slot_read None count = tt
  keys_in_slot_read (Some slot) None = tt
  keys_in_slot_read (Some slot) (Some count) = tt

  ordered_read : (slot : Option ℕ) (order : Option SlotOrder) (node : List ℕ) (number : Result (Option ℕ) CommandFault) → Holds (ordered slot order node number)
  ordered_read None order node number = tt
  ordered_read (Some slot) None node number = tt
  ordered_read (Some slot) (Some order) node (Err fault) = tt
  ordered_read (Some slot) (Some order) node (Ok number) = tt

  subcommand_read : (found : Option Subcommand) (arguments : List (List ℕ)) → Holds (with_subcommand found arguments)
  subcommand_read None arguments = tt
  subcommand_read (Some subcommand.KeySlot) [] = tt
  subcommand_read (Some subcommand.KeySlot) (key ∷ []) = tt
  subcommand_read (Some subcommand.KeySlot) (key ∷ more ∷ arguments) = tt
  subcommand_read (Some subcommand.MyId) [] = tt
  subcommand_read (Some subcommand.MyId) (more ∷ arguments) = tt
  subcommand_read (Some subcommand.Slots) [] = tt
  subcommand_read (Some subcommand.Slots) (more ∷ arguments) = tt
  subcommand_read (Some subcommand.CountKeysInSlot) [] = tt
  subcommand_read (Some subcommand.CountKeysInSlot) (slot ∷ []) = on_slot_read _ (slot_of slot)
  subcommand_read (Some subcommand.CountKeysInSlot) (slot ∷ more ∷ arguments) = tt
  subcommand_read (Some subcommand.GetKeysInSlot) [] = tt
  subcommand_read (Some subcommand.GetKeysInSlot) (slot ∷ []) = tt
  subcommand_read (Some subcommand.GetKeysInSlot) (slot ∷ count ∷ []) = keys_in_slot_read (slot_of slot) (count_of count)
  subcommand_read (Some subcommand.GetKeysInSlot) (slot ∷ count ∷ more ∷ arguments) = tt
  subcommand_read (Some subcommand.SlotState) [] = tt
  subcommand_read (Some subcommand.SlotState) (slot ∷ []) = on_slot_read _ (slot_of slot)
  subcommand_read (Some subcommand.SlotState) (slot ∷ more ∷ arguments) = tt
  subcommand_read (Some subcommand.SetSlot) [] = tt
  subcommand_read (Some subcommand.SetSlot) (slot ∷ []) = tt
  subcommand_read (Some subcommand.SetSlot) (slot ∷ order ∷ []) = tt
  subcommand_read (Some subcommand.SetSlot) (slot ∷ order ∷ node ∷ []) = ordered_read (slot_of slot) (order_of order) node (move_number None)
  subcommand_read (Some subcommand.SetSlot) (slot ∷ order ∷ node ∷ number ∷ []) = ordered_read (slot_of slot) (order_of order) node (move_number (Some number))
  subcommand_read (Some subcommand.SetSlot) (slot ∷ order ∷ node ∷ number ∷ more ∷ arguments) = tt
  subcommand_read (Some subcommand.Numbered) [] = tt
  subcommand_read (Some subcommand.Numbered) (more ∷ arguments) = tt
  subcommand_read (Some subcommand.Failover) [] = tt
  subcommand_read (Some subcommand.Failover) (more ∷ arguments) = tt

  pub subcommands : (arguments : List (List ℕ)) → Holds (with_subcommands arguments)
  subcommands [] = tt
  subcommands (word ∷ arguments) = subcommand_read (subcommand_of word) arguments

  asking_read : (number : Result (Option ℕ) CommandFault) → Holds (asking number)
  asking_read (Err fault) = tt
  asking_read (Ok number) = tt

  pub import_read : (arguments : List (List ℕ)) → Holds (with_import arguments)
  import_read [] = tt
  import_read (word ∷ []) = asking_read (move_number (Some word))
  import_read (word ∷ more ∷ arguments) = tt

  timeout_read : (make : ℕ → ClusterCommand) (database timeout : Option ℕ) → Holds (with_timeout make database timeout)
  timeout_read make None timeout = tt
  timeout_read make (Some zero) None = tt
  timeout_read make (Some zero) (Some timeout) = tt
  timeout_read make (Some (suc database)) timeout = tt

  migration_at : (host : List ℕ) (port : Option ℤ) (keys : List (List ℕ)) (database timeout : Option ℤ) → Holds (migration host port keys database timeout)
  migration_at host None keys database timeout = tt
  migration_at host (Some port) keys None timeout = tt
  migration_at host (Some port) keys (Some database) None = tt
  migration_at host (Some port) keys (Some database) (Some timeout) = timeout_read _ (natural database) (timeout_of timeout)

  pub migration_read : (arguments : List (List ℕ)) → Holds (with_migration arguments)
  migration_read [] = tt
  migration_read (a ∷ []) = tt
  migration_read (a ∷ b ∷ []) = tt
  migration_read (a ∷ b ∷ c ∷ []) = tt
  migration_read (a ∷ b ∷ c ∷ d ∷ []) = tt
  migration_read (host ∷ port ∷ key ∷ database ∷ timeout ∷ []) = migration_at host (number_of port) (key ∷ []) (number_of database) (number_of timeout)
  migration_read (host ∷ port ∷ place ∷ database ∷ timeout ∷ word ∷ keys) = by_words (are_keys place word keys)
    where
      by_words : (b : Bool) → Holds (cond b (migration host (number_of port) keys (number_of database) (number_of timeout)) (Err Syntax))
      by_words true = migration_at host (number_of port) keys (number_of database) (number_of timeout)
      by_words false = tt
