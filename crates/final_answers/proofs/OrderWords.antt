-- The number of a move that the words of a request name is one that a redirection can name.
use Rattle.std.proofs.Common.{◌≡◌, ℕ, Bool, true, false, cond, List, [], ◌∷◌, Option, None, Some, refl, zero, suc}
use Rattle.std.specs.Prelude.{Result, Ok, Err, ℤ, ⊤}
use Rattle.command_table.specs.ClusterTable.{are_keys, asking, keys_in_slot, migration, move_number, number_or_fault, on_slot, order_of, ordered, slot_of, timeout_of, with_import, with_migration, with_subcommand, with_subcommands, with_timeout}
use Rattle.command_table.specs.Names.{name_of, subcommand_of}
use Rattle.command_table.specs.Numbers.{count_of, natural, number_of, positive_of}
use Rattle.command_table.specs.Table.{command_of, named_command}
use Rattle.command_table.specs.declared.command.ClusterCommand.TheVariants as cluster
use Rattle.command_table.specs.declared.command.Command.{Command}
use Rattle.command_table.specs.declared.command.Command.TheVariants.{Data, Cluster}
use Rattle.command_table.specs.declared.command.SlotOrder.{SlotOrder}
use Rattle.command_table.specs.declared.fault.CommandFault.{CommandFault}
use Rattle.command_table.specs.declared.fault.CommandFault.TheVariants.{Syntax}
use Rattle.command_table.specs.declared.names.Name.{Name}
use Rattle.command_table.specs.declared.names.Name.TheVariants as name
use Rattle.command_table.specs.declared.names.Subcommand.{Subcommand}
use Rattle.command_table.specs.declared.names.Subcommand.TheVariants as subcommand
use Rattle.redirection.proofs.Parts.{positive_is_written}
use Rattle.redirection.specs.Redirection.{IsMove}
use Rattle.reply_meaning.proofs.Words.{IsOfData, data_words}
use Rattle.reply_meaning.proofs.Words.IsOfData.{command as of_data, fault as of_fault}
use Rattle.smart_client.specs.Words.{is_of_cluster}

-- what the words ask for has such a number, if it has one
abbrev pub AsksWithin : Result Command CommandFault → Type 0
AsksWithin (Ok (Cluster (cluster.SetSlot slot order id number))) = IsMove number
AsksWithin _ = ⊤

abbrev IsRead : Result (Option ℕ) CommandFault → Type 0
IsRead (Ok number) = IsMove number
IsRead (Err fault) = ⊤

number_is_read : (word : Option (List ℕ)) → IsRead (move_number word)
number_is_read None = tt
number_is_read (Some word) = by_number (positive_of word) refl
  where
    by_number : (number : Option ℕ) → positive_of word ≡ number → IsRead (number_or_fault number)
    by_number None is = tt
    by_number (Some number) is = let read = positive_is_written word number is in (read.1, read.2)

ordered_within : (slot : Option ℕ) (order : Option SlotOrder) (id : List ℕ) (number : Result (Option ℕ) CommandFault) → IsRead number → AsksWithin (ordered slot order id number)
ordered_within None order id number is = tt
ordered_within (Some slot) None id number is = tt
ordered_within (Some slot) (Some order) id (Err fault) is = tt
ordered_within (Some slot) (Some order) id (Ok number) is = is

count_within : (slot : Option ℕ) → AsksWithin (on_slot cluster.CountKeysInSlot slot)
count_within None = tt
count_within (Some slot) = tt

state_within : (slot : Option ℕ) → AsksWithin (on_slot cluster.SlotState slot)
state_within None = tt
state_within (Some slot) = tt

keys_within : (slot count : Option ℕ) → AsksWithin (keys_in_slot slot count)
keys_within None count = tt
keys_within (Some slot) None = tt
keys_within (Some slot) (Some count) = tt

subcommand_within : (which : Option Subcommand) (arguments : List (List ℕ)) → AsksWithin (with_subcommand which arguments)
subcommand_within None arguments = tt
subcommand_within (Some subcommand.KeySlot) [] = tt
subcommand_within (Some subcommand.KeySlot) (key ∷ []) = tt
subcommand_within (Some subcommand.KeySlot) (key ∷ other ∷ rest) = tt
subcommand_within (Some subcommand.MyId) [] = tt
subcommand_within (Some subcommand.MyId) (other ∷ rest) = tt
subcommand_within (Some subcommand.Slots) [] = tt
subcommand_within (Some subcommand.Slots) (other ∷ rest) = tt
subcommand_within (Some subcommand.CountKeysInSlot) [] = tt
subcommand_within (Some subcommand.CountKeysInSlot) (slot ∷ []) = count_within (slot_of slot)
subcommand_within (Some subcommand.CountKeysInSlot) (slot ∷ other ∷ rest) = tt
subcommand_within (Some subcommand.GetKeysInSlot) [] = tt
subcommand_within (Some subcommand.GetKeysInSlot) (slot ∷ []) = tt
subcommand_within (Some subcommand.GetKeysInSlot) (slot ∷ count ∷ []) = keys_within (slot_of slot) (count_of count)
subcommand_within (Some subcommand.GetKeysInSlot) (slot ∷ count ∷ other ∷ rest) = tt
subcommand_within (Some subcommand.SlotState) [] = tt
subcommand_within (Some subcommand.SlotState) (slot ∷ []) = state_within (slot_of slot)
subcommand_within (Some subcommand.SlotState) (slot ∷ other ∷ rest) = tt
subcommand_within (Some subcommand.SetSlot) [] = tt
subcommand_within (Some subcommand.SetSlot) (slot ∷ []) = tt
subcommand_within (Some subcommand.SetSlot) (slot ∷ order ∷ []) = tt
subcommand_within (Some subcommand.SetSlot) (slot ∷ order ∷ id ∷ []) = ordered_within (slot_of slot) (order_of order) id (move_number None) tt
subcommand_within (Some subcommand.SetSlot) (slot ∷ order ∷ id ∷ number ∷ []) =
    ordered_within (slot_of slot) (order_of order) id (move_number (Some number)) (number_is_read (Some number))
subcommand_within (Some subcommand.SetSlot) (slot ∷ order ∷ id ∷ number ∷ other ∷ rest) = tt
subcommand_within (Some subcommand.Numbered) [] = tt
subcommand_within (Some subcommand.Numbered) (other ∷ rest) = tt
subcommand_within (Some subcommand.Failover) [] = tt
subcommand_within (Some subcommand.Failover) (other ∷ rest) = tt

cluster_within : (arguments : List (List ℕ)) → AsksWithin (with_subcommands arguments)
cluster_within [] = tt
cluster_within (word ∷ arguments) = subcommand_within (subcommand_of word) arguments

asking_within : (number : Result (Option ℕ) CommandFault) → AsksWithin (asking number)
asking_within (Err fault) = tt
asking_within (Ok number) = tt

import_within : (arguments : List (List ℕ)) → AsksWithin (with_import arguments)
import_within [] = tt
import_within (word ∷ []) = asking_within (move_number (Some word))
import_within (word ∷ other ∷ rest) = tt

data_within : (words : Result Command CommandFault) → IsOfData words → AsksWithin words
data_within (Ok (Data _)) (of_data which) = tt
data_within (Ok (Cluster _)) is = elim is [ ]
data_within (Err _) (of_fault why refuses) = tt

timeout_within : (host : List ℕ) (keys : List (List ℕ)) (port : ℤ) (database ticks : Option ℕ) → AsksWithin (with_timeout (cluster.Migrate host port keys) database ticks)
timeout_within host keys port None ticks = tt
timeout_within host keys port (Some zero) None = tt
timeout_within host keys port (Some zero) (Some ticks) = tt
timeout_within host keys port (Some (suc database)) ticks = tt

migration_within : (host : List ℕ) (port : Option ℤ) (keys : List (List ℕ)) (database ticks : Option ℤ) → AsksWithin (migration host port keys database ticks)
migration_within host None keys database ticks = tt
migration_within host (Some port) keys None ticks = tt
migration_within host (Some port) keys (Some database) None = tt
migration_within host (Some port) keys (Some database) (Some ticks) = timeout_within host keys port (natural database) (timeout_of ticks)

migrate_within : (arguments : List (List ℕ)) → AsksWithin (with_migration arguments)
migrate_within [] = tt
migrate_within (host ∷ []) = tt
migrate_within (host ∷ port ∷ []) = tt
migrate_within (host ∷ port ∷ key ∷ []) = tt
migrate_within (host ∷ port ∷ key ∷ database ∷ []) = tt
migrate_within (host ∷ port ∷ key ∷ database ∷ ticks ∷ []) = migration_within host (number_of port) (key ∷ []) (number_of database) (number_of ticks)
migrate_within (host ∷ port ∷ place ∷ database ∷ ticks ∷ word ∷ keys) = by_words (are_keys place word keys)
  where
    by_words : (b : Bool) → AsksWithin (cond b (migration host (number_of port) keys (number_of database) (number_of ticks)) (Err Syntax))
    by_words true = migration_within host (number_of port) keys (number_of database) (number_of ticks)
    by_words false = tt

named_within : (which : Option Name) (arguments : List (List ℕ)) → (is_of_cluster which ≡ false → IsOfData (named_command which arguments)) → AsksWithin (named_command which arguments)
named_within None arguments data_is = tt
named_within (Some name.Cluster) arguments data_is = cluster_within arguments
named_within (Some name.Asking) arguments data_is = import_within arguments
named_within (Some name.Migrate) arguments data_is = migrate_within arguments
named_within (Some other) arguments data_is = data_within (named_command (Some other) arguments) (data_is refl)

pub words_within : (words : List (List ℕ)) → AsksWithin (command_of words)
words_within [] = tt
words_within (word ∷ arguments) = named_within (name_of word) arguments (λ plain. data_words (word ∷ arguments) plain)
