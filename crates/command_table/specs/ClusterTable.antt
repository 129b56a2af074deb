-- Which words are a command about the cluster (Redis command reference, "CLUSTER KEYSLOT", "CLUSTER MYID", "CLUSTER SLOTS",
-- "CLUSTER COUNTKEYSINSLOT", "CLUSTER GETKEYSINSLOT", "CLUSTER SETSLOT", "CLUSTER FAILOVER", "ASKING", "MIGRATE"). Numbers of moves, SLOTSTATE and
-- NUMBERED are this project's own. Of several faults the first row tells which.
use Rattle.std.specs.Prelude.{◌==◌, ◌&&◌, List, [], ◌∷◌, length, ℕ, ℤ, zero, nat_le, Bool, Option, Some, None, option_and_then, Result, Ok, Err, codes, if◌then◌else◌}
use Rattle.std.specs.Str.{str_eq_ignore_ascii_case}
use Rattle.command_table.specs.Names.{subcommand_of}
use Rattle.command_table.specs.Numbers.{count_of, from_to, natural, number_of, positive_of}
use Rattle.command_table.specs.declared.names.Name.TheVariants as name
use Rattle.command_table.specs.declared.names.Subcommand.{Subcommand}
use Rattle.command_table.specs.declared.names.Subcommand.TheVariants as subcommand
use Rattle.command_table.specs.declared.command.Command.{Command}
use Rattle.command_table.specs.declared.command.Command.TheVariants.{Cluster}
use Rattle.command_table.specs.declared.command.ClusterCommand.{ClusterCommand}
use Rattle.command_table.specs.declared.command.ClusterCommand.TheVariants.{KeySlot, MyId, Slots, CountKeysInSlot, GetKeysInSlot, SlotState, SetSlot, Numbered, Failover, Asking, Migrate}
use Rattle.command_table.specs.declared.command.SlotOrder.{SlotOrder}
use Rattle.command_table.specs.declared.command.SlotOrder.TheVariants.{Importing, Migrating, Node}
use Rattle.command_table.specs.declared.fault.CommandFault.{CommandFault}
use Rattle.command_table.specs.declared.fault.CommandFault.TheVariants.{UnknownSubcommand, Arity, Syntax, InvalidSlot, NotAnInteger}

-- the slot whose number the word is
abbrev pub slot_of : List ℕ → Option ℕ
slot_of word = option_and_then (from_to 0 16383) (count_of word)

-- a command on a slot
abbrev pub on_slot : (ℕ → ClusterCommand) → Option ℕ → Result Command CommandFault
on_slot make None = Err InvalidSlot
on_slot make (Some slot) = Ok (Cluster (make slot))

-- the first keys of a slot, as many as are asked for
abbrev pub keys_in_slot : Option ℕ → Option ℕ → Result Command CommandFault
keys_in_slot None count = Err InvalidSlot
keys_in_slot (Some slot) None = Err NotAnInteger
keys_in_slot (Some slot) (Some count) = Ok (Cluster (GetKeysInSlot slot count))

-- the order that a word spells, in letters of any case
abbrev pub order_of : List ℕ → Option SlotOrder
order_of word =
    if str_eq_ignore_ascii_case word (codes "importing") then Some Importing
    else if str_eq_ignore_ascii_case word (codes "migrating") then Some Migrating
    else if str_eq_ignore_ascii_case word (codes "node") then Some Node
    else None

-- the number of a move
abbrev pub number_or_fault : Option ℕ → Result (Option ℕ) CommandFault
number_or_fault None = Err NotAnInteger
number_or_fault (Some number) = Ok (Some number)

-- it may be left out
abbrev pub move_number : Option (List ℕ) → Result (Option ℕ) CommandFault
move_number None = Ok None
move_number (Some word) = number_or_fault (positive_of word)

-- SETSLOT on a slot, with an order, a node, and the number of the move
abbrev pub ordered : Option ℕ → Option SlotOrder → List ℕ → Result (Option ℕ) CommandFault → Result Command CommandFault
ordered None order node number = Err InvalidSlot
ordered (Some slot) None node number = Err Syntax
ordered (Some slot) (Some order) node (Err fault) = Err fault
ordered (Some slot) (Some order) node (Ok number) = Ok (Cluster (SetSlot slot order node number))

abbrev pub set_slot : List ℕ → List ℕ → List ℕ → Option (List ℕ) → Result Command CommandFault
set_slot slot order node number = ordered (slot_of slot) (order_of order) node (move_number number)

-- a row a subcommand: the arguments that it takes
abbrev pub with_subcommand : Option Subcommand → List (List ℕ) → Result Command CommandFault
with_subcommand None _ = Err UnknownSubcommand
with_subcommand (Some subcommand.KeySlot) (key ∷ []) = Ok (Cluster (KeySlot key))
with_subcommand (Some subcommand.MyId) [] = Ok (Cluster MyId)
with_subcommand (Some subcommand.Slots) [] = Ok (Cluster Slots)
with_subcommand (Some subcommand.CountKeysInSlot) (slot ∷ []) = on_slot CountKeysInSlot (slot_of slot)
with_subcommand (Some subcommand.GetKeysInSlot) (slot ∷ count ∷ []) = keys_in_slot (slot_of slot) (count_of count)
with_subcommand (Some subcommand.SlotState) (slot ∷ []) = on_slot SlotState (slot_of slot)
with_subcommand (Some subcommand.SetSlot) (slot ∷ order ∷ node ∷ []) = set_slot slot order node None
with_subcommand (Some subcommand.SetSlot) (slot ∷ order ∷ node ∷ number ∷ []) = set_slot slot order node (Some number)
with_subcommand (Some subcommand.Numbered) [] = Ok (Cluster Numbered)
with_subcommand (Some subcommand.Failover) [] = Ok (Cluster Failover)
with_subcommand (Some _) _ = Err (Arity name.Cluster)

-- CLUSTER has subcommands
abbrev pub with_subcommands : List (List ℕ) → Result Command CommandFault
with_subcommands (word ∷ arguments) = with_subcommand (subcommand_of word) arguments
with_subcommands [] = Err (Arity name.Cluster)

-- ASKING for one move, or for any
abbrev pub asking : Result (Option ℕ) CommandFault → Result Command CommandFault
asking (Err fault) = Err fault
asking (Ok number) = Ok (Cluster (Asking number))

-- ASKING takes the number of a move, or nothing
abbrev pub with_import : List (List ℕ) → Result Command CommandFault
with_import [] = asking (move_number None)
with_import (word ∷ []) = asking (move_number (Some word))
with_import _ = Err (Arity name.Asking)

-- the ticks that MIGRATE waits
abbrev pub timeout_of : ℤ → Option ℕ
timeout_of number = option_and_then (from_to 1 1000000) (natural number)

-- to the only database that there is, number 0, and with a timeout
abbrev pub with_timeout : (ℕ → ClusterCommand) → Option ℕ → Option ℕ → Result Command CommandFault
with_timeout make (Some zero) (Some timeout) = Ok (Cluster (make timeout))
with_timeout make _ _ = Err Syntax

-- MIGRATE to a host and port, of keys, to a database, with a timeout
abbrev pub migration : List ℕ → Option ℤ → List (List ℕ) → Option ℤ → Option ℤ → Result Command CommandFault
migration host (Some port) keys (Some database) (Some timeout) = with_timeout (Migrate host port keys) (natural database) (timeout_of timeout)
migration host _ keys _ _ = Err NotAnInteger

-- the word KEYS, in letters of any case, and some keys, but not too many, where an empty word stands in the place of the key
abbrev pub are_keys : List ℕ → List ℕ → List (List ℕ) → Bool
are_keys place word keys =
    length place == 0 && str_eq_ignore_ascii_case word (codes "keys") && nat_le 1 (length keys) && nat_le (length keys) 16

-- MIGRATE takes these five, or behind them KEYS with keys
abbrev pub with_migration : List (List ℕ) → Result Command CommandFault
with_migration (host ∷ port ∷ key ∷ database ∷ timeout ∷ []) = migration host (number_of port) (key ∷ []) (number_of database) (number_of timeout)
with_migration (host ∷ port ∷ place ∷ database ∷ timeout ∷ word ∷ keys) =
    if are_keys place word keys then migration host (number_of port) keys (number_of database) (number_of timeout) else Err Syntax
with_migration _ = Err (Arity name.Migrate)
