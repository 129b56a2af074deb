-- Which words are a command on keys, and why others are none.
use Rattle.std.proofs.Common.{◌≡◌, ℕ, Bool, true, false, cond, List, [], ◌∷◌, Option, Some, None, refl, zero, suc}
use Rattle.std.specs.Prelude.{Result, Ok, Err, ℤ}
use Rattle.command_table.specs.ClusterTable.{are_keys, asking, keys_in_slot, migration, move_number, on_slot, order_of, ordered, slot_of, timeout_of, with_import, with_migration, with_subcommand, with_subcommands, with_timeout}
use Rattle.command_table.specs.ErrorLine.{line_of}
use Rattle.command_table.specs.Names.{name_of, subcommand_of}
use Rattle.command_table.specs.Numbers.{count_of, natural, number_of}
use Rattle.command_table.specs.Pairs.{pairs_of}
use Rattle.command_table.specs.Table.{command_of, condition_of, named_command, with_arguments, with_condition, with_field_pairs, with_fields, with_keys, with_message, with_one, with_option, with_pairs, with_three, with_two}
use Rattle.command_table.specs.declared.command.ClusterCommand.{ClusterCommand}
use Rattle.command_table.specs.declared.command.ClusterCommand.TheVariants as cluster
use Rattle.command_table.specs.declared.command.Command.{Command}
use Rattle.command_table.specs.declared.command.Command.TheVariants.{Data, Cluster}
use Rattle.command_table.specs.declared.command.Condition.{Condition}
use Rattle.command_table.specs.declared.command.DataCommand.{DataCommand}
use Rattle.command_table.specs.declared.command.DataCommand.TheVariants as variant
use Rattle.command_table.specs.declared.command.SlotOrder.{SlotOrder}
use Rattle.command_table.specs.declared.fault.CommandFault.{CommandFault}
use Rattle.command_table.specs.declared.fault.CommandFault.TheVariants.{Unknown, UnknownSubcommand, Arity, Syntax, InvalidSlot, NotAnInteger}
use Rattle.command_table.specs.declared.names.Name.{Name}
use Rattle.command_table.specs.declared.names.Name.TheVariants as name
use Rattle.command_table.specs.declared.names.Subcommand.{Subcommand}
use Rattle.command_table.specs.declared.names.Subcommand.TheVariants as subcommand
use Rattle.smart_client.specs.Words.{is_of_cluster, is_refused}
use Rattle.node_step.specs.Outcome.{error}
use Rattle.reply_meaning.specs.Refusal.{is_refusal}

-- ---- words about data

-- the words are a command on keys, or the error that answers them is a refusal
pub data IsOfData : Result Command CommandFault → Type 0 where
  command : (command : DataCommand) → IsOfData (Ok (Data command))
  fault : (why : CommandFault) → is_refusal (error (line_of why)) ≡ true → IsOfData (Err why)

arity_refuses : (n : Name) → is_refusal (error (line_of (Arity n))) ≡ true
arity_refuses name.Get = refl
arity_refuses name.Set = refl
arity_refuses name.Ping = refl
arity_refuses name.Echo = refl
arity_refuses name.Hget = refl
arity_refuses name.Hset = refl
arity_refuses name.Mget = refl
arity_refuses name.Mset = refl
arity_refuses name.Setnx = refl
arity_refuses name.Getset = refl
arity_refuses name.Getdel = refl
arity_refuses name.Append = refl
arity_refuses name.Incr = refl
arity_refuses name.Decr = refl
arity_refuses name.Incrby = refl
arity_refuses name.Strlen = refl
arity_refuses name.Del = refl
arity_refuses name.Exists = refl
arity_refuses name.TypeOf = refl
arity_refuses name.Hsetnx = refl
arity_refuses name.Hmget = refl
arity_refuses name.Hdel = refl
arity_refuses name.Hexists = refl
arity_refuses name.Hlen = refl
arity_refuses name.Hstrlen = refl
arity_refuses name.Hkeys = refl
arity_refuses name.Hvals = refl
arity_refuses name.Hgetall = refl
arity_refuses name.Hincrby = refl
arity_refuses name.Cluster = refl
arity_refuses name.Asking = refl
arity_refuses name.Migrate = refl

no_arity : (n : Name) → IsOfData (Err (Arity n))
no_arity n = fault (Arity n) (arity_refuses n)

no_syntax : IsOfData (Err Syntax)
no_syntax = fault Syntax refl

one : (n : Name) (make : List ℕ → DataCommand) (arguments : List (List ℕ)) → IsOfData (with_one n make arguments)
one n make [] = no_arity n
one n make (a ∷ []) = command (make a)
one n make (a ∷ b ∷ rest) = no_arity n

two : (n : Name) (make : List ℕ → List ℕ → DataCommand) (arguments : List (List ℕ)) → IsOfData (with_two n make arguments)
two n make [] = no_arity n
two n make (a ∷ []) = no_arity n
two n make (a ∷ b ∷ []) = command (make a b)
two n make (a ∷ b ∷ c ∷ rest) = no_arity n

three : (n : Name) (make : List ℕ → List ℕ → List ℕ → DataCommand) (arguments : List (List ℕ)) → IsOfData (with_three n make arguments)
three n make [] = no_arity n
three n make (a ∷ []) = no_arity n
three n make (a ∷ b ∷ []) = no_arity n
three n make (a ∷ b ∷ c ∷ []) = command (make a b c)
three n make (a ∷ b ∷ c ∷ d ∷ rest) = no_arity n

keys : (n : Name) (make : List (List ℕ) → DataCommand) (arguments : List (List ℕ)) → IsOfData (with_keys n make arguments)
keys n make [] = no_arity n
keys n make (key ∷ others) = command (make (key ∷ others))

fields : (n : Name) (make : List ℕ → List (List ℕ) → DataCommand) (arguments : List (List ℕ)) → IsOfData (with_fields n make arguments)
fields n make [] = no_arity n
fields n make (key ∷ []) = no_arity n
fields n make (key ∷ field ∷ others) = command (make key (field ∷ others))

pairs : (n : Name) (make : List (List ℕ × List ℕ) → DataCommand) (in_pairs : Option (List (List ℕ × List ℕ))) → IsOfData (with_pairs n make in_pairs)
pairs n make None = no_arity n
pairs n make (Some []) = no_arity n
pairs n make (Some (pair ∷ others)) = command (make (pair ∷ others))

field_pairs : (arguments : List (List ℕ)) → IsOfData (with_field_pairs arguments)
field_pairs [] = no_arity name.Hset
field_pairs (key ∷ words) = pairs name.Hset (variant.Hset key) (pairs_of words)

condition : (key value : List ℕ) (if_so : Option Condition) → IsOfData (with_condition key value if_so)
condition key value None = no_syntax
condition key value (Some if_so) = command (variant.Set key value if_so)

option : (arguments : List (List ℕ)) → IsOfData (with_option arguments)
option [] = no_arity name.Set
option (key ∷ []) = no_arity name.Set
option (key ∷ value ∷ []) = command _
option (key ∷ value ∷ word ∷ []) = condition key value (condition_of word)
option (key ∷ value ∷ first ∷ second ∷ words) = no_syntax

message : (arguments : List (List ℕ)) → IsOfData (with_message arguments)
message [] = command variant.Ping
message (a ∷ []) = command (variant.Echo a)
message (a ∷ b ∷ rest) = no_arity name.Ping

about_data : (n : Name) (arguments : List (List ℕ)) → is_of_cluster (Some n) ≡ false → IsOfData (with_arguments n arguments)
about_data name.Get arguments is = one name.Get variant.Get arguments
about_data name.Set arguments is = option arguments
about_data name.Ping arguments is = message arguments
about_data name.Echo arguments is = one name.Echo variant.Echo arguments
about_data name.Hget arguments is = two name.Hget variant.Hget arguments
about_data name.Hset arguments is = field_pairs arguments
about_data name.Mget arguments is = keys name.Mget variant.Mget arguments
about_data name.Mset arguments is = pairs name.Mset variant.Mset (pairs_of arguments)
about_data name.Setnx arguments is = two name.Setnx variant.Setnx arguments
about_data name.Getset arguments is = two name.Getset variant.Getset arguments
about_data name.Getdel arguments is = one name.Getdel variant.Getdel arguments
about_data name.Append arguments is = two name.Append variant.Append arguments
about_data name.Incr arguments is = one name.Incr variant.Incr arguments
about_data name.Decr arguments is = one name.Decr variant.Decr arguments
about_data name.Incrby arguments is = two name.Incrby variant.Incrby arguments
about_data name.Strlen arguments is = one name.Strlen variant.Strlen arguments
about_data name.Del arguments is = keys name.Del variant.Del arguments
about_data name.Exists arguments is = keys name.Exists variant.Exists arguments
about_data name.TypeOf arguments is = one name.TypeOf variant.TypeOf arguments
about_data name.Hsetnx arguments is = three name.Hsetnx variant.Hsetnx arguments
about_data name.Hmget arguments is = fields name.Hmget variant.Hmget arguments
about_data name.Hdel arguments is = fields name.Hdel variant.Hdel arguments
about_data name.Hexists arguments is = two name.Hexists variant.Hexists arguments
about_data name.Hlen arguments is = one name.Hlen variant.Hlen arguments
about_data name.Hstrlen arguments is = two name.Hstrlen variant.Hstrlen arguments
about_data name.Hkeys arguments is = one name.Hkeys variant.Hkeys arguments
about_data name.Hvals arguments is = one name.Hvals variant.Hvals arguments
about_data name.Hgetall arguments is = one name.Hgetall variant.Hgetall arguments
about_data name.Hincrby arguments is = three name.Hincrby variant.Hincrby arguments
about_data name.Cluster arguments is = cc
about_data name.Asking arguments is = cc
about_data name.Migrate arguments is = cc

named_data : (n : Option Name) (arguments : List (List ℕ)) → is_of_cluster n ≡ false → IsOfData (named_command n arguments)
named_data None arguments is = fault Unknown refl
named_data (Some n) arguments is = about_data n arguments is

pub data_words : (words : List (List ℕ)) → is_refused words ≡ false → IsOfData (command_of words)
data_words [] is = fault Unknown refl
data_words (word ∷ arguments) is = named_data (name_of word) arguments is

-- ---- words about the cluster

-- the words are no command on keys
pub data IsOfCluster : Result Command CommandFault → Type 0 where
  order : (command : ClusterCommand) → IsOfCluster (Ok (Cluster command))
  none : (why : CommandFault) → IsOfCluster (Err why)

slot : (make : ℕ → ClusterCommand) (number : Option ℕ) → IsOfCluster (on_slot make number)
slot make None = none InvalidSlot
slot make (Some number) = order (make number)

slot_keys : (number count : Option ℕ) → IsOfCluster (keys_in_slot number count)
slot_keys None count = none InvalidSlot
slot_keys (Some number) None = none NotAnInteger
slot_keys (Some number) (Some count) = order (cluster.GetKeysInSlot number count)

slot_order : (number : Option ℕ) (word : Option SlotOrder) (node : List ℕ) (move : Result (Option ℕ) CommandFault) → IsOfCluster (ordered number word node move)
slot_order None word node move = none InvalidSlot
slot_order (Some number) None node move = none Syntax
slot_order (Some number) (Some word) node (Err why) = none why
slot_order (Some number) (Some word) node (Ok move) = order (cluster.SetSlot number word node move)

no_subcommand : IsOfCluster (Err (Arity name.Cluster))
no_subcommand = none (Arity name.Cluster)

sub : (which : Option Subcommand) (arguments : List (List ℕ)) → IsOfCluster (with_subcommand which arguments)
sub None arguments = none UnknownSubcommand
sub (Some subcommand.KeySlot) [] = no_subcommand
sub (Some subcommand.KeySlot) (a ∷ []) = order (cluster.KeySlot a)
sub (Some subcommand.KeySlot) (a ∷ b ∷ rest) = no_subcommand
sub (Some subcommand.MyId) [] = order cluster.MyId
sub (Some subcommand.MyId) (a ∷ rest) = no_subcommand
sub (Some subcommand.Slots) [] = order cluster.Slots
sub (Some subcommand.Slots) (a ∷ rest) = no_subcommand
sub (Some subcommand.CountKeysInSlot) [] = no_subcommand
sub (Some subcommand.CountKeysInSlot) (a ∷ []) = slot cluster.CountKeysInSlot (slot_of a)
sub (Some subcommand.CountKeysInSlot) (a ∷ b ∷ rest) = no_subcommand
sub (Some subcommand.GetKeysInSlot) [] = no_subcommand
sub (Some subcommand.GetKeysInSlot) (a ∷ []) = no_subcommand
sub (Some subcommand.GetKeysInSlot) (a ∷ b ∷ []) = slot_keys (slot_of a) (count_of b)
sub (Some subcommand.GetKeysInSlot) (a ∷ b ∷ c ∷ rest) = no_subcommand
sub (Some subcommand.SlotState) [] = no_subcommand
sub (Some subcommand.SlotState) (a ∷ []) = slot cluster.SlotState (slot_of a)
sub (Some subcommand.SlotState) (a ∷ b ∷ rest) = no_subcommand
sub (Some subcommand.SetSlot) [] = no_subcommand
sub (Some subcommand.SetSlot) (a ∷ []) = no_subcommand
sub (Some subcommand.SetSlot) (a ∷ b ∷ []) = no_subcommand
sub (Some subcommand.SetSlot) (a ∷ b ∷ c ∷ []) = slot_order (slot_of a) (order_of b) c (move_number None)
sub (Some subcommand.SetSlot) (a ∷ b ∷ c ∷ d ∷ []) = slot_order (slot_of a) (order_of b) c (move_number (Some d))
sub (Some subcommand.SetSlot) (a ∷ b ∷ c ∷ d ∷ e ∷ rest) = no_subcommand
sub (Some subcommand.Numbered) [] = order cluster.Numbered
sub (Some subcommand.Numbered) (a ∷ rest) = no_subcommand
sub (Some subcommand.Failover) [] = order cluster.Failover
sub (Some subcommand.Failover) (a ∷ rest) = no_subcommand

subs : (arguments : List (List ℕ)) → IsOfCluster (with_subcommands arguments)
subs [] = no_subcommand
subs (word ∷ arguments) = sub (subcommand_of word) arguments

asked : (number : Result (Option ℕ) CommandFault) → IsOfCluster (asking number)
asked (Err why) = none why
asked (Ok number) = order (cluster.Asking number)

import : (arguments : List (List ℕ)) → IsOfCluster (with_import arguments)
import [] = asked (move_number None)
import (a ∷ []) = asked (move_number (Some a))
import (a ∷ b ∷ rest) = none (Arity name.Asking)

timeout : (make : ℕ → ClusterCommand) (database ticks : Option ℕ) → IsOfCluster (with_timeout make database ticks)
timeout make None ticks = none Syntax
timeout make (Some zero) None = none Syntax
timeout make (Some zero) (Some ticks) = order (make ticks)
timeout make (Some (suc database)) ticks = none Syntax

migrated : (host : List ℕ) (port : Option ℤ) (keys : List (List ℕ)) (database ticks : Option ℤ) → IsOfCluster (migration host port keys database ticks)
migrated host None keys database ticks = none NotAnInteger
migrated host (Some port) keys None ticks = none NotAnInteger
migrated host (Some port) keys (Some database) None = none NotAnInteger
migrated host (Some port) keys (Some database) (Some ticks) = timeout (cluster.Migrate host port keys) (natural database) (timeout_of ticks)

migrate : (arguments : List (List ℕ)) → IsOfCluster (with_migration arguments)
migrate [] = none (Arity name.Migrate)
migrate (a ∷ []) = none (Arity name.Migrate)
migrate (a ∷ b ∷ []) = none (Arity name.Migrate)
migrate (a ∷ b ∷ c ∷ []) = none (Arity name.Migrate)
migrate (a ∷ b ∷ c ∷ d ∷ []) = none (Arity name.Migrate)
migrate (host ∷ port ∷ key ∷ database ∷ ticks ∷ []) = migrated host (number_of port) (key ∷ []) (number_of database) (number_of ticks)
migrate (host ∷ port ∷ place ∷ database ∷ ticks ∷ word ∷ keys) = by_words (are_keys place word keys)
  where
    by_words : (b : Bool) → IsOfCluster (cond b (migration host (number_of port) keys (number_of database) (number_of ticks)) (Err Syntax))
    by_words true = migrated host (number_of port) keys (number_of database) (number_of ticks)
    by_words false = none Syntax

about_cluster : (n : Name) (arguments : List (List ℕ)) → is_of_cluster (Some n) ≡ true → IsOfCluster (with_arguments n arguments)
about_cluster name.Get arguments is = cc
about_cluster name.Set arguments is = cc
about_cluster name.Ping arguments is = cc
about_cluster name.Echo arguments is = cc
about_cluster name.Hget arguments is = cc
about_cluster name.Hset arguments is = cc
about_cluster name.Mget arguments is = cc
about_cluster name.Mset arguments is = cc
about_cluster name.Setnx arguments is = cc
about_cluster name.Getset arguments is = cc
about_cluster name.Getdel arguments is = cc
about_cluster name.Append arguments is = cc
about_cluster name.Incr arguments is = cc
about_cluster name.Decr arguments is = cc
about_cluster name.Incrby arguments is = cc
about_cluster name.Strlen arguments is = cc
about_cluster name.Del arguments is = cc
about_cluster name.Exists arguments is = cc
about_cluster name.TypeOf arguments is = cc
about_cluster name.Hsetnx arguments is = cc
about_cluster name.Hmget arguments is = cc
about_cluster name.Hdel arguments is = cc
about_cluster name.Hexists arguments is = cc
about_cluster name.Hlen arguments is = cc
about_cluster name.Hstrlen arguments is = cc
about_cluster name.Hkeys arguments is = cc
about_cluster name.Hvals arguments is = cc
about_cluster name.Hgetall arguments is = cc
about_cluster name.Hincrby arguments is = cc
about_cluster name.Cluster arguments is = subs arguments
about_cluster name.Asking arguments is = import arguments
about_cluster name.Migrate arguments is = migrate arguments

named_cluster : (n : Option Name) (arguments : List (List ℕ)) → is_of_cluster n ≡ true → IsOfCluster (named_command n arguments)
named_cluster None arguments is = cc
named_cluster (Some n) arguments is = about_cluster n arguments is

pub cluster_words : (words : List (List ℕ)) → is_refused words ≡ true → IsOfCluster (command_of words)
cluster_words [] is = cc
cluster_words (word ∷ arguments) is = named_cluster (name_of word) arguments is
