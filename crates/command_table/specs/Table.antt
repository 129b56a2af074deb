-- Which words are a command (Redis command reference: the name, then the arguments of its syntax).
use Rattle.std.specs.Prelude.{List, [], ◌∷◌, ℕ, Option, Some, None, Result, Ok, Err, codes, if◌then◌else◌}
use Rattle.std.specs.Str.{str_eq_ignore_ascii_case}
use Rattle.command_table.specs.ClusterTable.{with_import, with_migration, with_subcommands}
use Rattle.command_table.specs.Names.{name_of}
use Rattle.command_table.specs.Pairs.{pairs_of}
use Rattle.command_table.specs.declared.names.Name.{Name}
use Rattle.command_table.specs.declared.names.Name.TheVariants as name
use Rattle.command_table.specs.declared.command.Command.{Command}
use Rattle.command_table.specs.declared.command.Command.TheVariants.{Data}
use Rattle.command_table.specs.declared.command.DataCommand.{DataCommand}
use Rattle.command_table.specs.declared.command.DataCommand.TheVariants.{Ping, Echo, Get, Set, Mget, Mset, Setnx, Getset, Getdel, Append, Incr, Decr, Incrby, Strlen, Del, Exists, TypeOf, Hset, Hsetnx, Hget, Hmget, Hdel, Hexists, Hlen, Hstrlen, Hkeys, Hvals, Hgetall, Hincrby}
use Rattle.command_table.specs.declared.command.Condition.{Condition}
use Rattle.command_table.specs.declared.command.Condition.TheVariants.{Always, IfMissing, IfThere}
use Rattle.command_table.specs.declared.fault.CommandFault.{CommandFault}
use Rattle.command_table.specs.declared.fault.CommandFault.TheVariants.{Unknown, Arity, Syntax}

-- a command with one argument
abbrev pub with_one : Name → (List ℕ → DataCommand) → List (List ℕ) → Result Command CommandFault
with_one n make (argument ∷ []) = Ok (Data (make argument))
with_one n make _ = Err (Arity n)

-- with two
abbrev pub with_two : Name → (List ℕ → List ℕ → DataCommand) → List (List ℕ) → Result Command CommandFault
with_two n make (first ∷ second ∷ []) = Ok (Data (make first second))
with_two n make _ = Err (Arity n)

-- with three
abbrev pub with_three : Name → (List ℕ → List ℕ → List ℕ → DataCommand) → List (List ℕ) → Result Command CommandFault
with_three n make (first ∷ second ∷ third ∷ []) = Ok (Data (make first second third))
with_three n make _ = Err (Arity n)

-- with one or more keys
abbrev pub with_keys : Name → (List (List ℕ) → DataCommand) → List (List ℕ) → Result Command CommandFault
with_keys n make (key ∷ keys) = Ok (Data (make (key ∷ keys)))
with_keys n make [] = Err (Arity n)

-- with a key, and one or more fields of its hash
abbrev pub with_fields : Name → (List ℕ → List (List ℕ) → DataCommand) → List (List ℕ) → Result Command CommandFault
with_fields n make (key ∷ field ∷ fields) = Ok (Data (make key (field ∷ fields)))
with_fields n make _ = Err (Arity n)

-- a command with one or more pairs
abbrev pub with_pairs : Name → (List (List ℕ × List ℕ) → DataCommand) → Option (List (List ℕ × List ℕ)) → Result Command CommandFault
with_pairs n make (Some (pair ∷ pairs)) = Ok (Data (make (pair ∷ pairs)))
with_pairs n make _ = Err (Arity n)

-- HSET takes a key, and one or more pairs of a field and its value
abbrev pub with_field_pairs : List (List ℕ) → Result Command CommandFault
with_field_pairs (key ∷ words) = with_pairs name.Hset (Hset key) (pairs_of words)
with_field_pairs [] = Err (Arity name.Hset)

-- the condition that an option of SET spells, in letters of any case
abbrev pub condition_of : List ℕ → Option Condition
condition_of word =
    if str_eq_ignore_ascii_case word (codes "nx") then Some IfMissing
    else if str_eq_ignore_ascii_case word (codes "xx") then Some IfThere
    else None

-- SET under the condition of its option
abbrev pub with_condition : List ℕ → List ℕ → Option Condition → Result Command CommandFault
with_condition key value (Some condition) = Ok (Data (Set key value condition))
with_condition key value None = Err Syntax

-- SET takes a key, a value and at most one option
abbrev pub with_option : List (List ℕ) → Result Command CommandFault
with_option (key ∷ value ∷ []) = Ok (Data (Set key value Always))
with_option (key ∷ value ∷ word ∷ []) = with_condition key value (condition_of word)
with_option (key ∷ value ∷ first ∷ second ∷ words) = Err Syntax
with_option _ = Err (Arity name.Set)

-- PING with a message is ECHO
abbrev pub with_message : List (List ℕ) → Result Command CommandFault
with_message [] = Ok (Data Ping)
with_message (message ∷ []) = Ok (Data (Echo message))
with_message _ = Err (Arity name.Ping)

-- a row a command: the arguments that it takes
abbrev pub with_arguments : Name → List (List ℕ) → Result Command CommandFault
with_arguments name.Get arguments = with_one name.Get Get arguments
with_arguments name.Set arguments = with_option arguments
with_arguments name.Ping arguments = with_message arguments
with_arguments name.Echo arguments = with_one name.Echo Echo arguments
with_arguments name.Hget arguments = with_two name.Hget Hget arguments
with_arguments name.Hset arguments = with_field_pairs arguments
with_arguments name.Mget arguments = with_keys name.Mget Mget arguments
with_arguments name.Mset arguments = with_pairs name.Mset Mset (pairs_of arguments)
with_arguments name.Setnx arguments = with_two name.Setnx Setnx arguments
with_arguments name.Getset arguments = with_two name.Getset Getset arguments
with_arguments name.Getdel arguments = with_one name.Getdel Getdel arguments
with_arguments name.Append arguments = with_two name.Append Append arguments
with_arguments name.Incr arguments = with_one name.Incr Incr arguments
with_arguments name.Decr arguments = with_one name.Decr Decr arguments
with_arguments name.Incrby arguments = with_two name.Incrby Incrby arguments
with_arguments name.Strlen arguments = with_one name.Strlen Strlen arguments
with_arguments name.Del arguments = with_keys name.Del Del arguments
with_arguments name.Exists arguments = with_keys name.Exists Exists arguments
with_arguments name.TypeOf arguments = with_one name.TypeOf TypeOf arguments
with_arguments name.Hsetnx arguments = with_three name.Hsetnx Hsetnx arguments
with_arguments name.Hmget arguments = with_fields name.Hmget Hmget arguments
with_arguments name.Hdel arguments = with_fields name.Hdel Hdel arguments
with_arguments name.Hexists arguments = with_two name.Hexists Hexists arguments
with_arguments name.Hlen arguments = with_one name.Hlen Hlen arguments
with_arguments name.Hstrlen arguments = with_two name.Hstrlen Hstrlen arguments
with_arguments name.Hkeys arguments = with_one name.Hkeys Hkeys arguments
with_arguments name.Hvals arguments = with_one name.Hvals Hvals arguments
with_arguments name.Hgetall arguments = with_one name.Hgetall Hgetall arguments
with_arguments name.Hincrby arguments = with_three name.Hincrby Hincrby arguments
with_arguments name.Cluster arguments = with_subcommands arguments
with_arguments name.Asking arguments = with_import arguments
with_arguments name.Migrate arguments = with_migration arguments

abbrev pub named_command : Option Name → List (List ℕ) → Result Command CommandFault
named_command None arguments = Err Unknown
named_command (Some n) arguments = with_arguments n arguments

-- the command that the words ask for, or why they are not a command
abbrev pub command_of : List (List ℕ) → Result Command CommandFault
command_of [] = Err Unknown
command_of (word ∷ arguments) = named_command (name_of word) arguments
