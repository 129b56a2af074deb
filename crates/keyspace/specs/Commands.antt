-- What each command replies, and what it leaves (Redis command reference).
use Rattle.std.specs.Prelude.{ℕ, pos, neg_ℤ, List, [], ◌∷◌, map, length, count_by, Option, Some, is_some, Result, Ok, Err, codes}
use Rattle.std.specs.FinMap as fin_map
use Rattle.resp_values.specs.declared.reply.Reply.{Reply}
use Rattle.resp_values.specs.declared.reply.Reply.TheVariants.{Simple, Error, Integer, Bulk, Array}
use Rattle.resp_values.specs.Reply.{array_of}
use Rattle.command_table.specs.Keys.{data_keys}
use Rattle.command_table.specs.Numbers.{number_of}
use Rattle.command_table.specs.Table.{command_of}
use Rattle.command_table.specs.ErrorLine.{error_text, line_of}
use Rattle.command_table.specs.declared.command.Command.{Command}
use Rattle.command_table.specs.declared.command.Command.TheVariants.{Data, Cluster}
use Rattle.command_table.specs.declared.command.DataCommand.{DataCommand}
use Rattle.command_table.specs.declared.command.DataCommand.TheVariants.{Ping, Echo, Get, Set, Mget, Mset, Setnx, Getset, Getdel, Append, Incr, Decr, Incrby, Strlen, Del, Exists, TypeOf, Hset, Hsetnx, Hget, Hmget, Hdel, Hexists, Hlen, Hstrlen, Hkeys, Hvals, Hgetall, Hincrby}
use Rattle.command_table.specs.declared.fault.CommandFault.{CommandFault}
use Rattle.command_table.specs.declared.fault.CommandFault.TheVariants.{Unknown}
use Rattle.hash.specs.Pairs.{value_of}
use Rattle.hash.specs.Size.{words_of}
use Rattle.keyspace.specs.Effect.{Effect, first_of, told}
use Rattle.keyspace.specs.Hashes.{fields_of, from_fields, value_reply, values_reply, exists_reply, value_length, bulks_reply, on_fields, hset_of, hsetnx_of, hdel_of, increased}
use Rattle.keyspace.specs.Keyspace.{Keyspace, changed}
use Rattle.keyspace.specs.Strings.{string_reply, bulk_or_null, string_of, length_reply, type_of, holds, set_of, strings_left, setnx_of, getset_of, getdel_of, append_of, number_at, sum_of, number_left, deleted, all_removed}
use Rattle.keyspace.specs.declared.value.Value.{Value}

-- the command table: each command as a function of the values at its keys, in their order
abbrev pub effect : DataCommand → List (Option Value) → Effect
effect Ping values = told (Simple (codes "PONG"))
effect (Echo message) values = told (Bulk message)
effect (Get key) values = told (string_reply (first_of values))
effect (Set key value condition) values = set_of value (holds condition (first_of values))
effect (Mget keys) values = told (Array (array_of (map bulk_or_null values)))
effect (Mset pairs) values = record { reply = Simple (codes "OK"); leaves = strings_left pairs }
effect (Setnx key value) values = setnx_of value (first_of values)
effect (Getset key value) values = getset_of value (first_of values)
effect (Getdel key) values = getdel_of (first_of values)
effect (Append key value) values = append_of key value (string_of (first_of values))
effect (Incr key) values = number_left (sum_of (Some (pos 1)) (number_at (first_of values)))
effect (Decr key) values = number_left (sum_of (Some (neg_ℤ (pos 1))) (number_at (first_of values)))
effect (Incrby key increment) values = number_left (sum_of (number_of increment) (number_at (first_of values)))
effect (Strlen key) values = told (length_reply (string_of (first_of values)))
effect (Del keys) values = record { reply = Integer (pos (deleted keys values)); leaves = all_removed keys }
effect (Exists keys) values = told (Integer (pos (count_by is_some values)))
effect (TypeOf key) values = told (Simple (type_of (first_of values)))
effect (Hset key pairs) values = on_fields (fields_of (first_of values)) (hset_of key pairs)
effect (Hsetnx key field value) values = on_fields (fields_of (first_of values)) (hsetnx_of key field value)
effect (Hget key field) values = told (from_fields (fields_of (first_of values)) (λ fields. value_reply (value_of fields field)))
effect (Hmget key names) values = told (from_fields (fields_of (first_of values)) (values_reply names))
effect (Hdel key names) values = on_fields (fields_of (first_of values)) (hdel_of names)
effect (Hexists key field) values = told (from_fields (fields_of (first_of values)) (λ fields. exists_reply (value_of fields field)))
effect (Hlen key) values = told (from_fields (fields_of (first_of values)) (λ fields. Integer (pos (length fields))))
effect (Hstrlen key field) values = told (from_fields (fields_of (first_of values)) (λ fields. Integer (pos (value_length (value_of fields field)))))
effect (Hkeys key) values = told (from_fields (fields_of (first_of values)) (λ fields. bulks_reply (map (λ pair. pair.0) fields)))
effect (Hvals key) values = told (from_fields (fields_of (first_of values)) (λ fields. bulks_reply (map (λ pair. pair.1) fields)))
effect (Hgetall key) values = told (from_fields (fields_of (first_of values)) (λ fields. bulks_reply (words_of fields)))
effect (Hincrby key field increment) values = increased key field (number_of increment) (fields_of (first_of values))

-- the values at keys
abbrev pub values_at : Keyspace → List (List ℕ) → List (Option Value)
values_at keyspace keys = map (fin_map.get keyspace) keys

-- the keyspace with these values left at the keys
abbrev pub with_values : Keyspace → List (List ℕ) → List (Option Value) → Keyspace
with_values keyspace keys [] = keyspace
with_values keyspace [] (value ∷ values) = keyspace
with_values keyspace (key ∷ keys) (value ∷ values) = with_values (changed keyspace key value) keys values

-- what a command does in this keyspace
abbrev pub effect_in : Keyspace → DataCommand → Effect
effect_in keyspace command = effect command (values_at keyspace (data_keys command))

-- the reply to a command, and the keyspace after it
pub record Execution : Type 0 where
  pub reply : Reply
  pub after : Keyspace

-- an effect taken at keys
abbrev pub taken_at : Keyspace → List (List ℕ) → Effect → Execution
taken_at keyspace keys effect = record { reply = effect.reply; after = with_values keyspace keys effect.leaves }

-- a command executed on a keyspace: its effect, taken at its keys
abbrev pub exec : Keyspace → DataCommand → Execution
exec keyspace command = taken_at keyspace (data_keys command) (effect_in keyspace command)

-- the replies to commands one after another
abbrev pub replies_of : Keyspace → List DataCommand → List Reply
replies_of keyspace [] = []
replies_of keyspace (command ∷ commands) = (exec keyspace command).reply ∷ replies_of (exec keyspace command).after commands

-- and the keyspace after them
abbrev pub keyspace_after : Keyspace → List DataCommand → Keyspace
keyspace_after keyspace [] = keyspace
keyspace_after keyspace (command ∷ commands) = keyspace_after (exec keyspace command).after commands

-- words that are not a command on keys get an error, and the keyspace stays as it is
abbrev pub rejected : Keyspace → CommandFault → Execution
rejected keyspace fault = record { reply = Error (error_text (line_of fault)); after = keyspace }

-- a keyspace alone has no commands about a cluster
abbrev pub execution_of : Keyspace → Result Command CommandFault → Execution
execution_of keyspace (Ok (Data command)) = exec keyspace command
execution_of keyspace (Ok (Cluster command)) = rejected keyspace Unknown
execution_of keyspace (Err fault) = rejected keyspace fault

-- the words of a request executed on a keyspace
abbrev pub exec_words : Keyspace → List (List ℕ) → Execution
exec_words keyspace words = execution_of keyspace (command_of words)

-- the replies to requests one after another, and the last keyspace
pub record Replay : Type 0 where
  pub replies : List Reply
  pub last : Keyspace

abbrev pub replay_from : Keyspace → List (List (List ℕ)) → Replay
replay_from keyspace [] = record { replies = []; last = keyspace }
replay_from keyspace (words ∷ requests) =
    record {
      replies = (exec_words keyspace words).reply ∷ (replay_from (exec_words keyspace words).after requests).replies;
      last = (replay_from (exec_words keyspace words).after requests).last;
    }

-- the same, from no keys on
abbrev pub replay : List (List (List ℕ)) → Replay
replay requests = replay_from fin_map.empty requests
