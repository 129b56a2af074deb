-- The groups of commands that are planned apart (ours). No public clause needs them.
use Rattle.std.specs.Prelude.{Bool, true, false}
use Rattle.command_table.specs.declared.command.DataCommand.{DataCommand}
use Rattle.command_table.specs.declared.command.DataCommand.TheVariants.{Set, Mset, Setnx, Getset, Getdel, Append, Incr, Decr, Incrby, Del, Hset, Hsetnx, Hget, Hmget, Hdel, Hexists, Hlen, Hstrlen, Hkeys, Hvals, Hgetall, Hincrby}

-- the command is one on a hash
abbrev pub is_on_hash : DataCommand → Bool
is_on_hash (Hset key pairs) = true
is_on_hash (Hsetnx key field value) = true
is_on_hash (Hget key field) = true
is_on_hash (Hmget key fields) = true
is_on_hash (Hdel key fields) = true
is_on_hash (Hexists key field) = true
is_on_hash (Hlen key) = true
is_on_hash (Hstrlen key field) = true
is_on_hash (Hkeys key) = true
is_on_hash (Hvals key) = true
is_on_hash (Hgetall key) = true
is_on_hash (Hincrby key field increment) = true
is_on_hash command = false

-- the command puts strings, or removes keys
abbrev pub is_on_string : DataCommand → Bool
is_on_string (Set key value condition) = true
is_on_string (Mset pairs) = true
is_on_string (Setnx key value) = true
is_on_string (Getset key value) = true
is_on_string (Getdel key) = true
is_on_string (Append key value) = true
is_on_string (Incr key) = true
is_on_string (Decr key) = true
is_on_string (Incrby key increment) = true
is_on_string (Del keys) = true
is_on_string command = false
