-- Commands that only read.
use Rattle.std.proofs.Common.{◌≡◌, ℕ, List, [], ◌∷◌, Option, false, refl, ap, ◌∙◌}
use Rattle.command_table.specs.Keys.{data_keys, is_data_write}
use Rattle.command_table.specs.declared.command.DataCommand.{DataCommand}
use Rattle.command_table.specs.declared.command.DataCommand.TheVariants.{Ping, Echo, Get, Mget, Strlen, Exists, TypeOf, Hget, Hmget, Hexists, Hlen, Hstrlen, Hkeys, Hvals, Hgetall, Set, Mset, Setnx, Getset, Getdel, Append, Incr, Decr, Incrby, Del, Hset, Hsetnx, Hdel, Hincrby}
use Rattle.keyspace.specs.Commands.{effect, exec, values_at, with_values}
use Rattle.keyspace.specs.Keyspace.{Keyspace}
use Rattle.keyspace.specs.declared.value.Value.{Value}

-- they leave no value
reads_leave_nothing : (command : DataCommand) (values : List (Option Value)) → is_data_write command ≡ false → (effect command values).leaves ≡ []
reads_leave_nothing Ping values reads = refl
reads_leave_nothing (Echo message) values reads = refl
reads_leave_nothing (Get key) values reads = refl
reads_leave_nothing (Mget keys) values reads = refl
reads_leave_nothing (Strlen key) values reads = refl
reads_leave_nothing (Exists keys) values reads = refl
reads_leave_nothing (TypeOf key) values reads = refl
reads_leave_nothing (Hget key field) values reads = refl
reads_leave_nothing (Hmget key fields) values reads = refl
reads_leave_nothing (Hexists key field) values reads = refl
reads_leave_nothing (Hlen key) values reads = refl
reads_leave_nothing (Hstrlen key field) values reads = refl
reads_leave_nothing (Hkeys key) values reads = refl
reads_leave_nothing (Hvals key) values reads = refl
reads_leave_nothing (Hgetall key) values reads = refl
reads_leave_nothing (Set key value condition) values reads = absurd (cc)
reads_leave_nothing (Mset pairs) values reads = absurd (cc)
reads_leave_nothing (Setnx key value) values reads = absurd (cc)
reads_leave_nothing (Getset key value) values reads = absurd (cc)
reads_leave_nothing (Getdel key) values reads = absurd (cc)
reads_leave_nothing (Append key value) values reads = absurd (cc)
reads_leave_nothing (Incr key) values reads = absurd (cc)
reads_leave_nothing (Decr key) values reads = absurd (cc)
reads_leave_nothing (Incrby key increment) values reads = absurd (cc)
reads_leave_nothing (Del keys) values reads = absurd (cc)
reads_leave_nothing (Hset key pairs) values reads = absurd (cc)
reads_leave_nothing (Hsetnx key field value) values reads = absurd (cc)
reads_leave_nothing (Hdel key fields) values reads = absurd (cc)
reads_leave_nothing (Hincrby key field increment) values reads = absurd (cc)

no_values : (keyspace : Keyspace) (keys : List (List ℕ)) → with_values keyspace keys [] ≡ keyspace
no_values keyspace [] = refl
no_values keyspace (key ∷ keys) = refl

-- so the keyspace stays as it is
pub reads_change_nothing : (keyspace : Keyspace) (command : DataCommand) → is_data_write command ≡ false → (exec keyspace command).after ≡ keyspace
reads_change_nothing keyspace command reads =
    ap (with_values keyspace (data_keys command)) (reads_leave_nothing command (values_at keyspace (data_keys command)) reads) ∙ no_values keyspace (data_keys command)
