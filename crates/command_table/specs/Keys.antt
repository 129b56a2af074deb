-- The keys of a command, and whether it writes (Redis command reference: key specifications and command flags).
use Rattle.std.specs.Prelude.{List, [], ◌∷◌, ℕ, Bool, true, false, Option, Some, None, map}
use Rattle.command_table.specs.declared.command.Command.{Command}
use Rattle.command_table.specs.declared.command.Command.TheVariants.{Data, Cluster}
use Rattle.command_table.specs.declared.command.DataCommand.{DataCommand}
use Rattle.command_table.specs.declared.command.DataCommand.TheVariants.{Ping, Echo, Get, Set, Mget, Mset, Setnx, Getset, Getdel, Append, Incr, Decr, Incrby, Strlen, Del, Exists, TypeOf, Hset, Hsetnx, Hget, Hmget, Hdel, Hexists, Hlen, Hstrlen, Hkeys, Hvals, Hgetall, Hincrby}
use Rattle.command_table.specs.declared.command.KeyWords.{KeyWords}
use Rattle.command_table.specs.declared.command.KeyWords.TheVariants.{One, All, Firsts}
use Rattle.command_table.specs.Pairs.{pairs_in}

-- the keys of pairs, in the order of the request
abbrev pub pair_keys : List (List ℕ × List ℕ) → List (List ℕ)
pair_keys pairs = map (λ pair. pair.0) pairs

-- the keys among words of a request, and the only one
abbrev pub named_keys : KeyWords → List (List ℕ)
named_keys KeyWords.None = []
named_keys (One key) = key.now ∷ []
named_keys (All words) = words.now
named_keys (Firsts words) = pair_keys (pairs_in words.now)

abbrev pub named_key : KeyWords → Option (List ℕ)
named_key (One key) = Some key.now
named_key _ = None

-- the arguments that are keys
abbrev pub data_keys : DataCommand → List (List ℕ)
data_keys Ping = []
data_keys (Echo message) = []
data_keys (Get key) = key ∷ []
data_keys (Set key value condition) = key ∷ []
data_keys (Mget keys) = keys
data_keys (Mset pairs) = pair_keys pairs
data_keys (Setnx key value) = key ∷ []
data_keys (Getset key value) = key ∷ []
data_keys (Getdel key) = key ∷ []
data_keys (Append key value) = key ∷ []
data_keys (Incr key) = key ∷ []
data_keys (Decr key) = key ∷ []
data_keys (Incrby key increment) = key ∷ []
data_keys (Strlen key) = key ∷ []
data_keys (Del keys) = keys
data_keys (Exists keys) = keys
data_keys (TypeOf key) = key ∷ []
data_keys (Hset key pairs) = key ∷ []
data_keys (Hsetnx key field value) = key ∷ []
data_keys (Hget key field) = key ∷ []
data_keys (Hmget key fields) = key ∷ []
data_keys (Hdel key fields) = key ∷ []
data_keys (Hexists key field) = key ∷ []
data_keys (Hlen key) = key ∷ []
data_keys (Hstrlen key field) = key ∷ []
data_keys (Hkeys key) = key ∷ []
data_keys (Hvals key) = key ∷ []
data_keys (Hgetall key) = key ∷ []
data_keys (Hincrby key field increment) = key ∷ []

-- a command about the cluster names none
abbrev pub keys_of : Command → List (List ℕ)
keys_of (Data command) = data_keys command
keys_of (Cluster command) = []

-- the key of a command whose syntax has exactly one
abbrev pub only_data_key : DataCommand → Option (List ℕ)
only_data_key Ping = None
only_data_key (Echo message) = None
only_data_key (Get key) = Some key
only_data_key (Set key value condition) = Some key
only_data_key (Mget keys) = None
only_data_key (Mset pairs) = None
only_data_key (Setnx key value) = Some key
only_data_key (Getset key value) = Some key
only_data_key (Getdel key) = Some key
only_data_key (Append key value) = Some key
only_data_key (Incr key) = Some key
only_data_key (Decr key) = Some key
only_data_key (Incrby key increment) = Some key
only_data_key (Strlen key) = Some key
only_data_key (Del keys) = None
only_data_key (Exists keys) = None
only_data_key (TypeOf key) = Some key
only_data_key (Hset key pairs) = Some key
only_data_key (Hsetnx key field value) = Some key
only_data_key (Hget key field) = Some key
only_data_key (Hmget key fields) = Some key
only_data_key (Hdel key fields) = Some key
only_data_key (Hexists key field) = Some key
only_data_key (Hlen key) = Some key
only_data_key (Hstrlen key field) = Some key
only_data_key (Hkeys key) = Some key
only_data_key (Hvals key) = Some key
only_data_key (Hgetall key) = Some key
only_data_key (Hincrby key field increment) = Some key

abbrev pub only_key : Command → Option (List ℕ)
only_key (Data command) = only_data_key command
only_key (Cluster command) = None

-- the command may change the keyspace
abbrev pub is_data_write : DataCommand → Bool
is_data_write Ping = false
is_data_write (Echo message) = false
is_data_write (Get key) = false
is_data_write (Set key value condition) = true
is_data_write (Mget keys) = false
is_data_write (Mset pairs) = true
is_data_write (Setnx key value) = true
is_data_write (Getset key value) = true
is_data_write (Getdel key) = true
is_data_write (Append key value) = true
is_data_write (Incr key) = true
is_data_write (Decr key) = true
is_data_write (Incrby key increment) = true
is_data_write (Strlen key) = false
is_data_write (Del keys) = true
is_data_write (Exists keys) = false
is_data_write (TypeOf key) = false
is_data_write (Hset key pairs) = true
is_data_write (Hsetnx key field value) = true
is_data_write (Hget key field) = false
is_data_write (Hmget key fields) = false
is_data_write (Hdel key fields) = true
is_data_write (Hexists key field) = false
is_data_write (Hlen key) = false
is_data_write (Hstrlen key field) = false
is_data_write (Hkeys key) = false
is_data_write (Hvals key) = false
is_data_write (Hgetall key) = false
is_data_write (Hincrby key field increment) = true

abbrev pub is_write : Command → Bool
is_write (Data command) = is_data_write command
is_write (Cluster command) = false
