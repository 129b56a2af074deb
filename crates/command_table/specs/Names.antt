-- The names of the commands (Redis command reference; names are read without regard to ASCII case).
use Rattle.std.specs.Prelude.{List, [], ◌∷◌, ℕ, Option, codes, find}
use Rattle.std.specs.Str.{str_eq_ignore_ascii_case}
use Rattle.command_table.specs.declared.names.Name.{Name}
use Rattle.command_table.specs.declared.names.Name.TheVariants.{Get, Set, Ping, Echo, Hget, Hset, Mget, Mset, Setnx, Getset, Getdel, Append, Incr, Decr, Incrby, Strlen, Del, Exists, TypeOf, Hsetnx, Hmget, Hdel, Hexists, Hlen, Hstrlen, Hkeys, Hvals, Hgetall, Hincrby, Cluster, Asking, Migrate}
use Rattle.command_table.specs.declared.names.Subcommand.{Subcommand}
use Rattle.command_table.specs.declared.names.Subcommand.TheVariants.{KeySlot, MyId, Slots, CountKeysInSlot, GetKeysInSlot, SlotState, SetSlot, Numbered, Failover}

-- each name in lower case
abbrev pub name_text : Name → List ℕ
name_text Get = codes "get"
name_text Set = codes "set"
name_text Ping = codes "ping"
name_text Echo = codes "echo"
name_text Hget = codes "hget"
name_text Hset = codes "hset"
name_text Mget = codes "mget"
name_text Mset = codes "mset"
name_text Setnx = codes "setnx"
name_text Getset = codes "getset"
name_text Getdel = codes "getdel"
name_text Append = codes "append"
name_text Incr = codes "incr"
name_text Decr = codes "decr"
name_text Incrby = codes "incrby"
name_text Strlen = codes "strlen"
name_text Del = codes "del"
name_text Exists = codes "exists"
name_text TypeOf = codes "type"
name_text Hsetnx = codes "hsetnx"
name_text Hmget = codes "hmget"
name_text Hdel = codes "hdel"
name_text Hexists = codes "hexists"
name_text Hlen = codes "hlen"
name_text Hstrlen = codes "hstrlen"
name_text Hkeys = codes "hkeys"
name_text Hvals = codes "hvals"
name_text Hgetall = codes "hgetall"
name_text Hincrby = codes "hincrby"
name_text Cluster = codes "cluster"
name_text Asking = codes "asking"
name_text Migrate = codes "migrate"

abbrev pub names : List Name
names = Get ∷ Set ∷ Ping ∷ Incr ∷ Hget ∷ Hset ∷ Mget ∷ Mset ∷ Append ∷ Echo ∷ Setnx ∷ Getset ∷ Getdel ∷ Decr ∷ Incrby ∷ Strlen ∷ Del ∷ Exists ∷ TypeOf ∷ Hsetnx ∷ Hmget ∷ Hdel ∷ Hexists ∷ Hlen ∷ Hstrlen ∷ Hkeys ∷ Hvals ∷ Hgetall ∷ Hincrby ∷ Cluster ∷ Asking ∷ Migrate ∷ []

-- the name that a word spells, in letters of any case
abbrev pub name_of : List ℕ → Option Name
name_of word = find (λ name. str_eq_ignore_ascii_case word (name_text name)) names

-- each subcommand of CLUSTER in lower case
abbrev pub subcommand_text : Subcommand → List ℕ
subcommand_text KeySlot = codes "keyslot"
subcommand_text MyId = codes "myid"
subcommand_text Slots = codes "slots"
subcommand_text CountKeysInSlot = codes "countkeysinslot"
subcommand_text GetKeysInSlot = codes "getkeysinslot"
subcommand_text SlotState = codes "slotstate"
subcommand_text SetSlot = codes "setslot"
subcommand_text Numbered = codes "numbered"
subcommand_text Failover = codes "failover"

abbrev pub subcommands : List Subcommand
subcommands = KeySlot ∷ MyId ∷ Slots ∷ CountKeysInSlot ∷ GetKeysInSlot ∷ SlotState ∷ SetSlot ∷ Numbered ∷ Failover ∷ []

-- the subcommand that a word spells, in letters of any case
abbrev pub subcommand_of : List ℕ → Option Subcommand
subcommand_of word = find (λ subcommand. str_eq_ignore_ascii_case word (subcommand_text subcommand)) subcommands
