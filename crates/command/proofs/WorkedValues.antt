-- Worked values of the definitions (Redis command reference).
use Rattle.std.proofs.Common.{◌≡◌, ℕ, zero, suc, List, [], ◌∷◌, refl}
use Rattle.std.specs.Prelude.{Some, None, Ok, Err, codes, pos, negsuc}
use Rattle.std.specs.Fmt.{digits}
use Rattle.command_table.specs.Numbers.{number_of}
use Rattle.command_table.specs.Table.{command_of}
use Rattle.command_table.specs.declared.names.Name.TheVariants as name
use Rattle.command_table.specs.declared.command.Command.TheVariants.{Data, Cluster}
use Rattle.command_table.specs.declared.command.DataCommand.TheVariants.{Ping, Echo, Get, Set, Mget, Mset, Setnx, Getset, Getdel, Append, Incr, Decr, Incrby, Strlen, Del, Exists, TypeOf, Hset, Hsetnx, Hget, Hmget, Hdel, Hlen, Hgetall, Hincrby}
use Rattle.command_table.specs.declared.command.Condition.TheVariants.{Always, IfMissing, IfThere}
use Rattle.command_table.specs.declared.command.ClusterCommand.TheVariants.{KeySlot, MyId, Slots, CountKeysInSlot, GetKeysInSlot, SlotState, SetSlot, Numbered, Failover, Asking, Migrate}
use Rattle.command_table.specs.declared.command.SlotOrder.TheVariants.{Importing, Migrating, Node}
use Rattle.command_table.specs.declared.fault.CommandFault.TheVariants.{Unknown, UnknownSubcommand, Arity, Syntax, InvalidSlot, NotAnInteger}

-- letters of any case
get_a : command_of (codes "GeT" ∷ codes "a" ∷ []) ≡ Ok (Data (Get (codes "a")))
get_a = refl

-- key, then value
set_a_1 : command_of (codes "SET" ∷ codes "a" ∷ codes "1" ∷ []) ≡ Ok (Data (Set (codes "a") (codes "1") Always))
set_a_1 = refl

-- with a condition
set_a_1_nx : command_of (codes "SET" ∷ codes "a" ∷ codes "1" ∷ codes "nX" ∷ []) ≡ Ok (Data (Set (codes "a") (codes "1") IfMissing))
set_a_1_nx = refl

set_a_1_xx : command_of (codes "SET" ∷ codes "a" ∷ codes "1" ∷ codes "XX" ∷ []) ≡ Ok (Data (Set (codes "a") (codes "1") IfThere))
set_a_1_xx = refl

-- and no other option
set_a_1_ex : command_of (codes "SET" ∷ codes "a" ∷ codes "1" ∷ codes "EX" ∷ []) ≡ Err Syntax
set_a_1_ex = refl

-- nor two of them
set_a_1_nx_xx : command_of (codes "SET" ∷ codes "a" ∷ codes "1" ∷ codes "NX" ∷ codes "XX" ∷ []) ≡ Err Syntax
set_a_1_nx_xx = refl

-- too few arguments are a wrong number of them
set_a : command_of (codes "SET" ∷ codes "a" ∷ []) ≡ Err (Arity name.Set)
set_a = refl

-- pairs, in their order; a key may be repeated
mset_a_1_a_2 : command_of (codes "MSET" ∷ codes "a" ∷ codes "1" ∷ codes "a" ∷ codes "2" ∷ []) ≡ Ok (Data (Mset ((codes "a", codes "1") ∷ (codes "a", codes "2") ∷ [])))
mset_a_1_a_2 = refl

-- at least one, and none is half
mset : command_of (codes "MSET" ∷ []) ≡ Err (Arity name.Mset)
mset = refl

mset_a_1_b : command_of (codes "MSET" ∷ codes "a" ∷ codes "1" ∷ codes "b" ∷ []) ≡ Err (Arity name.Mset)
mset_a_1_b = refl

ping : command_of (codes "ping" ∷ []) ≡ Ok (Data Ping)
ping = refl

-- with a message PING is ECHO
ping_a : command_of (codes "PING" ∷ codes "a" ∷ []) ≡ Ok (Data (Echo (codes "a")))
ping_a = refl

echo_a : command_of (codes "echo" ∷ codes "a" ∷ []) ≡ Ok (Data (Echo (codes "a")))
echo_a = refl

echo : command_of (codes "ECHO" ∷ []) ≡ Err (Arity name.Echo)
echo = refl

setnx_a_1 : command_of (codes "SETNX" ∷ codes "a" ∷ codes "1" ∷ []) ≡ Ok (Data (Setnx (codes "a") (codes "1")))
setnx_a_1 = refl

getset_a_1 : command_of (codes "GETSET" ∷ codes "a" ∷ codes "1" ∷ []) ≡ Ok (Data (Getset (codes "a") (codes "1")))
getset_a_1 = refl

getdel_a : command_of (codes "GETDEL" ∷ codes "a" ∷ []) ≡ Ok (Data (Getdel (codes "a")))
getdel_a = refl

append_a : command_of (codes "APPEND" ∷ codes "a" ∷ []) ≡ Err (Arity name.Append)
append_a = refl

append_a_1 : command_of (codes "APPEND" ∷ codes "a" ∷ codes "1" ∷ []) ≡ Ok (Data (Append (codes "a") (codes "1")))
append_a_1 = refl

incr_a : command_of (codes "INCR" ∷ codes "a" ∷ []) ≡ Ok (Data (Incr (codes "a")))
incr_a = refl

decr_a : command_of (codes "DECR" ∷ codes "a" ∷ []) ≡ Ok (Data (Decr (codes "a")))
decr_a = refl

-- an increment that is no number is a fault of the execution
incrby_a_x : command_of (codes "INCRBY" ∷ codes "a" ∷ codes "x" ∷ []) ≡ Ok (Data (Incrby (codes "a") (codes "x")))
incrby_a_x = refl

incrby_a : command_of (codes "INCRBY" ∷ codes "a" ∷ []) ≡ Err (Arity name.Incrby)
incrby_a = refl

del_a_b : command_of (codes "DEL" ∷ codes "a" ∷ codes "b" ∷ []) ≡ Ok (Data (Del (codes "a" ∷ codes "b" ∷ [])))
del_a_b = refl

strlen_a : command_of (codes "STRLEN" ∷ codes "a" ∷ []) ≡ Ok (Data (Strlen (codes "a")))
strlen_a = refl

type_a : command_of (codes "TYPE" ∷ codes "a" ∷ []) ≡ Ok (Data (TypeOf (codes "a")))
type_a = refl

-- a key, then fields with their values; a field may be repeated
hset_a_f_1_f_2 : command_of (codes "HSET" ∷ codes "a" ∷ codes "f" ∷ codes "1" ∷ codes "f" ∷ codes "2" ∷ []) ≡ Ok (Data (Hset (codes "a") ((codes "f", codes "1") ∷ (codes "f", codes "2") ∷ [])))
hset_a_f_1_f_2 = refl

-- at least one pair, and none is half
hset_a : command_of (codes "HSET" ∷ codes "a" ∷ []) ≡ Err (Arity name.Hset)
hset_a = refl

hset_a_f_1_g : command_of (codes "HSET" ∷ codes "a" ∷ codes "f" ∷ codes "1" ∷ codes "g" ∷ []) ≡ Err (Arity name.Hset)
hset_a_f_1_g = refl

hsetnx_a_f_1 : command_of (codes "HSETNX" ∷ codes "a" ∷ codes "f" ∷ codes "1" ∷ []) ≡ Ok (Data (Hsetnx (codes "a") (codes "f") (codes "1")))
hsetnx_a_f_1 = refl

hsetnx_a_f : command_of (codes "HSETNX" ∷ codes "a" ∷ codes "f" ∷ []) ≡ Err (Arity name.Hsetnx)
hsetnx_a_f = refl

hget_a_f : command_of (codes "hGet" ∷ codes "a" ∷ codes "f" ∷ []) ≡ Ok (Data (Hget (codes "a") (codes "f")))
hget_a_f = refl

-- a key, then fields in their order
hmget_a_f_g : command_of (codes "HMGET" ∷ codes "a" ∷ codes "f" ∷ codes "g" ∷ []) ≡ Ok (Data (Hmget (codes "a") (codes "f" ∷ codes "g" ∷ [])))
hmget_a_f_g = refl

-- and at least one
hdel_a : command_of (codes "HDEL" ∷ codes "a" ∷ []) ≡ Err (Arity name.Hdel)
hdel_a = refl

hlen_a : command_of (codes "HLEN" ∷ codes "a" ∷ []) ≡ Ok (Data (Hlen (codes "a")))
hlen_a = refl

hgetall_a_f : command_of (codes "HGETALL" ∷ codes "a" ∷ codes "f" ∷ []) ≡ Err (Arity name.Hgetall)
hgetall_a_f = refl

-- as with INCRBY, an increment that is no number is a fault of the execution
hincrby_a_f_x : command_of (codes "HINCRBY" ∷ codes "a" ∷ codes "f" ∷ codes "x" ∷ []) ≡ Ok (Data (Hincrby (codes "a") (codes "f") (codes "x")))
hincrby_a_f_x = refl

-- a key may be repeated
exists_a_a : command_of (codes "EXISTS" ∷ codes "a" ∷ codes "a" ∷ []) ≡ Ok (Data (Exists (codes "a" ∷ codes "a" ∷ [])))
exists_a_a = refl

-- keys, in their order
mget_a_b : command_of (codes "MGET" ∷ codes "a" ∷ codes "b" ∷ []) ≡ Ok (Data (Mget (codes "a" ∷ codes "b" ∷ [])))
mget_a_b = refl

-- and at least one
mget : command_of (codes "MGET" ∷ []) ≡ Err (Arity name.Mget)
mget = refl

-- one argument too many
get_a_b : command_of (codes "GET" ∷ codes "a" ∷ codes "b" ∷ []) ≡ Err (Arity name.Get)
get_a_b = refl

cluster_keyslot_foo : command_of (codes "CLUSTER" ∷ codes "KEYSLOT" ∷ codes "foo" ∷ []) ≡ Ok (Cluster (KeySlot (codes "foo")))
cluster_keyslot_foo = refl

cluster_myid : command_of (codes "cluster" ∷ codes "myid" ∷ []) ≡ Ok (Cluster MyId)
cluster_myid = refl

cluster_slots : command_of (codes "Cluster" ∷ codes "Slots" ∷ []) ≡ Ok (Cluster Slots)
cluster_slots = refl

-- CLUSTER needs a subcommand
cluster : command_of (codes "cluster" ∷ []) ≡ Err (Arity name.Cluster)
cluster = refl

-- an unknown one is reported before the number of arguments
cluster_foo : command_of (codes "CLUSTER" ∷ codes "FOO" ∷ []) ≡ Err UnknownSubcommand
cluster_foo = refl

cluster_foo_a_b : command_of (codes "CLUSTER" ∷ codes "FOO" ∷ codes "a" ∷ codes "b" ∷ []) ≡ Err UnknownSubcommand
cluster_foo_a_b = refl

-- a known one needs its own number of arguments
cluster_keyslot : command_of (codes "CLUSTER" ∷ codes "KEYSLOT" ∷ []) ≡ Err (Arity name.Cluster)
cluster_keyslot = refl

-- the last slot is a slot, and the next number is none
countkeysinslot_last : command_of (codes "CLUSTER" ∷ codes "CountKeysInSlot" ∷ codes "16383" ∷ []) ≡ Ok (Cluster (CountKeysInSlot 16383))
unfolding number_of digits
countkeysinslot_last = refl

countkeysinslot_past_the_last : command_of (codes "CLUSTER" ∷ codes "COUNTKEYSINSLOT" ∷ codes "16384" ∷ []) ≡ Err InvalidSlot
unfolding number_of digits
countkeysinslot_past_the_last = refl

slotstate_below_the_first : command_of (codes "CLUSTER" ∷ codes "SLOTSTATE" ∷ codes "-1" ∷ []) ≡ Err InvalidSlot
unfolding number_of digits
slotstate_below_the_first = refl

slotstate_first : command_of (codes "CLUSTER" ∷ codes "SLOTSTATE" ∷ codes "0" ∷ []) ≡ Ok (Cluster (SlotState 0))
unfolding number_of digits
slotstate_first = refl

-- no key may be asked for, but not fewer
getkeysinslot_none : command_of (codes "CLUSTER" ∷ codes "GETKEYSINSLOT" ∷ codes "5" ∷ codes "0" ∷ []) ≡ Ok (Cluster (GetKeysInSlot 5 0))
unfolding number_of digits
getkeysinslot_none = refl

getkeysinslot_fewer : command_of (codes "CLUSTER" ∷ codes "GETKEYSINSLOT" ∷ codes "5" ∷ codes "-1" ∷ []) ≡ Err NotAnInteger
unfolding number_of digits
getkeysinslot_fewer = refl

-- the slot is read first
getkeysinslot_no_slot : command_of (codes "CLUSTER" ∷ codes "GETKEYSINSLOT" ∷ codes "x" ∷ codes "-1" ∷ []) ≡ Err InvalidSlot
unfolding number_of digits
getkeysinslot_no_slot = refl

-- a number may be left out
setslot_importing : command_of (codes "CLUSTER" ∷ codes "SETSLOT" ∷ codes "12182" ∷ codes "importing" ∷ codes "07c37dfeb235213a872192d90877d0cd55635b91" ∷ []) ≡ Ok (Cluster (SetSlot 12182 Importing (codes "07c37dfeb235213a872192d90877d0cd55635b91") None))
unfolding number_of digits
setslot_importing = refl

setslot_migrating_7 : command_of (codes "CLUSTER" ∷ codes "SETSLOT" ∷ codes "12182" ∷ codes "MIGRATING" ∷ codes "07c37dfeb235213a872192d90877d0cd55635b91" ∷ codes "7" ∷ []) ≡ Ok (Cluster (SetSlot 12182 Migrating (codes "07c37dfeb235213a872192d90877d0cd55635b91") (Some 7)))
unfolding number_of digits
setslot_migrating_7 = refl

setslot_node : command_of (codes "CLUSTER" ∷ codes "SETSLOT" ∷ codes "12182" ∷ codes "NODE" ∷ codes "07c37dfeb235213a872192d90877d0cd55635b91" ∷ codes "7" ∷ []) ≡ Ok (Cluster (SetSlot 12182 Node (codes "07c37dfeb235213a872192d90877d0cd55635b91") (Some 7)))
unfolding number_of digits
setslot_node = refl

-- of several faults the slot's is found first, then the order's, then the number's
setslot_no_slot : command_of (codes "CLUSTER" ∷ codes "SETSLOT" ∷ codes "16384" ∷ codes "STABLE" ∷ codes "07c37dfeb235213a872192d90877d0cd55635b91" ∷ codes "0" ∷ []) ≡ Err InvalidSlot
unfolding number_of digits
setslot_no_slot = refl

setslot_no_order : command_of (codes "CLUSTER" ∷ codes "SETSLOT" ∷ codes "12182" ∷ codes "STABLE" ∷ codes "07c37dfeb235213a872192d90877d0cd55635b91" ∷ codes "0" ∷ []) ≡ Err Syntax
unfolding number_of digits
setslot_no_order = refl

setslot_no_number : command_of (codes "CLUSTER" ∷ codes "SETSLOT" ∷ codes "12182" ∷ codes "NODE" ∷ codes "07c37dfeb235213a872192d90877d0cd55635b91" ∷ codes "0" ∷ []) ≡ Err NotAnInteger
unfolding number_of digits
setslot_no_number = refl

-- a wrong number of arguments is found before all of these
setslot_stable : command_of (codes "CLUSTER" ∷ codes "SETSLOT" ∷ codes "12182" ∷ codes "STABLE" ∷ []) ≡ Err (Arity name.Cluster)
setslot_stable = refl

numbered : command_of (codes "cluster" ∷ codes "numbered" ∷ []) ≡ Ok (Cluster Numbered)
numbered = refl

failover : command_of (codes "CLUSTER" ∷ codes "failover" ∷ []) ≡ Ok (Cluster Failover)
failover = refl

failover_more : command_of (codes "CLUSTER" ∷ codes "FAILOVER" ∷ codes "FORCE" ∷ []) ≡ Err (Arity name.Cluster)
failover_more = refl

asking_any : command_of (codes "asking" ∷ []) ≡ Ok (Cluster (Asking None))
asking_any = refl

-- a number of a move has 63 bits, and is at least 1
asking_greatest : command_of (codes "ASKING" ∷ codes "9223372036854775807" ∷ []) ≡ Ok (Cluster (Asking (Some 9223372036854775807)))
unfolding number_of digits
asking_greatest = refl

asking_past_the_greatest : command_of (codes "ASKING" ∷ codes "9223372036854775808" ∷ []) ≡ Err NotAnInteger
unfolding number_of digits
asking_past_the_greatest = refl

asking_0 : command_of (codes "ASKING" ∷ codes "0" ∷ []) ≡ Err NotAnInteger
unfolding number_of digits
asking_0 = refl

asking_1_2 : command_of (codes "ASKING" ∷ codes "1" ∷ codes "2" ∷ []) ≡ Err (Arity name.Asking)
asking_1_2 = refl

-- the port is any number
migrate_foo : command_of (codes "MIGRATE" ∷ codes "127.0.0.1" ∷ codes "7001" ∷ codes "foo" ∷ codes "0" ∷ codes "1000000" ∷ []) ≡ Ok (Cluster (Migrate (codes "127.0.0.1") (pos 7001) (codes "foo" ∷ []) 1000000))
unfolding number_of digits
migrate_foo = refl

migrate_to_no_port : command_of (codes "MIGRATE" ∷ codes "h" ∷ codes "-1" ∷ codes "" ∷ codes "0" ∷ codes "1" ∷ []) ≡ Ok (Cluster (Migrate (codes "h") (negsuc 0) (codes "" ∷ []) 1))
unfolding number_of digits
migrate_to_no_port = refl

-- what is no number is found before a number that is not taken
migrate_port_x : command_of (codes "MIGRATE" ∷ codes "h" ∷ codes "x" ∷ codes "foo" ∷ codes "1" ∷ codes "0" ∷ []) ≡ Err NotAnInteger
unfolding number_of digits
migrate_port_x = refl

migrate_timeout_x : command_of (codes "MIGRATE" ∷ codes "h" ∷ codes "1" ∷ codes "foo" ∷ codes "1" ∷ codes "x" ∷ []) ≡ Err NotAnInteger
unfolding number_of digits
migrate_timeout_x = refl

migrate_database_1 : command_of (codes "MIGRATE" ∷ codes "h" ∷ codes "1" ∷ codes "foo" ∷ codes "1" ∷ codes "5" ∷ []) ≡ Err Syntax
unfolding number_of digits
migrate_database_1 = refl

migrate_timeout_0 : command_of (codes "MIGRATE" ∷ codes "h" ∷ codes "1" ∷ codes "foo" ∷ codes "0" ∷ codes "0" ∷ []) ≡ Err Syntax
unfolding number_of digits
migrate_timeout_0 = refl

migrate_timeout_past_the_greatest : command_of (codes "MIGRATE" ∷ codes "h" ∷ codes "1" ∷ codes "foo" ∷ codes "0" ∷ codes "1000001" ∷ []) ≡ Err Syntax
unfolding number_of digits
migrate_timeout_past_the_greatest = refl

migrate_without_timeout : command_of (codes "MIGRATE" ∷ codes "h" ∷ codes "1" ∷ codes "foo" ∷ codes "0" ∷ []) ≡ Err (Arity name.Migrate)
migrate_without_timeout = refl

migrate_copy : command_of (codes "MIGRATE" ∷ codes "h" ∷ codes "1" ∷ codes "foo" ∷ codes "0" ∷ codes "5" ∷ codes "COPY" ∷ []) ≡ Err Syntax
migrate_copy = refl

migrate_two_keys :
    command_of (codes "MIGRATE" ∷ codes "h" ∷ codes "1" ∷ codes "" ∷ codes "0" ∷ codes "5" ∷ codes "Keys" ∷ codes "a" ∷ codes "b" ∷ [])
    ≡ Ok (Cluster (Migrate (codes "h") (pos 1) (codes "a" ∷ codes "b" ∷ []) 5))
unfolding number_of digits
migrate_two_keys = refl

migrate_no_key : command_of (codes "MIGRATE" ∷ codes "h" ∷ codes "1" ∷ codes "" ∷ codes "0" ∷ codes "5" ∷ codes "KEYS" ∷ []) ≡ Err Syntax
migrate_no_key = refl

-- the words are judged before the numbers
migrate_key_and_keys : command_of (codes "MIGRATE" ∷ codes "h" ∷ codes "x" ∷ codes "a" ∷ codes "0" ∷ codes "5" ∷ codes "KEYS" ∷ codes "a" ∷ []) ≡ Err Syntax
migrate_key_and_keys = refl

some_keys : ℕ → List (List ℕ)
some_keys zero = []
some_keys (suc n) = codes "k" ∷ some_keys n

migrate_sixteen_keys :
    command_of (codes "MIGRATE" ∷ codes "h" ∷ codes "1" ∷ codes "" ∷ codes "0" ∷ codes "5" ∷ codes "KEYS" ∷ some_keys 16)
    ≡ Ok (Cluster (Migrate (codes "h") (pos 1) (some_keys 16) 5))
unfolding number_of digits some_keys
migrate_sixteen_keys = refl

migrate_seventeen_keys : command_of (codes "MIGRATE" ∷ codes "h" ∷ codes "1" ∷ codes "" ∷ codes "0" ∷ codes "5" ∷ codes "KEYS" ∷ some_keys 17) ≡ Err Syntax
unfolding some_keys
migrate_seventeen_keys = refl

-- a subcommand is no command
keyslot_foo : command_of (codes "KEYSLOT" ∷ codes "foo" ∷ []) ≡ Err Unknown
keyslot_foo = refl
