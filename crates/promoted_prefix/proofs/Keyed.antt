-- A request without keys writes nothing.
use Rattle.std.proofs.Common.{◌≡◌, ℕ, false, List, [], ◌∷◌, Option, Some, None, refl}
use Rattle.std.specs.List.{AllByRecursion}
use Rattle.std.specs.Prelude.{Result, ⊤}
use Rattle.command_table.specs.Keys.{data_keys, is_data_write}
use Rattle.command_table.specs.Names.{name_of}
use Rattle.command_table.specs.Pairs.{pairs_of}
use Rattle.command_table.specs.Table.{command_of, named_command, with_arguments}
use Rattle.command_table.specs.declared.command.Command.{Command}
use Rattle.command_table.specs.declared.command.DataCommand.{DataCommand}
use Rattle.command_table.specs.declared.command.DataCommand.TheVariants.{Echo, Get, Mget, Mset, Setnx, Getset, Getdel, Append, Incr, Decr, Incrby, Strlen, Del, Exists, TypeOf, Hsetnx, Hget, Hmget, Hdel, Hexists, Hlen, Hstrlen, Hkeys, Hvals, Hgetall, Hincrby}
use Rattle.command_table.specs.declared.fault.CommandFault.{CommandFault}
use Rattle.command_table.specs.declared.names.Name.{Name}
use Rattle.command_table.specs.declared.names.Name.TheVariants as name
use Rattle.promoted_prefix.proofs.Reading as reading

-- a command has keys, or doesn't write
abbrev HasKeys : DataCommand → Type 0
HasKeys which = data_keys which ≡ [] → is_data_write which ≡ false

abbrev Any : List ℕ → Type 0
Any word = ⊤

abbrev pub IsKeyed : Result Command CommandFault → Type 0
IsKeyed read = reading.Holds Any HasKeys read

some_key : (key : List ℕ) (keys : List (List ℕ)) {A : Type 0} → key ∷ keys ≡ [] → A
some_key key keys is = cc

any : (words : List (List ℕ)) → AllByRecursion Any words
any [] = tt
any (word ∷ words) = (tt, any words)

named : (n : Name) (arguments : List (List ℕ)) → IsKeyed (with_arguments n arguments)
named name.Get arguments = reading.one Any HasKeys name.Get Get (λ x a none. refl) arguments (any arguments)
named name.Set arguments = reading.option Any HasKeys (λ key value when a b none. some_key key [] none) arguments (any arguments)
named name.Ping arguments = reading.message Any HasKeys (λ none. refl) (λ said none. refl) arguments
named name.Echo arguments = reading.one Any HasKeys name.Echo Echo (λ x a none. refl) arguments (any arguments)
named name.Hget arguments = reading.two Any HasKeys name.Hget Hget (λ x y a b none. refl) arguments (any arguments)
named name.Hset arguments = reading.field_pairs Any HasKeys (λ key x xs a b none. some_key key [] none) arguments (any arguments)
named name.Mget arguments = reading.keys Any HasKeys name.Mget Mget (λ x xs a none. refl) arguments (any arguments)
named name.Mset arguments = reading.pairs Any HasKeys name.Mset Mset (λ x xs a none. some_key _ _ none) (pairs_of arguments) (reading.pairs_are Any HasKeys arguments (any arguments))
named name.Setnx arguments = reading.two Any HasKeys name.Setnx Setnx (λ x y a b none. some_key x [] none) arguments (any arguments)
named name.Getset arguments = reading.two Any HasKeys name.Getset Getset (λ x y a b none. some_key x [] none) arguments (any arguments)
named name.Getdel arguments = reading.one Any HasKeys name.Getdel Getdel (λ x a none. some_key x [] none) arguments (any arguments)
named name.Append arguments = reading.two Any HasKeys name.Append Append (λ x y a b none. some_key x [] none) arguments (any arguments)
named name.Incr arguments = reading.one Any HasKeys name.Incr Incr (λ x a none. some_key x [] none) arguments (any arguments)
named name.Decr arguments = reading.one Any HasKeys name.Decr Decr (λ x a none. some_key x [] none) arguments (any arguments)
named name.Incrby arguments = reading.two Any HasKeys name.Incrby Incrby (λ x y a b none. some_key x [] none) arguments (any arguments)
named name.Strlen arguments = reading.one Any HasKeys name.Strlen Strlen (λ x a none. refl) arguments (any arguments)
named name.Del arguments = reading.keys Any HasKeys name.Del Del (λ x xs a none. some_key x xs none) arguments (any arguments)
named name.Exists arguments = reading.keys Any HasKeys name.Exists Exists (λ x xs a none. refl) arguments (any arguments)
named name.TypeOf arguments = reading.one Any HasKeys name.TypeOf TypeOf (λ x a none. refl) arguments (any arguments)
named name.Hsetnx arguments = reading.three Any HasKeys name.Hsetnx Hsetnx (λ x y z a b c none. some_key x [] none) arguments (any arguments)
named name.Hmget arguments = reading.fields Any HasKeys name.Hmget Hmget (λ x xs a none. refl) arguments (any arguments)
named name.Hdel arguments = reading.fields Any HasKeys name.Hdel Hdel (λ x xs a none. some_key x [] none) arguments (any arguments)
named name.Hexists arguments = reading.two Any HasKeys name.Hexists Hexists (λ x y a b none. refl) arguments (any arguments)
named name.Hlen arguments = reading.one Any HasKeys name.Hlen Hlen (λ x a none. refl) arguments (any arguments)
named name.Hstrlen arguments = reading.two Any HasKeys name.Hstrlen Hstrlen (λ x y a b none. refl) arguments (any arguments)
named name.Hkeys arguments = reading.one Any HasKeys name.Hkeys Hkeys (λ x a none. refl) arguments (any arguments)
named name.Hvals arguments = reading.one Any HasKeys name.Hvals Hvals (λ x a none. refl) arguments (any arguments)
named name.Hgetall arguments = reading.one Any HasKeys name.Hgetall Hgetall (λ x a none. refl) arguments (any arguments)
named name.Hincrby arguments = reading.three Any HasKeys name.Hincrby Hincrby (λ x y z a b c none. some_key x [] none) arguments (any arguments)
named name.Cluster arguments = reading.subcommands Any HasKeys arguments
named name.Asking arguments = reading.import_read Any HasKeys arguments
named name.Migrate arguments = reading.migration_read Any HasKeys arguments

by_name : (n : Option Name) (arguments : List (List ℕ)) → IsKeyed (named_command n arguments)
by_name None arguments = tt
by_name (Some n) arguments = named n arguments

pub words_keyed : (words : List (List ℕ)) → IsKeyed (command_of words)
words_keyed [] = tt
words_keyed (word ∷ arguments) = by_name (name_of word) arguments
