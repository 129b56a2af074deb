-- The words that a command puts into keys are short where those of its request are, and its strings have requests.
use Rattle.std.proofs.Common.{◌≡◌, ◌+◌, ◌≤◌, ℕ, Bool, true, false, cond, List, [], ◌∷◌, length, length-append, Option, Some, None, refl, ap, arith}
use Rattle.std.proofs.lemmas.Bool.{and_parts, leb-true}
use Rattle.std.proofs.lemmas.List.{length-map}
use Rattle.std.proofs.lemmas.Slice.Eq.{bytes_eq-Decides}
use Rattle.std.specs.Char.{to_ascii_lowercase}
use Rattle.std.specs.List.{AllByRecursion, find, list_all}
use Rattle.std.specs.Option.{option_map}
use Rattle.std.specs.Prelude.{Result, ⊤, nat_le}
use Rattle.std.specs.Str.{str_eq_ignore_ascii_case, str_to_ascii_lowercase}
use Rattle.command_table.specs.Names.{name_of, name_text, names as all_names}
use Rattle.command_table.specs.Pairs.{pairs_of}
use Rattle.command_table.specs.Table.{command_of, condition_of, named_command, with_arguments, with_option, with_pairs, with_two}
use Rattle.command_table.specs.declared.command.Command.{Command}
use Rattle.command_table.specs.declared.command.DataCommand.{DataCommand}
use Rattle.command_table.specs.declared.command.DataCommand.TheVariants.{Echo, Get, Set, Mget, Mset, Setnx, Getset, Getdel, Append, Incr, Decr, Incrby, Strlen, Del, Exists, TypeOf, Hset, Hsetnx, Hget, Hmget, Hdel, Hexists, Hlen, Hstrlen, Hkeys, Hvals, Hgetall, Hincrby}
use Rattle.command_table.specs.declared.fault.CommandFault.{CommandFault}
use Rattle.command_table.specs.declared.names.Name.{Name}
use Rattle.command_table.specs.declared.names.Name.TheVariants as name
use Rattle.keyspace.specs.Rebuilding.{rebuilding}
use Rattle.keyspace.specs.declared.value.Value.TheVariants.{Str}
use Rattle.resp_values.proofs.Each.{each_by_recursion}
use Rattle.resp_values.specs.Request.{IsRequest, bulk_spelling, bulks_spelling}
use Rattle.resp_values.specs.declared.words.TheConstants.{MOST_REQUEST_BYTES}
use Rattle.promoted_prefix.proofs.Reading as reading
use Rattle.promoted_prefix.proofs.Short.{AreShortPairs, IsShort, front_least, string_is}

-- the requests that make the keys with the strings keep the limits
abbrev pub AreStrings : List (List ℕ × List ℕ) → Type 0
AreStrings pairs = AllByRecursion (λ (pair : List ℕ × List ℕ). IsRequest (rebuilding pair.0 (Str pair.1))) pairs

-- what the command may leave at its keys is made of short words, and a string that it leaves has a request
abbrev pub HasShort : DataCommand → Type 0
HasShort (Set key value when) = IsRequest (rebuilding key (Str value))
HasShort (Mset pairs) = AreStrings pairs
HasShort (Setnx key value) = IsRequest (rebuilding key (Str value))
HasShort (Getset key value) = IsRequest (rebuilding key (Str value))
HasShort (Append key value) = IsShort key
HasShort (Incr key) = IsShort key
HasShort (Decr key) = IsShort key
HasShort (Incrby key increment) = IsShort key
HasShort (Hset key pairs) = IsShort key × AreShortPairs pairs
HasShort (Hsetnx key field value) = IsShort key × IsShort field × IsShort value
HasShort (Hdel key names) = IsShort key
HasShort (Hincrby key field increment) = IsShort key × IsShort field
HasShort other = ⊤

abbrev pub HasShortWords : Result Command CommandFault → Type 0
HasShortWords read = reading.Holds IsShort HasShort read

-- ---- words that leave strings

-- the words behind a name leave room for `SET` before them
abbrev HasRoom : List (List ℕ) → Type 0
HasRoom words = 13 + length (bulks_spelling words) ≤ MOST_REQUEST_BYTES

less_room : (first second : List ℕ) (words : List (List ℕ)) → HasRoom (first ∷ second ∷ words) → HasRoom words
less_room first second words room = omega (arith, room, length-append (bulk_spelling first) (bulks_spelling (second ∷ words)), length-append (bulk_spelling second) (bulks_spelling words))

first_two : (key value : List ℕ) (words : List (List ℕ)) → IsShort key → IsShort value → HasRoom (key ∷ value ∷ words) → IsRequest (rebuilding key (Str value))
first_two key value words short_key short room =
    string_is key value short_key short (omega (arith, room, length-append (bulk_spelling key) (bulks_spelling (value ∷ words)), length-append (bulk_spelling value) (bulks_spelling words)))

two : (n : Name) (make : List ℕ → List ℕ → DataCommand) → ((key value : List ℕ) → IsRequest (rebuilding key (Str value)) → HasShort (make key value)) → (arguments : List (List ℕ))
    → AllByRecursion IsShort arguments → HasRoom arguments → HasShortWords (with_two n make arguments)
two n make each [] are room = tt
two n make each (key ∷ []) are room = tt
two n make each (key ∷ value ∷ []) are room = each key value (first_two key value [] are.0 are.1.0 room)
two n make each (key ∷ value ∷ more ∷ arguments) are room = tt

option : (arguments : List (List ℕ)) → AllByRecursion IsShort arguments → HasRoom arguments → HasShortWords (with_option arguments)
option [] are room = tt
option (key ∷ []) are room = tt
option (key ∷ value ∷ []) are room = first_two key value [] are.0 are.1.0 room
option (key ∷ value ∷ word ∷ []) are room = reading.condition IsShort HasShort key value (λ when. first_two key value (word ∷ []) are.0 are.1.0 room) (condition_of word)
option (key ∷ value ∷ first ∷ second ∷ words) are room = tt

abbrev AreFound : Option (List (List ℕ × List ℕ)) → Type 0
AreFound None = ⊤
AreFound (Some pairs) = AreStrings pairs

one_more : (key value : List ℕ) (found : Option (List (List ℕ × List ℕ))) → IsRequest (rebuilding key (Str value)) → AreFound found → AreFound (option_map (λ pairs. (key, value) ∷ pairs) found)
one_more key value None request are = tt
one_more key value (Some pairs) request are = (request, are)

found : (words : List (List ℕ)) → AllByRecursion IsShort words → HasRoom words → AreFound (pairs_of words)
found [] are room = tt
found (word ∷ []) are room = tt
found (key ∷ value ∷ words) are room = one_more key value (pairs_of words) (first_two key value words are.0 are.1.0 room) (found words are.1.1 (less_room key value words room))

several : (pairs : Option (List (List ℕ × List ℕ))) → AreFound pairs → HasShortWords (with_pairs name.Mset Mset pairs)
several None are = tt
several (Some []) are = tt
several (Some (pair ∷ pairs)) are = are

-- ---- any words

named : (n : Name) (arguments : List (List ℕ)) → AllByRecursion IsShort arguments → HasRoom arguments → HasShortWords (with_arguments n arguments)
named name.Get arguments are room = reading.one IsShort HasShort name.Get Get (λ x a. tt) arguments are
named name.Set arguments are room = option arguments are room
named name.Ping arguments are room = reading.message IsShort HasShort tt (λ said. tt) arguments
named name.Echo arguments are room = reading.one IsShort HasShort name.Echo Echo (λ x a. tt) arguments are
named name.Hget arguments are room = reading.two IsShort HasShort name.Hget Hget (λ x y a b. tt) arguments are
named name.Hset arguments are room = reading.field_pairs IsShort HasShort (λ key x xs a b. (a, b)) arguments are
named name.Mget arguments are room = reading.keys IsShort HasShort name.Mget Mget (λ x xs a. tt) arguments are
named name.Mset arguments are room = several (pairs_of arguments) (found arguments are room)
named name.Setnx arguments are room = two name.Setnx Setnx (λ key value request. request) arguments are room
named name.Getset arguments are room = two name.Getset Getset (λ key value request. request) arguments are room
named name.Getdel arguments are room = reading.one IsShort HasShort name.Getdel Getdel (λ x a. tt) arguments are
named name.Append arguments are room = reading.two IsShort HasShort name.Append Append (λ x y a b. a) arguments are
named name.Incr arguments are room = reading.one IsShort HasShort name.Incr Incr (λ x a. a) arguments are
named name.Decr arguments are room = reading.one IsShort HasShort name.Decr Decr (λ x a. a) arguments are
named name.Incrby arguments are room = reading.two IsShort HasShort name.Incrby Incrby (λ x y a b. a) arguments are
named name.Strlen arguments are room = reading.one IsShort HasShort name.Strlen Strlen (λ x a. tt) arguments are
named name.Del arguments are room = reading.keys IsShort HasShort name.Del Del (λ x xs a. tt) arguments are
named name.Exists arguments are room = reading.keys IsShort HasShort name.Exists Exists (λ x xs a. tt) arguments are
named name.TypeOf arguments are room = reading.one IsShort HasShort name.TypeOf TypeOf (λ x a. tt) arguments are
named name.Hsetnx arguments are room = reading.three IsShort HasShort name.Hsetnx Hsetnx (λ x y z a b c. (a, b, c)) arguments are
named name.Hmget arguments are room = reading.fields IsShort HasShort name.Hmget Hmget (λ x xs a. tt) arguments are
named name.Hdel arguments are room = reading.fields IsShort HasShort name.Hdel Hdel (λ x xs a. a.0) arguments are
named name.Hexists arguments are room = reading.two IsShort HasShort name.Hexists Hexists (λ x y a b. tt) arguments are
named name.Hlen arguments are room = reading.one IsShort HasShort name.Hlen Hlen (λ x a. tt) arguments are
named name.Hstrlen arguments are room = reading.two IsShort HasShort name.Hstrlen Hstrlen (λ x y a b. tt) arguments are
named name.Hkeys arguments are room = reading.one IsShort HasShort name.Hkeys Hkeys (λ x a. tt) arguments are
named name.Hvals arguments are room = reading.one IsShort HasShort name.Hvals Hvals (λ x a. tt) arguments are
named name.Hgetall arguments are room = reading.one IsShort HasShort name.Hgetall Hgetall (λ x a. tt) arguments are
named name.Hincrby arguments are room = reading.three IsShort HasShort name.Hincrby Hincrby (λ x y z a b c. (a, b)) arguments are
named name.Cluster arguments are room = reading.subcommands IsShort HasShort arguments
named name.Asking arguments are room = reading.import_read IsShort HasShort arguments
named name.Migrate arguments are room = reading.migration_read IsShort HasShort arguments

-- a word that spells one of the names has three letters or more
long_in : (all : List Name) (word : List ℕ) (n : Name) → list_all (λ (name : Name). nat_le 3 (length (name_text name))) all ≡ true
    → find (λ (name : Name). str_eq_ignore_ascii_case word (name_text name)) all ≡ Some n → 3 ≤ length word
long_in [] word n long is = absurd (cc)
long_in (name ∷ all) word n long is = by_test (long_in all word n parts.1) (str_eq_ignore_ascii_case word (name_text name)) refl is
  where
    parts : (nat_le 3 (length (name_text name)) ≡ true) × (list_all (λ (name : Name). nat_le 3 (length (name_text name))) all ≡ true)
    parts = and_parts (nat_le 3 (length (name_text name))) (list_all (λ (name : Name). nat_le 3 (length (name_text name))) all) long

    by_test : (find (λ (name : Name). str_eq_ignore_ascii_case word (name_text name)) all ≡ Some n → 3 ≤ length word) → (b : Bool) → str_eq_ignore_ascii_case word (name_text name) ≡ b
        → cond b (Some name) (find (λ (name : Name). str_eq_ignore_ascii_case word (name_text name)) all) ≡ Some n → 3 ≤ length word
    by_test later true same is =
        let spelled = ap length ((bytes_eq-Decides (str_to_ascii_lowercase word) (str_to_ascii_lowercase (name_text name))).0 same) in
        omega (arith, leb-true _ _ parts.0, spelled, length-map word to_ascii_lowercase, length-map (name_text name) to_ascii_lowercase)
    by_test later false apart is = later is

pub words_short : (words : List (List ℕ)) → IsRequest words → HasShortWords (command_of words)
words_short [] request = tt
words_short (word ∷ arguments) request = by_name (name_of word) refl
  where
    by_name : (n : Option Name) → name_of word ≡ n → HasShortWords (named_command n arguments)
    by_name None is = tt
    by_name (Some n) is = named n arguments (each_by_recursion IsShort (word ∷ arguments) request.limits.each.short).1 (front_least word arguments request (long_in all_names word n refl is))
