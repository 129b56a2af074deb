-- Worked values of the definitions (Redis command reference).
use Rattle.std.proofs.Common.{◌≡◌, ◌+◌, ◌&&◌, ℕ, List, length, length-append, true, false, ap, refl, [], ◌∷◌, ◌∙◌, arith, rules}
use Rattle.std.specs.Prelude.{Some, None, codes, decimal, nat_le, pos, negsuc}
use Rattle.std.specs.FinMap.{gets}
use Rattle.std.specs.Fmt.{digits}
use Rattle.resp_values.proofs.Spellings.{bulk_len, request_len}
use Rattle.resp_values.specs.Reply.{array_of}
use Rattle.resp_values.specs.Request.{bulk_spelling, bulks_spelling, crlf, header_spelling, request_spelling}
use Rattle.resp_values.specs.declared.reply.Reply.TheVariants.{Simple, Error, Integer, Bulk, Null, Array}
use Rattle.command_table.specs.Numbers.{number_of}
use Rattle.keyspace.specs.Commands.{effect, replay}
use Rattle.keyspace.specs.Effect.{left, told}
use Rattle.keyspace.specs.Numbers.{fitting_number}
use Rattle.keyspace.specs.Rebuilding.{rebuilding}
use Rattle.keyspace.specs.Replay.{writes_of}
use Rattle.keyspace.specs.Strings.{fits_string}
use Rattle.keyspace.specs.declared.value.Value.TheVariants.{Str}
use Rattle.command_table.specs.declared.command.DataCommand.TheVariants.{Incr, Decr, Incrby}

-- a string is set and read, with names in any case
set_and_get : (replay ((codes "SET" ∷ codes "a" ∷ codes "1" ∷ []) ∷ (codes "get" ∷ codes "a" ∷ []) ∷ [])).replies
    ≡ Simple (codes "OK") ∷ Bulk (codes "1") ∷ []
set_and_get = grind (gets, rules)

-- the later string replaces the earlier one, and another key has none
set_again : (replay ((codes "SET" ∷ codes "a" ∷ codes "1" ∷ []) ∷ (codes "SET" ∷ codes "a" ∷ codes "2" ∷ [])
    ∷ (codes "GET" ∷ codes "a" ∷ []) ∷ (codes "GET" ∷ codes "b" ∷ []) ∷ [])).replies
    ≡ Simple (codes "OK") ∷ Simple (codes "OK") ∷ Bulk (codes "2") ∷ Null ∷ []
set_again = grind (gets, rules)

-- SET with XX needs the key, and with NX that it is missing
set_on_conditions : (replay ((codes "SET" ∷ codes "a" ∷ codes "1" ∷ codes "XX" ∷ []) ∷ (codes "SET" ∷ codes "a" ∷ codes "1" ∷ codes "NX" ∷ [])
    ∷ (codes "SET" ∷ codes "a" ∷ codes "2" ∷ codes "nx" ∷ []) ∷ (codes "GET" ∷ codes "a" ∷ [])
    ∷ (codes "SET" ∷ codes "a" ∷ codes "3" ∷ codes "xx" ∷ []) ∷ (codes "GET" ∷ codes "a" ∷ []) ∷ [])).replies
    ≡ Null ∷ Simple (codes "OK") ∷ Null ∷ Bulk (codes "1") ∷ Simple (codes "OK") ∷ Bulk (codes "3") ∷ []
set_on_conditions = grind (gets, rules)

-- of a key that is repeated in an MSET the last string stays
set_several : (replay ((codes "MSET" ∷ codes "a" ∷ codes "1" ∷ codes "b" ∷ codes "2" ∷ codes "a" ∷ codes "3" ∷ []) ∷ (codes "MGET" ∷ codes "a" ∷ codes "b" ∷ []) ∷ [])).replies
    ≡ Simple (codes "OK") ∷ Array (array_of (Bulk (codes "3") ∷ Bulk (codes "2") ∷ [])) ∷ []
set_several = grind (gets, rules)

-- MGET of a key that is there, one that is missing, and the first again
several : (replay ((codes "SET" ∷ codes "a" ∷ codes "1" ∷ []) ∷ (codes "MGET" ∷ codes "a" ∷ codes "b" ∷ codes "a" ∷ []) ∷ [])).replies
    ≡ Simple (codes "OK") ∷ Array (array_of (Bulk (codes "1") ∷ Null ∷ Bulk (codes "1") ∷ [])) ∷ []
several = grind (gets, rules)

-- a keyspace alone has no commands about a cluster
no_cluster : (replay ((codes "CLUSTER" ∷ codes "MYID" ∷ []) ∷ [])).replies ≡ Error (codes "ERR unknown command") ∷ []
no_cluster = refl

-- words that are not a command get an error
no_command : (replay ((codes "PING" ∷ []) ∷ (codes "GET" ∷ []) ∷ (codes "foo" ∷ []) ∷ [])).replies
    ≡ Simple (codes "PONG") ∷ Error (codes "ERR wrong number of arguments for 'get' command") ∷ Error (codes "ERR unknown command") ∷ []
no_command = refl

-- a wrong option changes nothing, and a half pair neither
no_option : (replay ((codes "SET" ∷ codes "a" ∷ codes "1" ∷ codes "EX" ∷ []) ∷ (codes "MSET" ∷ codes "a" ∷ codes "1" ∷ codes "b" ∷ []) ∷ (codes "EXISTS" ∷ codes "a" ∷ []) ∷ [])).replies
    ≡ Error (codes "ERR syntax error") ∷ Error (codes "ERR wrong number of arguments for 'mset' command") ∷ Integer (pos 0) ∷ []
no_option = grind (gets, rules)

-- of requests only commands that write are writes, also those that change nothing here
only_writes : writes_of ((codes "GET" ∷ codes "a" ∷ []) ∷ (codes "set" ∷ codes "a" ∷ codes "1" ∷ []) ∷ (codes "SET" ∷ codes "a" ∷ []) ∷ (codes "CLUSTER" ∷ codes "MYID" ∷ []) ∷ (codes "DEL" ∷ codes "b" ∷ []) ∷ [])
    ≡ (codes "set" ∷ codes "a" ∷ codes "1" ∷ []) ∷ (codes "DEL" ∷ codes "b" ∷ []) ∷ []
only_writes = refl

-- PING and ECHO with a message
messages : (replay ((codes "PING" ∷ codes "a" ∷ []) ∷ (codes "ECHO" ∷ codes "b" ∷ []) ∷ [])).replies ≡ Bulk (codes "a") ∷ Bulk (codes "b") ∷ []
messages = refl

-- the length and the type of a string, and of a key that is missing
lengths_and_types : (replay ((codes "SET" ∷ codes "a" ∷ codes "xyz" ∷ []) ∷ (codes "STRLEN" ∷ codes "a" ∷ []) ∷ (codes "STRLEN" ∷ codes "b" ∷ [])
    ∷ (codes "TYPE" ∷ codes "a" ∷ []) ∷ (codes "TYPE" ∷ codes "b" ∷ []) ∷ [])).replies
    ≡ Simple (codes "OK") ∷ Integer (pos 3) ∷ Integer (pos 0) ∷ Simple (codes "string") ∷ Simple (codes "none") ∷ []
lengths_and_types = grind (gets, rules)

-- EXISTS counts a repeated key again
counts_again : (replay ((codes "SET" ∷ codes "a" ∷ codes "1" ∷ []) ∷ (codes "EXISTS" ∷ codes "a" ∷ codes "b" ∷ codes "a" ∷ []) ∷ [])).replies
    ≡ Simple (codes "OK") ∷ Integer (pos 2) ∷ []
counts_again = grind (gets, rules)

-- SETNX sets a key only while it is missing
set_while_missing : (replay ((codes "SETNX" ∷ codes "a" ∷ codes "1" ∷ []) ∷ (codes "SETNX" ∷ codes "a" ∷ codes "2" ∷ []) ∷ (codes "GET" ∷ codes "a" ∷ []) ∷ [])).replies
    ≡ Integer (pos 1) ∷ Integer (pos 0) ∷ Bulk (codes "1") ∷ []
set_while_missing = grind (gets, rules)

-- GETSET replies with the string before
get_and_set : (replay ((codes "GETSET" ∷ codes "a" ∷ codes "1" ∷ []) ∷ (codes "GETSET" ∷ codes "a" ∷ codes "2" ∷ []) ∷ (codes "GET" ∷ codes "a" ∷ []) ∷ [])).replies
    ≡ Null ∷ Bulk (codes "1") ∷ Bulk (codes "2") ∷ []
get_and_set = grind (gets, rules)

-- GETDEL leaves no key
get_and_delete : (replay ((codes "SET" ∷ codes "a" ∷ codes "1" ∷ []) ∷ (codes "GETDEL" ∷ codes "a" ∷ []) ∷ (codes "GETDEL" ∷ codes "a" ∷ []) ∷ [])).replies
    ≡ Simple (codes "OK") ∷ Bulk (codes "1") ∷ Null ∷ []
get_and_delete = grind (gets, rules)

-- DEL counts a repeated key once, and a missing one not at all
deletes_once : (replay ((codes "SET" ∷ codes "a" ∷ codes "1" ∷ []) ∷ (codes "DEL" ∷ codes "a" ∷ codes "a" ∷ []) ∷ (codes "DEL" ∷ codes "a" ∷ []) ∷ [])).replies
    ≡ Simple (codes "OK") ∷ Integer (pos 1) ∷ Integer (pos 0) ∷ []
deletes_once = grind (gets, rules)

-- APPEND replies with the new length
appends : (replay ((codes "APPEND" ∷ codes "a" ∷ codes "x" ∷ []) ∷ (codes "APPEND" ∷ codes "a" ∷ codes "yz" ∷ []) ∷ (codes "GET" ∷ codes "a" ∷ []) ∷ [])).replies
    ≡ Integer (pos 1) ∷ Integer (pos 3) ∷ Bulk (codes "xyz") ∷ []
unfolding digits
appends = grind (gets, rules)

-- the bytes of the request that makes the longest key with a string of seven digits of bytes
beside_longest : (key bytes : List ℕ) (count : ℕ) → length key ≡ 8388608 → length bytes ≡ count → length (decimal count) ≡ 7 → length (request_spelling (rebuilding key (Str bytes))) ≡ count + 8388645
unfolding digits
beside_longest key bytes count keyed counted seven = omega (
  arith,
  keyed,
  counted,
  seven,
  request_len (rebuilding key (Str bytes)),
  length-append (bulk_spelling (codes "SET")) (bulks_spelling (key ∷ bytes ∷ [])),
  length-append (bulk_spelling key) (bulks_spelling (bytes ∷ [])),
  length-append {A = ℕ} (bulk_spelling bytes) [],
  bulk_len key,
  bulk_len bytes,
  length-append (decimal count) crlf,
  ap (λ (n : ℕ). length (header_spelling 36 n)) keyed,
  ap (λ (n : ℕ). length (header_spelling 36 n)) counted,
)

-- with 8,388,571 bytes it is as long as a request may be
longest : (key bytes : List ℕ) → length key ≡ 8388608 → length bytes ≡ 8388571 → fits_string key bytes ≡ true
unfolding digits
longest key bytes keyed counted =
    ap (λ (n : ℕ). nat_le n 8388608 && nat_le (length (request_spelling (rebuilding key (Str bytes)))) 16777216) counted
    ∙ ap (λ (n : ℕ). nat_le n 16777216) (beside_longest key bytes 8388571 keyed counted refl)

-- and one byte more is refused
past_longest : (key bytes : List ℕ) → length key ≡ 8388608 → length bytes ≡ 8388572 → fits_string key bytes ≡ false
unfolding digits
past_longest key bytes keyed counted =
    ap (λ (n : ℕ). nat_le n 8388608 && nat_le (length (request_spelling (rebuilding key (Str bytes)))) 16777216) counted
    ∙ ap (λ (n : ℕ). nat_le n 16777216) (beside_longest key bytes 8388572 keyed counted refl)

-- a missing key counts as 0
incr_missing : effect (Incr (codes "a")) (None ∷ []) ≡ left (Integer (pos 1)) (Some (Str (codes "1")))
unfolding fitting_number digits
incr_missing = refl

incr_greatest : effect (Incr (codes "a")) (Some (Str (codes "9223372036854775807")) ∷ []) ≡ told (Error (codes "ERR increment or decrement would overflow"))
unfolding number_of fitting_number digits
incr_greatest = refl

incr_leading_zero : effect (Incr (codes "a")) (Some (Str (codes "01")) ∷ []) ≡ told (Error (codes "ERR value is not an integer or out of range"))
unfolding number_of fitting_number digits
incr_leading_zero = refl

incr_minus_zero : effect (Incr (codes "a")) (Some (Str (codes "-0")) ∷ []) ≡ told (Error (codes "ERR value is not an integer or out of range"))
unfolding number_of fitting_number digits
incr_minus_zero = refl

decr_missing : effect (Decr (codes "a")) (None ∷ []) ≡ left (Integer (negsuc 0)) (Some (Str (codes "-1")))
unfolding fitting_number digits
decr_missing = refl

decr_least : effect (Decr (codes "a")) (Some (Str (codes "-9223372036854775808")) ∷ []) ≡ told (Error (codes "ERR increment or decrement would overflow"))
unfolding number_of fitting_number digits
decr_least = refl

incrby_minus : effect (Incrby (codes "a") (codes "-12")) (Some (Str (codes "10")) ∷ []) ≡ left (Integer (negsuc 1)) (Some (Str (codes "-2")))
unfolding number_of fitting_number digits
incrby_minus = refl

-- an increment that is no number
incrby_x : effect (Incrby (codes "a") (codes "x")) (None ∷ []) ≡ told (Error (codes "ERR value is not an integer or out of range"))
unfolding number_of digits
incrby_x = refl
