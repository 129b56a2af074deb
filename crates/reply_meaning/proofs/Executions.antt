-- What executed commands reply is no refusal.
use Rattle.std.proofs.Common.{◌≡◌, ℕ, Bool, true, false, cond, List, Option, Some, None, is_some, refl}
use Rattle.std.specs.Prelude.{Result, Ok, Err, ℤ, pos, neg_ℤ}
use Rattle.command_table.specs.Numbers.{number_of}
use Rattle.command_table.specs.declared.command.DataCommand.{DataCommand}
use Rattle.command_table.specs.declared.command.DataCommand.TheVariants.{Ping, Echo, Get, Set, Mget, Mset, Setnx, Getset, Getdel, Append, Incr, Decr, Incrby, Strlen, Del, Exists, TypeOf, Hset, Hsetnx, Hget, Hmget, Hdel, Hexists, Hlen, Hstrlen, Hkeys, Hvals, Hgetall, Hincrby}
use Rattle.command_table.specs.declared.error_line.ErrorLine.{ErrorLine}
use Rattle.command_table.specs.declared.error_line.ErrorLine.TheVariants.{TooLong, NotAnInteger, HashNotAnInteger, Overflow, WrongType}
use Rattle.hash.specs.Pairs.{Pairs, field_changed, value_of}
use Rattle.keyspace.specs.Commands.{effect}
use Rattle.keyspace.specs.Effect.{Effect, error_reply, first_of, left, refused, told as unchanged}
use Rattle.keyspace.specs.Hashes.{exists_reply, field_left, field_number, fields_of, from_fields, hash_left, hdel_of, hset_of, hsetnx_of, known, on_fields, value_reply}
use Rattle.keyspace.specs.Keyspace.{hash_of}
use Rattle.keyspace.specs.Rebuilding.{fits_hash}
use Rattle.keyspace.specs.Strings.{append_of, getdel_of, getset_of, holds, length_reply, number_at, number_left, number_or, set_of, setnx_of, stored_number, string_left, string_of, string_reply, sum_of}
use Rattle.keyspace.specs.declared.value.Value.{Value}
use Rattle.keyspace.specs.declared.value.Value.TheVariants.{Str, Hash}
use Rattle.resp_values.specs.declared.reply.Reply.{Reply}
use Rattle.resp_values.specs.declared.reply.Reply.TheVariants.{Integer}
use Rattle.reply_meaning.specs.Refusal.{is_refusal}

abbrev IsTold : Reply → Type 0
IsTold reply = is_refusal reply ≡ false

-- ---- strings

string_told : (value : Option Value) → IsTold (string_reply value)
string_told None = refl
string_told (Some (Str bytes)) = refl
string_told (Some (Hash pairs)) = refl

set_told : (value : List ℕ) (so : Bool) → IsTold (set_of value so).reply
set_told value true = refl
set_told value false = refl

setnx_told : (value : List ℕ) (old : Option Value) → IsTold (setnx_of value old).reply
setnx_told value None = refl
setnx_told value (Some old) = refl

getset_told : (value : List ℕ) (old : Option Value) → IsTold (getset_of value old).reply
getset_told value None = refl
getset_told value (Some (Str bytes)) = refl
getset_told value (Some (Hash pairs)) = refl

getdel_told : (old : Option Value) → IsTold (getdel_of old).reply
getdel_told None = refl
getdel_told (Some (Str bytes)) = refl
getdel_told (Some (Hash pairs)) = refl

left_told : (bytes : Option (List ℕ)) → IsTold (string_left bytes).reply
left_told None = refl
left_told (Some bytes) = refl

append_told : (key bytes : List ℕ) (string : Option (List ℕ)) → IsTold (append_of key bytes string).reply
append_told key bytes None = refl
append_told key bytes (Some string) = left_told _

length_told : (string : Option (List ℕ)) → IsTold (length_reply string)
length_told None = refl
length_told (Some bytes) = refl

-- ---- numbers

-- the fault, if there is one, is none of the refusals
abbrev IsFine : Result ℤ ErrorLine → Type 0
IsFine (Ok n) = IsTold (error_reply WrongType)
IsFine (Err fault) = IsTold (error_reply fault)

fine_or : (fault : ErrorLine) (n : Option ℤ) → IsTold (error_reply fault) → IsFine (number_or fault n)
fine_or fault None fine = fine
fine_or fault (Some n) fine = refl

fine_stored : (fault : ErrorLine) (bytes : Option (List ℕ)) → IsTold (error_reply fault) → IsFine (stored_number fault bytes)
fine_stored fault None fine = refl
fine_stored fault (Some bytes) fine = fine_or fault (number_of bytes) fine

fine_number : (value : Option Value) → IsFine (number_at value)
fine_number None = refl
fine_number (Some (Str bytes)) = fine_stored NotAnInteger (Some bytes) refl
fine_number (Some (Hash pairs)) = refl

fine_sum : (increment : Option ℤ) (stored : Result ℤ ErrorLine) → IsFine stored → IsFine (sum_of increment stored)
fine_sum None stored fine = refl
fine_sum (Some increment) (Err fault) fine = fine
fine_sum (Some increment) (Ok stored) fine = fine_or Overflow _ refl

number_told : (n : Result ℤ ErrorLine) → IsFine n → IsTold (number_left n).reply
number_told (Err fault) fine = fine
number_told (Ok n) fine = refl

counted : (increment : Option ℤ) (value : Option Value) → IsTold (number_left (sum_of increment (number_at value))).reply
counted increment value = number_told _ (fine_sum increment (number_at value) (fine_number value))

-- ---- hashes

from_told : (fields : Option Pairs) (reply : Pairs → Reply) → ((pairs : Pairs) → IsTold (reply pairs)) → IsTold (from_fields fields reply)
from_told None reply told = refl
from_told (Some pairs) reply told = told pairs

on_told : (fields : Option Pairs) (make : Pairs → Effect) → ((pairs : Pairs) → IsTold (make pairs).reply) → IsTold (on_fields fields make).reply
on_told None make told = refl
on_told (Some pairs) make told = told pairs

value_told : (value : Option (List ℕ)) → IsTold (value_reply value)
value_told None = refl
value_told (Some value) = refl

exists_told : (value : Option (List ℕ)) → IsTold (exists_reply value)
exists_told None = refl
exists_told (Some value) = refl

hash_told : (reply : Reply) (key : List ℕ) (pairs : Pairs) → IsTold reply → IsTold (hash_left reply key pairs).reply
hash_told reply key pairs is_told = by (fits_hash key pairs)
  where
    by : (fits : Bool) → IsTold (cond fits (left reply (hash_of pairs)) (refused TooLong)).reply
    by true = is_told
    by false = refl

hsetnx_told : (key field value : List ℕ) (old : Pairs) → IsTold (hsetnx_of key field value old).reply
hsetnx_told key field value old = by (is_some (value_of old field))
  where
    new : Pairs
    new = field_changed old field (Some value)

    by : (there : Bool) → IsTold (cond there (unchanged (Integer (pos 0))) (hash_left (Integer (pos 1)) key new)).reply
    by true = refl
    by false = hash_told (Integer (pos 1)) key new refl

field_told : (key field : List ℕ) (old : Pairs) (n : Result ℤ ErrorLine) → IsFine n → IsTold (field_left key field old n).reply
field_told key field old (Err fault) fine = fine
field_told key field old (Ok n) fine = hash_told _ key _ refl

fine_field : (field : List ℕ) (fields : Option Pairs) → IsFine (field_number field fields)
fine_field field None = refl
fine_field field (Some pairs) = fine_stored HashNotAnInteger (value_of pairs field) refl

-- ---- all commands

pub told : (command : DataCommand) (values : List (Option Value)) → is_refusal (effect command values).reply ≡ false
told Ping values = refl
told (Echo message) values = refl
told (Get key) values = string_told (first_of values)
told (Set key value condition) values = set_told value (holds condition (first_of values))
told (Mget keys) values = refl
told (Mset pairs) values = refl
told (Setnx key value) values = setnx_told value (first_of values)
told (Getset key value) values = getset_told value (first_of values)
told (Getdel key) values = getdel_told (first_of values)
told (Append key value) values = append_told key value (string_of (first_of values))
told (Incr key) values = counted (Some (pos 1)) (first_of values)
told (Decr key) values = counted (Some (neg_ℤ (pos 1))) (first_of values)
told (Incrby key increment) values = counted (number_of increment) (first_of values)
told (Strlen key) values = length_told (string_of (first_of values))
told (Del keys) values = refl
told (Exists keys) values = refl
told (TypeOf key) values = refl
told (Hset key pairs) values = on_told (fields_of (first_of values)) (hset_of key pairs) (λ old. hash_told _ key _ refl)
told (Hsetnx key field value) values = on_told (fields_of (first_of values)) (hsetnx_of key field value) (hsetnx_told key field value)
told (Hget key field) values = from_told (fields_of (first_of values)) _ (λ fields. value_told (value_of fields field))
told (Hmget key names) values = from_told (fields_of (first_of values)) _ (λ fields. refl)
told (Hdel key names) values = on_told (fields_of (first_of values)) (hdel_of names) (λ old. refl)
told (Hexists key field) values = from_told (fields_of (first_of values)) _ (λ fields. exists_told (value_of fields field))
told (Hlen key) values = from_told (fields_of (first_of values)) _ (λ fields. refl)
told (Hstrlen key field) values = from_told (fields_of (first_of values)) _ (λ fields. refl)
told (Hkeys key) values = from_told (fields_of (first_of values)) _ (λ fields. refl)
told (Hvals key) values = from_told (fields_of (first_of values)) _ (λ fields. refl)
told (Hgetall key) values = from_told (fields_of (first_of values)) _ (λ fields. refl)
told (Hincrby key field increment) values =
    field_told key field (known (fields_of (first_of values))) _ (fine_sum (number_of increment) (field_number field (fields_of (first_of values))) (fine_field field (fields_of (first_of values))))
