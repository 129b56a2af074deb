-- What the commands on strings reply, and what they leave (Redis command reference, group "string", and EXISTS, DEL, TYPE of the group "generic").
use Rattle.std.specs.Prelude.{ℕ, ◌+◌, nat_le, ℤ, pos, ◌+ℤ◌, Bool, true, false, not, ◌&&◌, if◌then◌else◌, List, [], ◌∷◌, ◌++◌, map, length, Option, Some, None, is_some, Result, Ok, Err, codes}
use Rattle.std.specs.List.{list_any}
use Rattle.std.specs.Ordering.{nat_cmp, eq_by_cmp}
use Rattle.std.specs.Cmp.Lexicographic.{slice_cmp}
use Rattle.std.specs.Fmt.{signed_decimal}
use Rattle.resp_values.specs.declared.reply.Reply.{Reply}
use Rattle.resp_values.specs.declared.reply.Reply.TheVariants.{Simple, Integer, Bulk, Null}
use Rattle.resp_values.specs.Limits.{most_word_bytes}
use Rattle.command_table.specs.Numbers.{number_of}
use Rattle.command_table.specs.declared.error_line.ErrorLine.{ErrorLine}
use Rattle.command_table.specs.declared.error_line.ErrorLine.TheVariants.{TooLong, NotAnInteger, Overflow, WrongType}
use Rattle.command_table.specs.declared.command.Condition.{Condition}
use Rattle.command_table.specs.declared.command.Condition.TheVariants.{Always, IfMissing, IfThere}
use Rattle.keyspace.specs.Effect.{Effect, told, left, error_reply, refused}
use Rattle.keyspace.specs.Numbers.{fitting_number}
use Rattle.keyspace.specs.Rebuilding.{fits_request, rebuilding}
use Rattle.keyspace.specs.declared.value.Value.{Value}
use Rattle.keyspace.specs.declared.value.Value.TheVariants.{Str, Hash}

-- GET: the string, or null where the key is missing
abbrev pub string_reply : Option Value → Reply
string_reply None = Null
string_reply (Some (Str bytes)) = Bulk bytes
string_reply (Some (Hash pairs)) = error_reply WrongType

-- MGET: null also where there is no string
abbrev pub bulk_or_null : Option Value → Reply
bulk_or_null None = Null
bulk_or_null (Some (Str bytes)) = Bulk bytes
bulk_or_null (Some (Hash pairs)) = Null

-- the string, of which a missing key counts as an empty one; None where the value is none
abbrev pub string_of : Option Value → Option (List ℕ)
string_of None = Some []
string_of (Some (Str bytes)) = Some bytes
string_of (Some (Hash pairs)) = None

-- the value is a string
abbrev pub is_string : Option Value → Bool
is_string None = false
is_string (Some (Str bytes)) = true
is_string (Some (Hash pairs)) = false

-- the value is a hash
abbrev pub is_hash : Option Value → Bool
is_hash None = false
is_hash (Some (Str bytes)) = false
is_hash (Some (Hash pairs)) = true

-- STRLEN
abbrev pub length_reply : Option (List ℕ) → Reply
length_reply None = error_reply WrongType
length_reply (Some bytes) = Integer (pos (length bytes))

-- the name of the value's type
abbrev pub type_of : Option Value → List ℕ
type_of None = codes "none"
type_of (Some (Str bytes)) = codes "string"
type_of (Some (Hash pairs)) = codes "hash"

-- the condition of SET, at the value that is there
abbrev pub holds : Condition → Option Value → Bool
holds Always old = true
holds IfMissing old = not (is_some old)
holds IfThere old = is_some old

-- SET sets where its condition holds
abbrev pub set_of : List ℕ → Bool → Effect
set_of value true = left (Simple (codes "OK")) (Some (Str value))
set_of value false = told Null

-- the strings of pairs, in the order of the request
abbrev pub strings_left : List (List ℕ × List ℕ) → List (Option Value)
strings_left pairs = map (λ pair. Some (Str pair.1)) pairs

-- SETNX sets a key that is missing
abbrev pub setnx_of : List ℕ → Option Value → Effect
setnx_of value None = left (Integer (pos 1)) (Some (Str value))
setnx_of value (Some old) = told (Integer (pos 0))

-- GETSET sets where a string is, or nothing
abbrev pub getset_of : List ℕ → Option Value → Effect
getset_of value None = left Null (Some (Str value))
getset_of value (Some (Str bytes)) = left (Bulk bytes) (Some (Str value))
getset_of value (Some (Hash pairs)) = refused WrongType

-- GETDEL removes a string
abbrev pub getdel_of : Option Value → Effect
getdel_of None = told Null
getdel_of (Some (Str bytes)) = left (Bulk bytes) None
getdel_of (Some (Hash pairs)) = refused WrongType

-- a string may be left at the key: it fits in a word of a request, and the request that makes it again keeps its limits
abbrev pub fits_string : List ℕ → List ℕ → Bool
fits_string key bytes = nat_le (length bytes) most_word_bytes && fits_request (rebuilding key (Str bytes))

abbrev pub fitting : List ℕ → List ℕ → Option (List ℕ)
fitting key bytes = if fits_string key bytes then Some bytes else None

-- a string is left that fits (the limit is ours)
abbrev pub string_left : Option (List ℕ) → Effect
string_left None = refused TooLong
string_left (Some bytes) = left (Integer (pos (length bytes))) (Some (Str bytes))

-- APPEND puts the bytes behind the string at the key
abbrev pub append_of : List ℕ → List ℕ → Option (List ℕ) → Effect
append_of key bytes None = refused WrongType
append_of key bytes (Some string) = string_left (fitting key (string ++ bytes))

-- the number, or the fault where there is none
abbrev pub number_or : ErrorLine → Option ℤ → Result ℤ ErrorLine
number_or fault None = Err fault
number_or fault (Some n) = Ok n

-- the number of a stored string; a missing one counts as 0
abbrev pub stored_number : ErrorLine → Option (List ℕ) → Result ℤ ErrorLine
stored_number fault None = Ok (pos 0)
stored_number fault (Some bytes) = number_or fault (number_of bytes)

-- the number at a key
abbrev pub number_at : Option Value → Result ℤ ErrorLine
number_at None = Ok (pos 0)
number_at (Some (Str bytes)) = stored_number NotAnInteger (Some bytes)
number_at (Some (Hash pairs)) = Err WrongType

-- the sum of the increment and the stored number, or the first fault: of the increment, of what is stored, of the sum
abbrev pub sum_of : Option ℤ → Result ℤ ErrorLine → Result ℤ ErrorLine
sum_of None stored = Err NotAnInteger
sum_of (Some increment) (Err fault) = Err fault
sum_of (Some increment) (Ok stored) = number_or Overflow (fitting_number (stored +ℤ increment))

-- INCR, DECR and INCRBY leave the text of the sum
abbrev pub number_left : Result ℤ ErrorLine → Effect
number_left (Err fault) = refused fault
number_left (Ok n) = left (Integer n) (Some (Str (signed_decimal n)))

-- the key is one of the keys
abbrev pub is_among : List ℕ → List (List ℕ) → Bool
is_among key keys = list_any (eq_by_cmp (slice_cmp nat_cmp) key) keys

-- how many of the keys are there, each counted once: where it is named last
abbrev pub deleted : List (List ℕ) → List (Option Value) → ℕ
deleted [] values = 0
deleted (key ∷ keys) [] = 0
deleted (key ∷ keys) (value ∷ values) = (if is_some value && not (is_among key keys) then 1 else 0) + deleted keys values

-- each of the keys is removed
abbrev pub all_removed : List (List ℕ) → List (Option Value)
all_removed keys = map (λ key. None) keys
