-- What the commands on hashes reply, and what they leave (Redis command reference, group "hash").
use Rattle.std.specs.Prelude.{ℕ, ◌-◌, ℤ, pos, if◌then◌else◌, List, [], map, length, Option, Some, None, is_some, Result, Ok, Err}
use Rattle.std.specs.Borrow.{Bor}
use Rattle.std.specs.Fmt.{signed_decimal}
use Rattle.std.specs.Option.{option_copied}
use Rattle.resp_values.specs.declared.reply.Reply.{Reply}
use Rattle.resp_values.specs.declared.reply.Reply.TheVariants.{Integer, Bulk, Null, Array}
use Rattle.resp_values.specs.Reply.{array_of}
use Rattle.command_table.specs.declared.error_line.ErrorLine.{ErrorLine}
use Rattle.command_table.specs.declared.error_line.ErrorLine.TheVariants.{TooLong, WrongType, HashNotAnInteger}
use Rattle.hash.specs.Pairs.{Pairs, Changes, value_of, field_changed, fields_changed}
use Rattle.keyspace.specs.Effect.{Effect, told, left, error_reply, refused}
use Rattle.keyspace.specs.Keyspace.{hash_of}
use Rattle.keyspace.specs.Rebuilding.{fits_hash}
use Rattle.keyspace.specs.Strings.{stored_number, sum_of}
use Rattle.keyspace.specs.declared.value.Value.{Value}
use Rattle.keyspace.specs.declared.value.Value.TheVariants.{Str, Hash}

-- the fields of the hash, of which a missing key has none; None where the value is no hash
abbrev pub fields_of : Option Value → Option Pairs
fields_of None = Some []
fields_of (Some (Hash pairs)) = Some pairs
fields_of (Some (Str bytes)) = None

-- ---- commands that read

-- a reply from the fields
abbrev pub from_fields : Option Pairs → (Pairs → Reply) → Reply
from_fields None reply = error_reply WrongType
from_fields (Some pairs) reply = reply pairs

-- HGET: the value of the field, or null
abbrev pub value_reply : Option (List ℕ) → Reply
value_reply None = Null
value_reply (Some value) = Bulk value

-- HMGET: the value of each field, or null
abbrev pub values_reply : List (List ℕ) → Pairs → Reply
values_reply fields pairs = Array (array_of (map (λ field. value_reply (value_of pairs field)) fields))

-- HEXISTS: 1 where the field is there
abbrev pub exists_reply : Option (List ℕ) → Reply
exists_reply None = Integer (pos 0)
exists_reply (Some value) = Integer (pos 1)

-- HSTRLEN: the length of the value; a missing field has none
abbrev pub value_length : Option (List ℕ) → ℕ
value_length None = 0
value_length (Some value) = length value

-- HKEYS, HVALS and HGETALL: an array of bulk strings
abbrev pub bulks_reply : List (List ℕ) → Reply
bulks_reply words = Array (array_of (map Bulk words))

-- ---- commands that write

-- an effect on the fields
abbrev pub on_fields : Option Pairs → (Pairs → Effect) → Effect
on_fields None effect = refused WrongType
on_fields (Some pairs) effect = effect pairs

-- a hash is left that fits (the limit is ours)
abbrev pub hash_left : Reply → List ℕ → Pairs → Effect
hash_left reply key pairs = if fits_hash key pairs then left reply (hash_of pairs) else refused TooLong

-- each field gets its value
abbrev pub sets : List (List ℕ × List ℕ) → Changes
sets pairs = map (λ pair. (pair.0, Some pair.1)) pairs

-- each field is removed
abbrev pub removals : List (List ℕ) → Changes
removals fields = map (λ field. (field, None)) fields

-- HSET sets all fields, and replies how many are new
abbrev pub hset_of : List ℕ → List (List ℕ × List ℕ) → Pairs → Effect
hset_of key pairs old = let new = fields_changed old (sets pairs) in hash_left (Integer (pos (length new - length old))) key new

-- HSETNX sets a field that is missing
abbrev pub hsetnx_of : List ℕ → List ℕ → List ℕ → Pairs → Effect
hsetnx_of key field value old =
    if is_some (value_of old field) then told (Integer (pos 0))
    else hash_left (Integer (pos 1)) key (field_changed old field (Some value))

-- HDEL removes all fields, and replies how many were there
abbrev pub hdel_of : List (List ℕ) → Pairs → Effect
hdel_of fields old = let new = fields_changed old (removals fields) in left (Integer (pos (length old - length new))) (hash_of new)

-- the number of a field
abbrev pub field_number : List ℕ → Option Pairs → Result ℤ ErrorLine
field_number field None = Err WrongType
field_number field (Some pairs) = stored_number HashNotAnInteger (value_of pairs field)

-- HINCRBY leaves the text of the sum in the field
abbrev pub field_left : List ℕ → List ℕ → Pairs → Result ℤ ErrorLine → Effect
field_left key field old (Err fault) = refused fault
field_left key field old (Ok n) = hash_left (Integer n) key (field_changed old field (Some (signed_decimal n)))

-- the fields, of which a value that is no hash has none
abbrev pub known : Option Pairs → Pairs
known None = []
known (Some pairs) = pairs

-- the fields of a hash that may be missing
abbrev pub fields_in : Option (Bor Pairs) → Pairs
fields_in hash = known (option_copied hash)

-- the same after changes
abbrev pub fields_after : Option (Bor Pairs) → Changes → Pairs
fields_after hash changes = fields_changed (fields_in hash) changes

-- HINCRBY adds the increment to the number of the field
abbrev pub increased : List ℕ → List ℕ → Option ℤ → Option Pairs → Effect
increased key field increment fields = field_left key field (known fields) (sum_of increment (field_number field fields))
