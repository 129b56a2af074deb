-- Each key of a keyspace can be made again by a request, whatever requests made it.
use Rattle.std.proofs.Common.{◌≡◌, ◌<◌, ◌≤◌, ◌^◌, ℕ, ℤ, pos, negsuc, Bool, true, false, true≢false, cond, List, [], ◌∷◌, ◌++◌, length, FitsSigned, w64, Option, Some, None, refl, sym, subst, arith}
use Rattle.std.proofs.lemmas.Fmt.{length_signed_le}
use Rattle.std.proofs.lemmas.List.Elements.{All-head, All-tail}
use Rattle.std.specs.Cmp.Lexicographic.{slice_cmp}
use Rattle.std.specs.FinMap as fin_map
use Rattle.std.specs.Fmt.{signed_decimal}
use Rattle.std.specs.Int.Signed.{mag}
use Rattle.std.specs.List.{IsDistinct}
use Rattle.std.specs.Ordering.{nat_cmp}
use Rattle.std.specs.Prelude.{◌+ℤ◌, neg_ℤ, codes, All, Result, Ok, Err, ⊤, is_some}
use Rattle.command_table.proofs.NumberTexts.{fits_only_if}
use Rattle.command_table.specs.Keys.{data_keys, pair_keys}
use Rattle.command_table.specs.Numbers.{fits, number_of}
use Rattle.command_table.specs.Table.{command_of}
use Rattle.command_table.specs.declared.command.Command.{Command}
use Rattle.command_table.specs.declared.command.Command.TheVariants.{Data, Cluster}
use Rattle.command_table.specs.declared.command.DataCommand.{DataCommand}
use Rattle.command_table.specs.declared.command.DataCommand.TheVariants.{Set, Mset, Setnx, Getset, Getdel, Append, Incr, Decr, Incrby, Del, Hset, Hsetnx, Hdel, Hincrby}
use Rattle.command_table.specs.declared.error_line.ErrorLine.{ErrorLine}
use Rattle.command_table.specs.declared.error_line.ErrorLine.TheVariants.{Overflow, TooLong}
use Rattle.command_table.specs.declared.fault.CommandFault.{CommandFault}
use Rattle.hash.proofs.DistinctLemmas.{distinct-changed}
use Rattle.hash.specs.Pairs.{HasDistinctFields, Pairs, field_changed, value_of}
use Rattle.hash.specs.Size.{words_of}
use Rattle.keyspace.proofs.Applied.{get_changed, is_key, is_key-same}
use Rattle.keyspace.specs.Commands.{effect_in, exec_words, execution_of, replay_from, with_values}
use Rattle.keyspace.specs.Effect.{Effect, left, refused, told}
use Rattle.keyspace.specs.Hashes.{field_left, field_number, fields_of, hash_left, hdel_of, hset_of, hsetnx_of, known, on_fields}
use Rattle.keyspace.specs.Keyspace.{Keyspace, changed, hash_of}
use Rattle.keyspace.specs.Numbers.{fitting_number}
use Rattle.keyspace.specs.Rebuilding.{fits_hash, rebuilding}
use Rattle.keyspace.specs.Replay.{HasRequest}
use Rattle.keyspace.specs.Strings.{all_removed, append_of, fits_string, fitting, getdel_of, getset_of, holds, number_at, number_left, number_or, set_of, setnx_of, string_left, string_of, strings_left, sum_of}
use Rattle.keyspace.specs.declared.value.Value.{Value}
use Rattle.keyspace.specs.declared.value.Value.TheVariants.{Str, Hash}
use Rattle.resp_values.specs.Request.{IsRequest}
use Rattle.resp_values.specs.declared.reply.Reply.{Reply}
use Rattle.resp_values.specs.declared.reply.Reply.TheVariants.{Integer}
use Rattle.promoted_prefix.proofs.Fields.{IsMade, removals_made, set_short, sets_distinct, sets_short}
use Rattle.promoted_prefix.proofs.Short.{AreShortPairs, IsShort, first_short, fitting_is, hash_is, pairs_short, short_string_is, two_words}
use Rattle.promoted_prefix.proofs.ShortWords.{AreStrings, HasShort, HasShortWords, words_short}

-- the key can be made with its value, if it has one
abbrev pub IsLeft : List ℕ → Option Value → Type 0
IsLeft key None = ⊤
IsLeft key (Some value) = HasRequest (key, value)

-- each key can
abbrev pub CanBeMade : Keyspace → Type 0
CanBeMade keyspace = (key : List ℕ) → IsLeft key (fin_map.get keyspace key)

-- the key of such a request is short
pub request_short : (key : List ℕ) (value : Value) → IsRequest (rebuilding key value) → IsShort key
request_short key (Str bytes) request = first_short (codes "SET") key (bytes ∷ []) request
request_short key (Hash pairs) request = first_short (codes "HSET") key (words_of pairs) request

-- so is a key that is there
pub key_there_short : (keyspace : Keyspace) → CanBeMade keyspace → (key : List ℕ) → is_some (fin_map.get keyspace key) ≡ true → IsShort key
key_there_short keyspace can key there = by_value (fin_map.get keyspace key) (can key) there
  where
    by_value : (o : Option Value) → IsLeft key o → is_some o ≡ true → IsShort key
    by_value None is there = absurd (true≢false (sym there))
    by_value (Some value) is there = request_short key value is.1

-- ---- values that are left at keys

abbrev AreLeft : List (List ℕ) → List (Option Value) → Type 0
AreLeft keys [] = ⊤
AreLeft [] (value ∷ values) = ⊤
AreLeft (key ∷ keys) (value ∷ values) = IsLeft key value × AreLeft keys values

pub changed_can : (keyspace : Keyspace) (key : List ℕ) (value : Option Value) → CanBeMade keyspace → IsLeft key value → CanBeMade (changed keyspace key value)
changed_can keyspace key value can is q = subst (IsLeft q) (sym (get_changed keyspace key value q)) (by_key (is_key q key) refl)
  where
    by_key : (b : Bool) → is_key q key ≡ b → IsLeft q (cond b value (fin_map.get keyspace q))
    by_key true same = subst (λ (k : List ℕ). IsLeft k value) (sym (is_key-same q key same)) is
    by_key false apart = can q

left_can : (keys : List (List ℕ)) (values : List (Option Value)) (keyspace : Keyspace) → CanBeMade keyspace → AreLeft keys values → CanBeMade (with_values keyspace keys values)
left_can keys [] keyspace can are = can
left_can [] (value ∷ values) keyspace can are = can
left_can (key ∷ keys) (value ∷ values) keyspace can are = left_can keys values (changed keyspace key value) (changed_can keyspace key value can are.0) are.1

-- ---- strings

abbrev IsLeftBy : List ℕ → Effect → Type 0
IsLeftBy key effect = AreLeft (key ∷ []) effect.leaves

module _ (key : List ℕ) where
  string_can : (bytes : List ℕ) → IsRequest (rebuilding key (Str bytes)) → IsLeft key (Some (Str bytes))
  string_can bytes request = (tt, request)

  set_can : (value : List ℕ) → IsRequest (rebuilding key (Str value)) → (b : Bool) → IsLeftBy key (set_of value b)
  set_can value request true = (string_can value request, tt)
  set_can value request false = tt

  setnx_can : (value : List ℕ) → IsRequest (rebuilding key (Str value)) → (old : Option Value) → IsLeftBy key (setnx_of value old)
  setnx_can value request None = (string_can value request, tt)
  setnx_can value request (Some old) = tt

  getset_can : (value : List ℕ) → IsRequest (rebuilding key (Str value)) → (old : Option Value) → IsLeftBy key (getset_of value old)
  getset_can value request None = (string_can value request, tt)
  getset_can value request (Some (Str bytes)) = (string_can value request, tt)
  getset_can value request (Some (Hash pairs)) = tt

  module _ (short_key : IsShort key) where
    fitting_can : (bytes : List ℕ) → IsLeftBy key (string_left (fitting key bytes))
    fitting_can bytes = by_fit (fits_string key bytes) refl
      where
        by_fit : (b : Bool) → fits_string key bytes ≡ b → IsLeftBy key (string_left (cond b (Some bytes) None))
        by_fit true fits = (string_can bytes (fitting_is key bytes short_key fits), tt)
        by_fit false too_long = tt

    append_can : (bytes : List ℕ) (old : Option (List ℕ)) → IsLeftBy key (append_of key bytes old)
    append_can bytes None = tt
    append_can bytes (Some string) = fitting_can (string ++ bytes)

getdel_can : (key : List ℕ) (old : Option Value) → IsLeftBy key (getdel_of old)
getdel_can key None = tt
getdel_can key (Some (Str bytes)) = (tt, tt)
getdel_can key (Some (Hash pairs)) = tt

-- ---- numbers

-- the text of a number that fits is short
text_short : (n : ℤ) → fits n ≡ true → length (signed_decimal n) ≤ 21
text_short n is =
    let small : mag n < 2 ^ 63 = by n (fits_only_if n is) in
    omega (arith, length_signed_le 20 n (omega (arith, small)) small)
  where
    by : (n : ℤ) → FitsSigned w64 n → mag n < 2 ^ 63
    by (pos n) fit = fit.sfits
    by (negsuc n) fit = fit.sfits

-- a sum has a short text, if it fits
abbrev HasShortText : Result ℤ ErrorLine → Type 0
HasShortText (Ok n) = length (signed_decimal n) ≤ 21
HasShortText (Err fault) = ⊤

sum_short : (increment : Option ℤ) (stored : Result ℤ ErrorLine) → HasShortText (sum_of increment stored)
unfolding fitting_number
sum_short None stored = tt
sum_short (Some increment) (Err fault) = tt
sum_short (Some increment) (Ok stored) = by_fit _ refl
  where
    by_fit : (b : Bool) → fits (stored +ℤ increment) ≡ b → HasShortText (number_or Overflow (cond b (Some (stored +ℤ increment)) None))
    by_fit true is = text_short _ is
    by_fit false is = tt

number_can : (key : List ℕ) → IsShort key → (n : Result ℤ ErrorLine) → HasShortText n → IsLeftBy key (number_left n)
number_can key short (Err fault) text = tt
number_can key short (Ok n) text = (string_can key (signed_decimal n) (short_string_is key (signed_decimal n) short text), tt)

-- ---- hashes

-- a hash has no field twice, and its words are short
abbrev HasMade : List ℕ → Option Pairs → Type 0
HasMade key None = ⊤
HasMade key (Some pairs) = HasDistinctFields pairs × AreShortPairs pairs

no_fields : HasDistinctFields []
unfolding IsDistinct
no_fields = tt

fields_made : (key : List ℕ) (old : Option Value) → IsLeft key old → HasMade key (fields_of old)
fields_made key None is = (no_fields, tt)
fields_made key (Some (Str bytes)) is = tt
fields_made key (Some (Hash pairs)) is = (is.0.1, pairs_short key pairs is.1)

made_can : (key : List ℕ) (pairs : Pairs) → IsMade key pairs → IsLeft key (hash_of pairs)
made_can key [] made = tt
made_can key (pair ∷ pairs) made = ((omega arith, made.distinct), made.request)

module _ (key : List ℕ) (short_key : IsShort key) where
  hash_can : (reply : Reply) (pairs : Pairs) → HasDistinctFields pairs → AreShortPairs pairs → IsLeftBy key (hash_left reply key pairs)
  hash_can reply pairs distinct short = by_fit (fits_hash key pairs) refl
    where
      by_fit : (b : Bool) → fits_hash key pairs ≡ b → IsLeftBy key (cond b (left reply (hash_of pairs)) (refused TooLong))
      by_fit true fits = (made_can key pairs (record { distinct = distinct; request = hash_is key short_key pairs short fits }), tt)
      by_fit false too_long = tt

  -- one field gets a value
  field_can : (reply : Reply) (field value : List ℕ) (pairs : Pairs) → IsShort field → IsShort value → HasDistinctFields pairs → AreShortPairs pairs → IsLeftBy key (hash_left reply key (field_changed pairs field (Some value)))
  field_can reply field value pairs short_field short_value distinct short =
      hash_can reply (field_changed pairs field (Some value)) (distinct-changed pairs field (Some value) distinct) (set_short pairs field value short_field short_value short)

  hset_can : (sets : Pairs) → AreShortPairs sets → (old : Option Pairs) → HasMade key old → IsLeftBy key (on_fields old (hset_of key sets))
  hset_can sets short None made = tt
  hset_can sets short (Some pairs) made = hash_can _ _ (sets_distinct sets pairs made.0) (sets_short sets pairs short made.1)

  hsetnx_can : (field value : List ℕ) → IsShort field → IsShort value → (old : Option Pairs) → HasMade key old → IsLeftBy key (on_fields old (hsetnx_of key field value))
  hsetnx_can field value short_field short_value None made = tt
  hsetnx_can field value short_field short_value (Some pairs) made = by_value (is_some (value_of pairs field))
    where
      by_value : (b : Bool) → IsLeftBy key (cond b (told (Integer (pos 0))) (hash_left (Integer (pos 1)) key (field_changed pairs field (Some value))))
      by_value true = tt
      by_value false = field_can _ field value pairs short_field short_value made.0 made.1

  hincrby_can : (field : List ℕ) → IsShort field → (old : Option Pairs) → HasMade key old → (n : Result ℤ ErrorLine) → HasShortText n → IsLeftBy key (field_left key field (known old) n)
  hincrby_can field short_field old made (Err fault) text = tt
  hincrby_can field short_field None made (Ok n) text = field_can _ field (signed_decimal n) [] short_field (omega (arith, text)) no_fields tt
  hincrby_can field short_field (Some pairs) made (Ok n) text = field_can _ field (signed_decimal n) pairs short_field (omega (arith, text)) made.0 made.1

-- fields are removed
hdel_can : (key : List ℕ) → IsShort key → (names : List (List ℕ)) (old : Option Value) → IsLeft key old → IsLeftBy key (on_fields (fields_of old) (hdel_of names))
hdel_can key short names None is = (made_can key _ (removals_made names key [] (record { distinct = no_fields; request = two_words (codes "HSET") key (omega arith) short })), tt)
hdel_can key short names (Some (Str bytes)) is = tt
hdel_can key short names (Some (Hash pairs)) is = (made_can key _ (removals_made names key pairs (record { distinct = is.0.1; request = is.1 })), tt)

-- ---- any command

strings_can : (pairs : List (List ℕ × List ℕ)) → AreStrings pairs → AreLeft (pair_keys pairs) (strings_left pairs)
strings_can [] are = tt
strings_can (pair ∷ pairs) are = (string_can pair.0 pair.1 are.0, strings_can pairs are.1)

removed_can : (keys : List (List ℕ)) → AreLeft keys (all_removed keys)
removed_can [] = tt
removed_can (key ∷ keys) = (tt, removed_can keys)

effect_can : (command : DataCommand) (keyspace : Keyspace) → HasShort command → CanBeMade keyspace → AreLeft (data_keys command) (effect_in keyspace command).leaves
effect_can (Set key value condition) keyspace short can = set_can key value short (holds condition (fin_map.get keyspace key))
effect_can (Mset pairs) keyspace short can = strings_can pairs short
effect_can (Setnx key value) keyspace short can = setnx_can key value short (fin_map.get keyspace key)
effect_can (Getset key value) keyspace short can = getset_can key value short (fin_map.get keyspace key)
effect_can (Getdel key) keyspace short can = getdel_can key (fin_map.get keyspace key)
effect_can (Append key value) keyspace short can = append_can key short value (string_of (fin_map.get keyspace key))
effect_can (Incr key) keyspace short can = number_can key short _ (sum_short (Some (pos 1)) (number_at (fin_map.get keyspace key)))
effect_can (Decr key) keyspace short can = number_can key short _ (sum_short (Some (neg_ℤ (pos 1))) (number_at (fin_map.get keyspace key)))
effect_can (Incrby key increment) keyspace short can = number_can key short _ (sum_short (number_of increment) (number_at (fin_map.get keyspace key)))
effect_can (Del keys) keyspace short can = removed_can keys
effect_can (Hset key pairs) keyspace short can = hset_can key short.0 pairs short.1 _ (fields_made key (fin_map.get keyspace key) (can key))
effect_can (Hsetnx key field value) keyspace short can = hsetnx_can key short.0 field value short.1 short.2 _ (fields_made key (fin_map.get keyspace key) (can key))
effect_can (Hdel key names) keyspace short can = hdel_can key short names (fin_map.get keyspace key) (can key)
effect_can (Hincrby key field increment) keyspace short can =
    hincrby_can key short.0 field short.1 _ (fields_made key (fin_map.get keyspace key) (can key)) _ (sum_short (number_of increment) (field_number field (fields_of (fin_map.get keyspace key))))
effect_can command keyspace short can = tt

-- ---- requests

executed_can : (keyspace : Keyspace) (read : Result Command CommandFault) → HasShortWords read → CanBeMade keyspace → CanBeMade (execution_of keyspace read).after
executed_can keyspace (Ok (Data command)) short can = left_can (data_keys command) _ keyspace can (effect_can command keyspace short can)
executed_can keyspace (Ok (Cluster command)) short can = can
executed_can keyspace (Err fault) short can = can

pub replayed_can : (requests : List (List (List ℕ))) (keyspace : Keyspace) → All IsRequest requests → CanBeMade keyspace → CanBeMade (replay_from keyspace requests).last
replayed_can [] keyspace are can = can
replayed_can (words ∷ requests) keyspace are can =
    let request : IsRequest words = All-head IsRequest words requests are in
    replayed_can requests (exec_words keyspace words).after (All-tail IsRequest words requests are)
    (executed_can keyspace (command_of words) (words_short words request) can)

pub none_can : CanBeMade fin_map.empty
none_can key = subst (IsLeft key) (sym (fin_map.get-empty (slice_cmp nat_cmp) key)) tt
