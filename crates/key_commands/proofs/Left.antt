-- What commands leave at their only key.
use Rattle.std.proofs.Common.{◌≡◌, ◌+◌, ◌-◌, ◌++◌, ◌≤◌, ℕ, ℤ, List, [], ◌∷◌, length, Bool, true, false, cond, nat_eq, pos, if◌then◌else◌, Option, Some, None, Ok, Err, refl, ap, sym, ◌∙◌, arith}
use Rattle.std.proofs.lemmas.Bool.{and_parts, leb-true}
use Rattle.std.specs.FinMap as map
use Rattle.std.specs.Cmp.Lexicographic.{pointwise}
use Rattle.std.specs.Fmt.{signed_decimal}
use Rattle.std.specs.Map.{remove_entry}
use Rattle.std.specs.Prelude.{is_some, nat_le}
use Rattle.command_table.specs.declared.error_line.ErrorLine.{ErrorLine}
use Rattle.command_table.specs.declared.error_line.ErrorLine.TheVariants.{HashNotAnInteger, TooLong}
use Rattle.hash.specs.Pairs.{Pairs, Changes, fields_changed, field_changed, value_of}
use Rattle.indexmap.specs.IndexMap.{insert_entry}
use Rattle.resp_values.specs.declared.words.TheConstants.{MOST_WORD_BYTES}
use Rattle.resp_values.specs.declared.reply.Reply.{Reply}
use Rattle.resp_values.specs.declared.reply.Reply.TheVariants.{Integer}
use Rattle.keyspace.specs.Effect.{error_reply, left, told}
use Rattle.keyspace.specs.Commands.{taken_at}
use Rattle.keyspace.specs.Hashes.{field_left, fields_of, hash_left, hdel_of, hsetnx_of, increased, on_fields, removals}
use Rattle.keyspace.specs.Rebuilding.{fits_request, rebuilding}
use Rattle.keyspace.specs.Strings.{append_of, fits_string, getdel_of, getset_of, is_hash, is_string, stored_number, string_left, string_of, string_reply, sum_of}
use Rattle.keyspace.specs.Keyspace.{Keyspace, appended, changed, fields_left, hash_of, with_appended, with_fields}
use Rattle.keyspace.specs.declared.value.Value.{Value}
use Rattle.keyspace.specs.declared.value.Value.TheVariants.{Str, Hash}

some_same : {A : Type 0} (a b : A) → Some a ≡ Some b → a ≡ b
some_same a b e = cc

-- bytes put behind a value leave the longer string
pub appended_to : (value : Option Value) (string bytes : List ℕ) → string_of value ≡ Some string → appended value bytes ≡ Str (string ++ bytes)
appended_to None string bytes is = ap (λ s. Str (s ++ bytes)) (some_same [] string is)
appended_to (Some (Str old)) string bytes is = ap (λ s. Str (s ++ bytes)) (some_same old string is)
appended_to (Some (Hash pairs)) string bytes is = absurd (cc)

-- a string that may be left fits in a word
pub fits_word : (key bytes : List ℕ) → fits_string key bytes ≡ true → length bytes ≤ MOST_WORD_BYTES
fits_word key bytes fits = leb-true _ _ (and_parts (nat_le (length bytes) MOST_WORD_BYTES) (fits_request (rebuilding key (Str bytes))) fits).0

module _ (before : Keyspace) (key string bytes : List ℕ) (is : string_of (map.get before key) ≡ Some string) where
  left_behind : (b : Bool) → fits_string key (string ++ bytes) ≡ b → taken_at before (key ∷ []) (append_of key bytes (string_of (map.get before key))) ≡ taken_at before (key ∷ []) (string_left (cond b (Some (string ++ bytes)) None))
  left_behind b fits = ap (λ s. taken_at before (key ∷ []) (append_of key bytes s)) is ∙ ap (λ b. taken_at before (key ∷ []) (string_left (cond b (Some (string ++ bytes)) None))) fits

  -- too many bytes behind a string are refused
  pub too_many_behind : fits_string key (string ++ bytes) ≡ false → record { reply = error_reply TooLong; after = before } ≡ taken_at before (key ∷ []) (append_of key bytes (string_of (map.get before key)))
  too_many_behind long = sym (left_behind false long)

  -- those that fit are put there
  pub fit_behind : fits_string key (string ++ bytes) ≡ true → (count : ℕ) → count ≡ length (string ++ bytes)
      → record { reply = Integer (pos count); after = with_appended before key bytes } ≡ taken_at before (key ∷ []) (append_of key bytes (string_of (map.get before key)))
  fit_behind fits count counted =
      let value = appended_to (map.get before key) string bytes is in
      (λ i. record { reply = Integer (pos (counted i)); after = map.insert before key (value i) }) ∙ sym (left_behind true fits)

-- changes of the fields at a key leave the hash of the changed fields
pub fields_left_of : (value : Option Value) (fields : Pairs) (changes : Changes) → fields_of value ≡ Some fields → fields_left value changes ≡ hash_of (fields_changed fields changes)
fields_left_of None fields changes is = ap (λ f. hash_of (fields_changed f changes)) (some_same [] fields is)
fields_left_of (Some (Hash pairs)) fields changes is = ap (λ f. hash_of (fields_changed f changes)) (some_same pairs fields is)
fields_left_of (Some (Str bytes)) fields changes is = absurd (cc)

-- GETSET refuses a hash
pub getset_hash : (value : List ℕ) (old : Option Value) → is_hash old ≡ true → getset_of value old ≡ told (string_reply old)
getset_hash value None is = absurd (cc)
getset_hash value (Some (Str bytes)) is = absurd (cc)
getset_hash value (Some (Hash pairs)) is = refl

-- and replies the string before, or null
pub getset_other : (value : List ℕ) (old : Option Value) → is_hash old ≡ false → getset_of value old ≡ left (string_reply old) (Some (Str value))
getset_other value None is = refl
getset_other value (Some (Str bytes)) is = refl
getset_other value (Some (Hash pairs)) is = absurd (cc)

-- GETDEL removes a string
pub getdel_string : (old : Option Value) → is_string old ≡ true → getdel_of old ≡ left (string_reply old) None
getdel_string None is = absurd (cc)
getdel_string (Some (Str bytes)) is = refl
getdel_string (Some (Hash pairs)) is = absurd (cc)

-- and nothing else
pub getdel_other : (old : Option Value) → is_string old ≡ false → getdel_of old ≡ told (string_reply old)
getdel_other None is = refl
getdel_other (Some (Str bytes)) is = absurd (cc)
getdel_other (Some (Hash pairs)) is = refl

-- a missing field is set
pub hsetnx_left : (before : Keyspace) (key field value : List ℕ) (fields : Pairs) → fields_of (map.get before key) ≡ Some fields → is_some (value_of fields field) ≡ false
    → taken_at before (key ∷ []) (hash_left (Integer (pos 1)) key (field_changed fields field (Some value))) ≡ taken_at before (key ∷ []) (on_fields (fields_of (map.get before key)) (hsetnx_of key field value))
hsetnx_left before key field value fields has missing =
    sym (ap (λ f. taken_at before (key ∷ []) (on_fields f (hsetnx_of key field value))) has
    ∙ ap (λ b. taken_at before (key ∷ []) (if b then told (Integer (pos 0)) else hash_left (Integer (pos 1)) key (field_changed fields field (Some value)))) missing)

-- fields are removed, and so many were there
pub hdel_left : (before : Keyspace) (key : List ℕ) (fields : List (List ℕ)) (pairs : Pairs) (changes : Changes) (count : ℕ) (reply : Reply) (after : Keyspace) → fields_of (map.get before key) ≡ Some pairs
    → fields_changed pairs changes ≡ fields_changed pairs (removals fields) → count + length (fields_changed pairs changes) ≡ length pairs → after ≡ with_fields before key changes → reply ≡ Integer (pos count)
    → record { reply = reply; after = after } ≡ taken_at before (key ∷ []) (on_fields (fields_of (map.get before key)) (hdel_of fields))
hdel_left before key fields pairs changes count reply after has same counted left told =
    let short = ap length same in
    let number : count ≡ length pairs - length (fields_changed pairs (removals fields)) = omega arith in
    let value = fields_left_of (map.get before key) pairs changes has ∙ ap hash_of same in
    (λ i. record { reply = (told ∙ ap (λ n. Integer (pos n)) number) i; after = (left ∙ ap (changed before key) value) i })
    ∙ sym (ap (λ f. taken_at before (key ∷ []) (on_fields f (hdel_of fields))) has)

-- a change adds one field at most
changed_one : (pairs : Pairs) (field : List ℕ) (value : Option (List ℕ)) → length (field_changed pairs field value) ≤ length pairs + 1
changed_one [] field None = omega arith
changed_one [] field (Some value) = omega arith
changed_one (pair ∷ pairs) field None =
    elim (pointwise nat_eq field pair.0) as (λ b. length (cond b pairs (pair ∷ remove_entry (pointwise nat_eq field) pairs)) ≤ length (pair ∷ pairs) + 1) [
      | true ↦ omega arith
      | false ↦ omega (arith, changed_one pairs field None)
    ]
changed_one (pair ∷ pairs) field (Some value) =
    elim (pointwise nat_eq field pair.0) as (λ b. length (cond b ((pair.0, value) ∷ pairs) (pair ∷ insert_entry (pointwise nat_eq) pairs field value)) ≤ length (pair ∷ pairs) + 1) [
      | true ↦ omega arith
      | false ↦ omega (arith, changed_one pairs field (Some value))
    ]

pub len_changed : (pairs : Pairs) (changes : Changes) → length (fields_changed pairs changes) ≤ length pairs + length changes
len_changed pairs [] = omega arith
len_changed pairs (change ∷ changes) = omega (arith, len_changed (field_changed pairs change.0 change.1) changes, changed_one pairs change.0 change.1)

-- the fields of a hash are increased
module _ (before : Keyspace) (key field : List ℕ) (increment : ℤ) (fields : Pairs) (has : fields_of (map.get before key) ≡ Some fields) where
  increase : increased key field (Some increment) (fields_of (map.get before key)) ≡ field_left key field fields (sum_of (Some increment) (stored_number HashNotAnInteger (value_of fields field)))
  increase = ap (increased key field (Some increment)) has

  -- there is a fault
  pub sum_refused : (fault : ErrorLine) → sum_of (Some increment) (stored_number HashNotAnInteger (value_of fields field)) ≡ Err fault
      → taken_at before (key ∷ []) (increased key field (Some increment) (fields_of (map.get before key))) ≡ record { reply = error_reply fault; after = before }
  sum_refused fault is = ap (taken_at before (key ∷ [])) (increase ∙ ap (field_left key field fields) is)

  -- or a sum
  pub sum_left : (sum : ℤ) → sum_of (Some increment) (stored_number HashNotAnInteger (value_of fields field)) ≡ Ok sum
      → taken_at before (key ∷ []) (increased key field (Some increment) (fields_of (map.get before key))) ≡ taken_at before (key ∷ []) (hash_left (Integer sum) key (field_changed fields field (Some (signed_decimal sum))))
  sum_left sum is = ap (taken_at before (key ∷ [])) (increase ∙ ap (field_left key field fields) is)
