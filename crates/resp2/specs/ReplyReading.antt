-- Reading replies from the front of a list, with what the bytes so far decide (ours). It ties the code to the definitions: no public
-- clause speaks of it.
use Rattle.std.specs.Prelude.{◌-◌, ◌^◌, ◌==◌, if◌then◌else◌, zero, suc, ℕ, ℤ, pos, negsuc, List, [], ◌∷◌}
use Rattle.std.specs.List.{flat_map}
use Rattle.resp_values.specs.declared.array.Element.{Element}
use Rattle.resp_values.specs.declared.array.Element.TheVariants as element
use Rattle.resp_header.specs.declared.fault.Fault.TheVariants.{Protocol}
use Rattle.resp_header.specs.Reading.{Seen, Wants, Bad, Found, and_then, after_cr, number_at}
use Rattle.resp2.specs.Reading.{body_at}

-- counts and lengths are at most this
abbrev pub most_number : ℕ
most_number = 4294967295

-- what is found, as another value
abbrev pub as_found : {X Y : Type 0} → (X → Y) → Seen X → Seen Y
as_found f seen = and_then seen (λ x rest. Found (f x) rest)

-- a mark, and what is read behind it
abbrev pub marked : {X : Type 0} → ℕ → (List ℕ → Seen X) → List ℕ → Seen X
marked mark read [] = Wants
marked mark read (b ∷ bs) = if b == mark then read bs else Bad Protocol

-- what is read behind the mark, or something else where another one stands
abbrev pub or_else : {X : Type 0} → ℕ → (List ℕ → Seen X) → (List ℕ → Seen X) → List ℕ → Seen X
or_else mark read other [] = Wants
or_else mark read other (b ∷ bs) = if b == mark then read bs else other (b ∷ bs)

-- so many values
abbrev pub times : {X : Type 0} → (List ℕ → Seen X) → ℕ → List ℕ → Seen (List X)
times read zero bytes = Found [] bytes
times read (suc count) bytes = and_then (read bytes) (λ x rest. as_found (λ xs. x ∷ xs) (times read count rest))

-- ---- lines

-- a text up to the end of its line
abbrev pub text_at : List ℕ → Seen (List ℕ)
text_at [] = Wants
text_at (b ∷ bs) = if b == 13 then after_cr [] bs else (if b == 10 then Bad Protocol else as_found (λ text. b ∷ text) (text_at bs))

-- a number of 64 bits with its sign, up to the end of its line
abbrev pub integer_at : List ℕ → Seen ℤ
integer_at bytes =
    or_else 45 (λ rest. as_found (λ n. negsuc (n - 1)) (number_at Protocol 1 (2 ^ 63) rest))
    (λ rest. as_found pos (number_at Protocol 0 (2 ^ 63 - 1) rest)) bytes

-- ---- elements that hold no others

abbrev pub simple_at : List ℕ → Seen (List Element)
simple_at bytes = as_found (λ text. element.Simple text ∷ []) (text_at bytes)

abbrev pub error_at : List ℕ → Seen (List Element)
error_at bytes = as_found (λ text. element.Error text ∷ []) (text_at bytes)

abbrev pub number_element_at : List ℕ → Seen (List Element)
number_element_at bytes = as_found (λ number. element.Integer number ∷ []) (integer_at bytes)

-- so many bytes of a bulk string, and the end of its line
abbrev pub bytes_of : ℕ → List ℕ → Seen (List Element)
bytes_of n bytes = as_found (λ word. element.Bulk word ∷ []) (body_at n bytes)

-- the bytes of a bulk string behind its mark
abbrev pub bytes_at : List ℕ → Seen (List Element)
bytes_at bytes = and_then (number_at Protocol 0 most_number bytes) bytes_of

abbrev pub line_feed_at : List ℕ → Seen (List Element)
line_feed_at bytes = marked 10 (λ rest. Found (element.Null ∷ []) rest) bytes

-- `1\r\n` behind `$-`
abbrev pub null_at : List ℕ → Seen (List Element)
null_at bytes = marked 49 (marked 13 line_feed_at) bytes

abbrev pub bulk_or_null_at : List ℕ → Seen (List Element)
bulk_or_null_at bytes = or_else 45 null_at bytes_at bytes

-- ---- replies

-- one that is no array
abbrev pub leaf_at : List ℕ → Seen (List Element)
leaf_at bytes = or_else 43 simple_at (or_else 45 error_at (or_else 58 number_element_at (marked 36 bulk_or_null_at))) bytes

-- the elements of so many replies behind their number
abbrev pub array_by : (List ℕ → Seen (List Element)) → List ℕ → Seen (List Element)
array_by reply bytes =
    and_then (number_at Protocol 0 most_number bytes) (λ n rest. as_found (λ parts. element.Array n ∷ flat_map (λ part. part) parts) (times reply n rest))

-- a reply in which arrays nest so deep at most
abbrev pub reply_at : ℕ → List ℕ → Seen (List Element)
reply_at zero bytes = leaf_at bytes
reply_at (suc depth) bytes = or_else 42 (array_by (reply_at depth)) leaf_at bytes
