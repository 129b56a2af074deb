-- Numbers in words (Redis command reference, INCR: a string is read as a number in base ten, of 64 bits with a sign).
use Rattle.std.specs.Prelude.{ℕ, ◌-◌, ◌^◌, ℤ, pos, negsuc, neg_ℤ, int_le, int_lt, nat_le, Bool, ◌&&◌, if◌then◌else◌, List, Option, Some, None, option_and_then}
use Rattle.std.specs.Fmt.{signed_decimal}
use Rattle.std.specs.Str.{bytes_eq}
use Rattle.std.specs.Str.Parse.{signed_digits_value}

-- the number is one of 64 bits with a sign
abbrev pub fits : ℤ → Bool
fits n = int_le (neg_ℤ (pos (2 ^ 63))) n && int_lt n (pos (2 ^ 63))

-- the text is the decimal text of the number, and the number fits; so it has no plus, no leading zero, and is no `-0`
abbrev pub is_text_of : List ℕ → ℤ → Bool
is_text_of text n = fits n && bytes_eq text (signed_decimal n)

-- the number whose text this is; the digits tell which one it can be
unfoldable pub number_of : List ℕ → Option ℤ
number_of text = let n = signed_digits_value 10 text in if is_text_of text n then Some n else None

-- the number where it is not below 0
abbrev pub natural : ℤ → Option ℕ
natural (pos n) = Some n
natural (negsuc n) = None

-- the number where it is from the least to the greatest
abbrev pub from_to : ℕ → ℕ → ℕ → Option ℕ
from_to least greatest n = if nat_le least n && nat_le n greatest then Some n else None

-- the number of at least 0 whose text this is
abbrev pub count_of : List ℕ → Option ℕ
count_of text = option_and_then natural (number_of text)

-- the number of at least 1 whose text this is
abbrev pub positive_of : List ℕ → Option ℕ
positive_of text = option_and_then (from_to 1 (2 ^ 63 - 1)) (count_of text)
