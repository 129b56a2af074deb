-- Reading requests from the front of a list, with what the bytes so far decide (ours). It ties the code to specs/Stream.antt:
-- no public clause speaks of it.
use Rattle.std.specs.Prelude.{◌==◌, nat_lt, if◌then◌else◌, zero, suc, ℕ, List, [], ◌∷◌, ◌++◌, length, take, drop}
use Rattle.resp_header.specs.declared.fault.Fault.TheVariants.{Protocol, TooLong}
use Rattle.resp_header.specs.Reading.{Seen, Wants, Bad, Found, and_then, after_cr, header_at, header_onto}
use Rattle.resp_values.specs.Limits.{most_words, most_word_bytes, most_request_bytes}

-- ---- spellings with what follows them

-- a bulk string, and the rest
abbrev pub bulk_onto : List ℕ → List ℕ → List ℕ
bulk_onto word rest = header_onto 36 (length word) (word ++ (13 ∷ 10 ∷ rest))

-- bulk strings, and the rest
abbrev pub bulks_onto : List (List ℕ) → List ℕ → List ℕ
bulks_onto [] rest = rest
bulks_onto (word ∷ words) rest = bulk_onto word (bulks_onto words rest)

-- a request, and the rest
abbrev pub request_onto : List (List ℕ) → List ℕ → List ℕ
request_onto words rest = header_onto 42 (length words) (bulks_onto words rest)

-- ---- what the bytes so far decide

-- at the end of a word
abbrev pub line_end_at : {X : Type 0} → X → List ℕ → Seen X
line_end_at x [] = Wants
line_end_at x (b ∷ bs) = if b == 13 then after_cr x bs else Bad Protocol

-- the word's bytes and the end of its line
abbrev pub body_at : ℕ → List ℕ → Seen (List ℕ)
body_at n bytes = if nat_lt (length bytes) n then Wants else line_end_at (take n bytes) (drop n bytes)

-- a bulk string of at most `limit` bytes
abbrev pub word_at : ℕ → List ℕ → Seen (List ℕ)
word_at limit bytes = and_then (header_at 36 TooLong 0 limit bytes) body_at

-- one more word in front of those that are found
abbrev pub with_word : List ℕ → Seen (List (List ℕ)) → Seen (List (List ℕ))
with_word word seen = and_then seen (λ words rest. Found (word ∷ words) rest)

-- so many bulk strings
abbrev pub words_at : ℕ → ℕ → List ℕ → Seen (List (List ℕ))
words_at limit zero bytes = Found [] bytes
words_at limit (suc k) bytes = and_then (word_at limit bytes) (λ word rest. with_word word (words_at limit k rest))

-- at most `most` of them, behind their count
abbrev pub request_at : ℕ → ℕ → List ℕ → Seen (List (List ℕ))
request_at most limit bytes = and_then (header_at 42 TooLong 0 most bytes) (words_at limit)

-- a request, however many bytes it has
abbrev pub reading_words : List ℕ → Seen (List (List ℕ))
reading_words bytes = request_at most_words most_word_bytes bytes

-- the bytes that are not too many for one request, and the one that is
abbrev pub within_size : List ℕ → List ℕ
within_size bytes = take most_request_bytes bytes

abbrev pub one_past_size : List ℕ → List ℕ
one_past_size bytes = take (suc most_request_bytes) bytes

-- the first byte that is too many is so, where it isn't worse
abbrev pub too_many : Seen (List (List ℕ)) → Seen (List (List ℕ))
too_many Wants = Bad TooLong
too_many (Bad fault) = Bad fault
too_many (Found words rest) = Bad TooLong

-- a request of which so many bytes decide this
abbrev pub sized : List ℕ → Seen (List (List ℕ)) → Seen (List (List ℕ))
sized bytes Wants = if nat_lt most_request_bytes (length bytes) then too_many (reading_words (one_past_size bytes)) else Wants
sized bytes (Bad fault) = Bad fault
sized bytes (Found words rest) = Found words (rest ++ drop most_request_bytes bytes)

-- a request within all limits
abbrev pub reading : List ℕ → Seen (List (List ℕ))
reading bytes = sized bytes (reading_words (within_size bytes))
