-- Requests as a client sends them (RESP protocol, "Sending commands to a Redis server": an array of bulk strings).
use Rattle.std.specs.Prelude.{◌<◌, ◌≤◌, ℕ, List, [], ◌∷◌, ◌++◌, length, decimal, All}
use Rattle.resp_values.specs.Limits.{most_words, most_word_bytes, most_request_bytes}

-- the end of a line
abbrev pub crlf : List ℕ
crlf = 13 ∷ 10 ∷ []

-- `<mark><number>\r\n`
abbrev pub header_spelling : ℕ → ℕ → List ℕ
header_spelling mark number = mark ∷ (decimal number ++ crlf)

-- a bulk string: `$<length>\r\n<bytes>\r\n`
abbrev pub bulk_spelling : List ℕ → List ℕ
bulk_spelling word = header_spelling 36 (length word) ++ word ++ crlf

-- bulk strings, one after another
abbrev pub bulks_spelling : List (List ℕ) → List ℕ
bulks_spelling [] = []
bulks_spelling (word ∷ words) = bulk_spelling word ++ bulks_spelling words

-- a request: `*<count>\r\n` and its words as bulk strings. One without words is `*0\r\n`
abbrev pub request_spelling : List (List ℕ) → List ℕ
request_spelling words = header_spelling 42 (length words) ++ bulks_spelling words

-- ---- limits, which are ours

-- there are not too many words, and none is too long
pub record WordsKeepLimits (words : List (List ℕ)) : Type 0 where
  pub few : length words ≤ most_words
  pub short : All (λ word. length word ≤ most_word_bytes) words

-- and their request doesn't have too many bytes
pub record KeepsLimits (words : List (List ℕ)) : Type 0 where
  pub each : WordsKeepLimits words
  pub all : length (request_spelling words) ≤ most_request_bytes

-- the words of a request that a server replies to
pub record IsRequest (words : List (List ℕ)) : Type 0 where
  pub some : 0 < length words
  pub limits : KeepsLimits words
