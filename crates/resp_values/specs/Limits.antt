-- The limits of a request, which are ours.
use Rattle.std.specs.Prelude.{ℕ}

-- of its words
abbrev pub most_words : ℕ
most_words = 65536

-- of the bytes of a word: eight mebibytes
abbrev pub most_word_bytes : ℕ
most_word_bytes = 8388608

-- of all its bytes, with counts, lengths and line ends: sixteen mebibytes
abbrev pub most_request_bytes : ℕ
most_request_bytes = 16777216
