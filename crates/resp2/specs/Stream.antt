-- Requests one after another, as a client sends them: which bytes begin them, and which byte is the first that can't
-- (RESP protocol, "Sending commands to a Redis server"; the limits are ours).
use Rattle.std.specs.Prelude.{◌≡◌, ◌≢◌, ◌<◌, ◌≤◌, ◌+◌, ◌^◌, ℕ, List, [], ◌∷◌, ◌++◌, length, decimal, All, ◌⊎◌}
use Rattle.resp_header.specs.declared.fault.Fault.{Fault}
use Rattle.resp_header.specs.declared.fault.Fault.TheVariants.{Protocol, TooLong, Memory}
use Rattle.resp_values.specs.Limits.{most_words, most_word_bytes, most_request_bytes}
use Rattle.resp_values.specs.Request.{header_spelling, bulks_spelling, request_spelling, WordsKeepLimits, KeepsLimits}

-- what a client sends: requests, one after another
abbrev pub stream_spelling : List (List (List ℕ)) → List ℕ
stream_spelling [] = []
stream_spelling (words ∷ requests) = request_spelling words ++ stream_spelling requests

-- those with words: a server passes over one without, and replies nothing to it
abbrev pub with_words : List (List (List ℕ)) → List (List (List ℕ))
with_words [] = []
with_words ([] ∷ requests) = with_words requests
with_words ((word ∷ words) ∷ requests) = (word ∷ words) ∷ with_words requests

-- ---- beginnings

-- counts and lengths are numbers of 64 bits, whatever their limits (`decimal` writes 64 digits at most)
pub record HasNumbers (words : List (List ℕ)) : Type 0 where
  pub count : length words < 2 ^ 64
  pub lengths : All (λ word. length word < 2 ^ 64) words

-- more bytes may make a list of requests of these bytes, with any such numbers
pub record IsBeginning (bytes : List ℕ) : Type 0 where
  pub requests : List (List (List ℕ))
  pub rest : List ℕ
  pub numbers : All HasNumbers requests
  pub spelled : bytes ++ rest ≡ stream_spelling requests

-- the bytes end in the digit at which the count of a request's words passes its limit
pub record CountPasses (bytes : List ℕ) : Type 0 where
  pub requests : List (List (List ℕ))
  pub count : ℕ
  pub above : most_words < count
  pub spelled : bytes ≡ stream_spelling requests ++ 42 ∷ decimal count

-- in the digit at which the length of a word passes its limit
pub record LengthPasses (bytes : List ℕ) : Type 0 where
  pub requests : List (List (List ℕ))
  pub count : ℕ
  pub words : List (List ℕ)
  pub number : ℕ
  pub wanted : length words < count
  pub above : most_word_bytes < number
  pub spelled : bytes ≡ stream_spelling requests ++ header_spelling 42 count ++ bulks_spelling words ++ 36 ∷ decimal number

-- in the first byte that is too many for one request
pub record SizePasses (bytes : List ℕ) : Type 0 where
  pub requests : List (List (List ℕ))
  pub words : List (List ℕ)
  pub front : List ℕ
  pub rest : List ℕ
  pub one : front ++ rest ≡ request_spelling words
  pub above : length front ≡ most_request_bytes + 1
  pub spelled : bytes ≡ stream_spelling requests ++ front

abbrev pub PassesLimit : List ℕ → Type 0
PassesLimit bytes = CountPasses bytes ⊎ (LengthPasses bytes ⊎ SizePasses bytes)

-- the last of these bytes is bad, and this is what is wrong with it
abbrev pub IsBad : Fault → List ℕ → Type 0
IsBad Protocol bytes = ¬ IsBeginning bytes
IsBad TooLong bytes = IsBeginning bytes × PassesLimit bytes
IsBad Memory bytes = ⊥

-- the last byte of `front` is the first bad one
pub record HasFirstBadByte (fault : Fault) (bytes : List ℕ) : Type 0 where
  pub front : List ℕ
  pub rest : List ℕ
  pub split : bytes ≡ front ++ rest
  pub bad : IsBad fault front
  pub first : (shorter : List ℕ) (more : List ℕ) → front ≡ shorter ++ more → 0 < length more → IsBeginning shorter × ¬ PassesLimit shorter

-- no whole request stands in front of these bytes, and none without words
abbrev pub HasNoRequest : List ℕ → Type 0
HasNoRequest bytes = (words : List (List ℕ)) (rest : List ℕ) → KeepsLimits words → bytes ≢ request_spelling words ++ rest

-- more bytes, and at least one, make one request of these bytes, which are not too many for one
pub record IsUnfinished (bytes : List ℕ) : Type 0 where
  pub words : List (List ℕ)
  pub rest : List ℕ
  pub each : WordsKeepLimits words
  pub so_far : length bytes ≤ most_request_bytes
  pub wanted : 0 < length rest
  pub spelled : bytes ++ rest ≡ request_spelling words
