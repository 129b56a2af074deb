-- The pairs of a small hash in one block of bytes. No public clause needs it: clauses see the pairs.
use Rattle.std.specs.Prelude.{◌≡◌, ◌≤◌, ℕ, zero, suc, List, [], ◌∷◌, ◌++◌, length, take, drop, Option, None, Some}
use Rattle.std.specs.List.{AllByRecursion}
use Rattle.hash.specs.Pairs.{Pairs, Changes, field_changed, HasDistinctFields}
use Rattle.hash.specs.declared.packing.TheConstants.{MOST_IN_WORD}

-- a word: its length, then its bytes
abbrev pub word_packed : List ℕ → List ℕ
word_packed word = length word ∷ word

-- a field, then its value
abbrev pub pair_packed : List ℕ → List ℕ → List ℕ
pair_packed field value = word_packed field ++ word_packed value

-- the pairs, one behind another: each field, then its value
abbrev pub packed : Pairs → List ℕ
packed [] = []
packed (pair ∷ pairs) = word_packed pair.0 ++ (word_packed pair.1 ++ packed pairs)

-- the word that the bytes begin with
abbrev pub first_word : List ℕ → List ℕ
first_word [] = []
first_word (len ∷ bytes) = take len bytes

-- the bytes behind it
abbrev pub behind_word : List ℕ → List ℕ
behind_word [] = []
behind_word (len ∷ bytes) = drop len bytes

-- the first pairs of the bytes, so many at most
abbrev pub first_pairs : ℕ → List ℕ → Pairs
first_pairs zero bytes = []
first_pairs (suc most) [] = []
first_pairs (suc most) (len ∷ bytes) =
    (take len bytes, first_word (drop len bytes)) ∷ first_pairs most (behind_word (drop len bytes))

-- the pairs that lie packed in the bytes. No pair takes less than two bytes
unfoldable pub pairs_in : List ℕ → Pairs
pairs_in bytes = first_pairs (length bytes) bytes

-- the packed pairs with one field changed
abbrev pub repacked : List ℕ → List ℕ → Option (List ℕ) → List ℕ
repacked bytes field value = packed (field_changed (pairs_in bytes) field value)

-- the bytes are pairs, whole and with nothing behind them
pub record IsPacking (bytes : List ℕ) : Type 0 where
  pub whole : packed (pairs_in bytes) ≡ bytes

-- the length of the word fits its byte
abbrev pub IsShortWord : List ℕ → Type 0
IsShortWord word = length word ≤ MOST_IN_WORD

-- the same of a value, where there is one
abbrev pub IsShortValue : Option (List ℕ) → Type 0
IsShortValue None = Unit {0}
IsShortValue (Some value) = IsShortWord value

-- no field is too long to be packed, nor is a value
abbrev pub HaveShortWords : Pairs → Type 0
HaveShortWords pairs = AllByRecursion (λ pair. IsShortWord pair.0 × IsShortWord pair.1) pairs

-- the same of changes
abbrev pub SetShortWords : Changes → Type 0
SetShortWords changes = AllByRecursion (λ change. IsShortWord change.0 × IsShortValue change.1) changes

-- no change sets a field
abbrev pub RemoveOnly : Changes → Type 0
RemoveOnly changes = AllByRecursion (λ change. change.1 ≡ None) changes

-- the bytes are the packing of the pairs of a hash
pub record IsPacked (bytes : List ℕ) : Type 0 where
  pub packing : IsPacking bytes
  pub distinct : HasDistinctFields (pairs_in bytes)
  pub short : HaveShortWords (pairs_in bytes)

-- the changes that set each field to its value
abbrev pub each_set : Pairs → Changes
each_set [] = []
each_set (pair ∷ pairs) = (pair.0, Some pair.1) ∷ each_set pairs
