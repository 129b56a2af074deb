-- How far a reader is: what it took from the front of its input, and what a step takes more (ours). No public clause needs it.
use Rattle.std.specs.Prelude.{◌≡◌, ◌≢◌, ◌≤◌, ◌+◌, ℕ, Bool, true, false, List, [], ◌∷◌, ◌++◌, length, All, IfSome, IfNone, IfErr, Option, None, Some, Result, Ok, Err}
use Rattle.bytes.specs.Filled.{Filled}
use Rattle.resp_header.specs.declared.fault.Fault.{Fault}
use Rattle.resp_header.specs.declared.fault.Fault.TheVariants.{Memory}
use Rattle.resp_values.specs.Limits.{most_words, most_word_bytes, most_request_bytes}
use Rattle.resp2.specs.declared.words.Partial.{Partial}
use Rattle.resp2.specs.declared.reader.Progress.{Progress}
use Rattle.resp2.specs.declared.reader.Progress.TheVariants.{Between, Reading, Broken}
use Rattle.resp_header.specs.Reading.{Seen, Wants, Bad, Found, header_onto}
use Rattle.resp2.specs.Reading.{too_many, bulks_onto, reading_words, word_at}

-- ---- what a step answers

-- memory may be refused at any time, a fault of the bytes is where they have it
abbrev pub Refuses : {X : Type 0} → Fault → Seen X → Type 0
Refuses fault seen = (fault ≡ Memory → ⊥) → seen ≡ Bad fault

-- an error of the call is one of these
abbrev pub FailsFor : {X Y : Type 0} → Result X Fault → Seen Y → Type 0
FailsFor result seen = IfErr result (λ fault. Refuses fault seen)

-- the bytes have a fault
abbrev pub HasFault : {X : Type 0} → Seen X → Type 0
HasFault seen = (fault : Fault) × (fault ≢ Memory) × (seen ≡ Bad fault)

-- the answer is what the bytes decide, and `rest` is what is left of them
abbrev pub Takes : {X : Type 0} → Result (Option X) Fault → Seen X → List ℕ → Type 0
Takes (Ok None) seen rest = seen ≡ Wants
Takes (Ok (Some x)) seen rest = seen ≡ Found x rest
Takes (Err fault) seen rest = Refuses fault seen

-- the answer says whether a word was taken, which then stands behind the others
abbrev pub TakesWord : Result Bool Fault → Seen (List ℕ) → List (List ℕ) → List (List ℕ) → List ℕ → Type 0
TakesWord (Ok true) seen old new rest = (word : List ℕ) × (seen ≡ Found word rest) × (new ≡ old ++ word ∷ [])
TakesWord (Ok false) seen old new rest = (seen ≡ Wants) × (new ≡ old)
TakesWord (Err fault) seen old new rest = Refuses fault seen × (new ≡ old)

-- the answer says whether all words of the request were taken, which are then these
abbrev pub TakesAll : Result Bool Fault → Seen (List (List ℕ)) → List (List ℕ) → List ℕ → Type 0
TakesAll (Ok true) seen words rest = seen ≡ Found words rest
TakesAll (Ok false) seen words rest = seen ≡ Wants
TakesAll (Err fault) seen words rest = Refuses fault seen

-- ---- what was read stands again in front of what is left

-- a word's length that was read
abbrev pub word_front : Option ℕ → List ℕ → List ℕ
word_front None input = input
word_front (Some len) input = header_onto 36 len input

-- the same bytes are in front
abbrev pub SameFront : Option ℕ → Filled → Option ℕ → Filled → Type 0
SameFront old input new left = word_front new left.items ≡ word_front old input.items

-- what the bytes decide of the word ahead
abbrev pub word_ahead : Option ℕ → List ℕ → Seen (List ℕ)
word_ahead len input = word_at most_word_bytes (word_front len input)

-- the count of a request's words, and those that were read
abbrev pub partial_onto : Partial → List ℕ → List ℕ
partial_onto partial input =
    header_onto 42 (length partial.words.items + partial.left) (bulks_onto partial.words.items (word_front partial.len input))

-- a request, where one was begun
abbrev pub request_front : Option Partial → List ℕ → List ℕ
request_front None input = input
request_front (Some partial) input = partial_onto partial input

-- what was read of a request
abbrev pub partial_of : Progress → Option Partial
partial_of Between = None
partial_of (Reading partial) = Some partial
partial_of (Broken _ partial) = partial

-- its words
abbrev pub words_of : Progress → List (List ℕ)
words_of Between = []
words_of (Reading partial) = partial.words.items
words_of (Broken _ _) = []

-- all bytes that were not handed out
abbrev pub pending_of : Progress → List ℕ → List ℕ
pending_of progress input = request_front (partial_of progress) input

-- the bytes that were not handed out are the same
abbrev pub SamePending : Progress → Filled → Progress → Filled → Type 0
SamePending old input new left = pending_of new left.items ≡ pending_of old input.items

-- what the bytes decide of the request ahead
abbrev pub request_ahead : Progress → List ℕ → Seen (List (List ℕ))
request_ahead progress input = reading_words (pending_of progress input)

-- what is wrong with them
abbrev pub fault_of : Progress → Option Fault
fault_of Between = None
fault_of (Reading _) = None
fault_of (Broken fault _) = Some fault

-- ---- what holds of it

-- a length that was read keeps the limit
abbrev pub HasLen : Option ℕ → Type 0
HasLen len = IfSome len (λ number. number ≤ most_word_bytes)

-- what was read of a request keeps the limits
pub record IsPartial (partial : Partial) : Type 0 where
  pub few : length partial.words.items + partial.left ≤ most_words
  pub short : All (λ word. length word ≤ most_word_bytes) partial.words.items
  pub sized : HasLen partial.len
  pub idle : partial.left ≡ 0 → partial.len ≡ None

-- the same of a request that is being read
abbrev pub IsProgress : Progress → Type 0
IsProgress Between = Unit {0}
IsProgress (Reading partial) = IsPartial partial
IsProgress (Broken _ _) = Unit {0}

-- a request is being read, and no word of it is to come
abbrev pub IsWhole : Progress → Type 0
IsWhole Between = ⊥
IsWhole (Reading partial) = partial.left ≡ 0
IsWhole (Broken _ _) = ⊥

-- so many bytes of what is pending were consumed: one more than a request may have, at most
pub record IsCounted (consumed : ℕ) (progress : Progress) (input : List ℕ) : Type 0 where
  pub counted : consumed + length input ≡ length (pending_of progress input)
  pub few : consumed ≤ most_request_bytes + 1

-- that is known until a bad byte is found
abbrev pub IsCountedOrBroken : ℕ → Progress → List ℕ → Type 0
IsCountedOrBroken consumed progress input = IfNone (fault_of progress) (IsCounted consumed progress input)

-- memory was refused, or this is wrong with bytes that are as many as a request may have and one more
abbrev pub FaultOfFront : Fault → Seen (List (List ℕ)) → Type 0
FaultOfFront fault seen = (fault ≡ Memory → ⊥) → too_many seen ≡ Bad fault

-- a request was begun, or this holds
abbrev pub BeginsOr : Progress → Type 0 → Type 0
BeginsOr (Reading _) P = Unit {0}
BeginsOr Between P = P
BeginsOr (Broken _ _) P = P
