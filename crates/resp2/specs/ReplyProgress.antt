-- How far a reader of replies is, and what its steps say of the bytes (ours). No public clause needs it.
use Rattle.std.specs.Prelude.{◌≡◌, ◌≢◌, ◌≤◌, ◌<◌, ◌-◌, ◌==◌, ℕ, ℤ, Bool, true, false, List, [], ◌∷◌, ◌++◌, length, take, drop, IsTrue, IfSome, Option, None, Some, Result, Ok, Err, suc}
use Rattle.std.specs.List.{flat_map}
use Rattle.bytes.specs.Filled.{Filled}
use Rattle.resp_values.specs.Line.{is_one_line, is_text_byte}
use Rattle.resp2.specs.Progress.{Refuses, word_front}
use Rattle.resp_header.specs.Reading.{Seen, Wants, Bad, Found, and_then}
use Rattle.resp_values.specs.Reply.{element_spelling, elements_of}
use Rattle.resp2.specs.ReplyReading.{as_found, times, reply_at}
use Rattle.resp_values.specs.declared.array.Element.{Element}
use Rattle.resp_values.specs.declared.array.Element.TheVariants.{Array}
use Rattle.resp2.specs.declared.array_part.ArrayPart.{ArrayPart}
use Rattle.resp_header.specs.declared.fault.Fault.{Fault}
use Rattle.resp_header.specs.declared.fault.Fault.TheVariants.{Protocol, TooLong, Memory}
use Rattle.resp2.specs.declared.leaf.Begun.{Begun}
use Rattle.resp2.specs.declared.leaf.Integer.{Integer}
use Rattle.resp_values.specs.declared.reply.Reply.{Reply}
use Rattle.resp2.specs.Limits.{most_depth, most_count}

-- ---- what a step answers

-- an integer that was found, its length counted in these bytes
abbrev pub GivesInteger : List ℕ → Result (Option Integer) Fault → Seen ℤ → Type 0
GivesInteger bytes (Ok None) seen = seen ≡ Wants
GivesInteger bytes (Ok (Some integer)) seen = (seen ≡ Found integer.number (drop integer.len bytes)) × (integer.len ≤ length bytes)
GivesInteger bytes (Err fault) seen = seen ≡ Bad fault

-- no text goes on here
abbrev pub StopsText : List ℕ → Type 0
StopsText [] = Unit {0}
StopsText (b ∷ bs) = is_text_byte b ≡ false

-- the answer is what the bytes decide: an element, and `rest` is what is left of them
abbrev pub TakesElement : Result (Option Element) Fault → Seen (List Element) → List ℕ → Type 0
TakesElement (Ok None) seen rest = seen ≡ Wants
TakesElement (Ok (Some element)) seen rest = seen ≡ Found (element ∷ []) rest
TakesElement (Err fault) seen rest = Refuses fault seen

-- a reply, and `rest` is what is left of them
abbrev pub TakesReply : Result (Option Reply) Fault → Seen (List Element) → List ℕ → Type 0
TakesReply (Ok None) seen rest = seen ≡ Wants
TakesReply (Ok (Some reply)) seen rest = seen ≡ Found (elements_of reply) rest
TakesReply (Err fault) seen rest = Refuses fault seen

-- a fault of the bytes lasts
abbrev pub is_lasting : Fault → Bool
is_lasting Protocol = true
is_lasting TooLong = true
is_lasting Memory = false

-- ---- what was read of the element in front

-- a length that was read stands again in front of what is left
abbrev pub element_front : Begun → List ℕ → List ℕ
element_front begun input = word_front begun.len input

-- fewer bytes are in front
abbrev pub FewerBytes : Begun → Filled → Begun → Filled → Type 0
FewerBytes old input new left = length (element_front new left.items) < length (element_front old input.items)

-- a length keeps the limit, and the bytes that were looked at are the mark and a text
pub record IsBegun (begun : Begun) (input : List ℕ) : Type 0 where
  pub short : IfSome begun.len (λ len. len ≤ most_count)
  pub within : begun.scanned ≤ length input
  pub text : IsTrue (is_one_line (drop 1 (take begun.scanned input)))

-- the bytes begin with an array's mark
abbrev pub begins_array : List ℕ → Bool
begins_array [] = false
begins_array (b ∷ bs) = b == 42

-- an array is in front
abbrev pub BeginsArray : Begun → List ℕ → Type 0
BeginsArray begun input = IsTrue (begins_array (element_front begun input))

-- ---- what was read of an array

-- the other way round
abbrev pub backwards : List ℕ → List ℕ
backwards [] = []
backwards (n ∷ ns) = backwards ns ++ n ∷ []

-- the replies that are still to come in arrays within arrays, the innermost first
abbrev pub rest_in : ℕ → List ℕ → List ℕ → Seen (List Element)
rest_in depth [] bytes = Found [] bytes
rest_in depth (n ∷ ns) bytes =
    and_then (times (reply_at depth) n bytes) (λ parts rest. as_found (λ others. flat_map (λ part. part) parts ++ others) (rest_in (suc depth) ns rest))

-- those of this array and of the arrays around it
abbrev pub to_come : ℕ → List ℕ → List ℕ → Seen (List Element)
to_come left outer bytes = rest_in (most_depth - 1 - length outer) (left ∷ backwards outer) bytes

-- the reply of which these elements were taken
abbrev pub reading_on : List Element → ℕ → List ℕ → List ℕ → Seen (List Element)
reading_on [] left outer bytes = reply_at most_depth bytes
reading_on (element ∷ elements) left outer bytes = as_found (λ others. (element ∷ elements) ++ others) (to_come left outer bytes)

-- what was taken, and what is left
abbrev pub array_front : List Element → List ℕ → List ℕ
array_front elements bytes = flat_map element_spelling elements ++ bytes

-- all bytes that were not handed out
abbrev pub part_front : ArrayPart → Begun → List ℕ → List ℕ
part_front part begun input = array_front part.elements.items (element_front begun input)

-- the bytes that were not handed out are the same
abbrev pub SamePart : ArrayPart → Begun → Filled → ArrayPart → Begun → Filled → Type 0
SamePart old front input new begun left = part_front new begun left.items ≡ part_front old front input.items

-- what the bytes decide of the reply ahead
abbrev pub reply_ahead : ArrayPart → Begun → List ℕ → Seen (List Element)
reply_ahead part begun input = reply_at most_depth (part_front part begun input)

-- what they decide of the elements that are to come of its array
abbrev pub rest_ahead : ArrayPart → Begun → List ℕ → Seen (List Element)
rest_ahead part begun input = to_come part.left part.outer.items (element_front begun input)

-- no reply of the array is to come
abbrev pub HasEnded : ArrayPart → Type 0
HasEnded part = (part.left ≡ 0) × (part.outer.items ≡ [])

-- the first element is a header, where there is one
abbrev pub HasHeader : List Element → Type 0
HasHeader [] = Unit {0}
HasHeader (Array len ∷ elements) = Unit {0}
HasHeader (_ ∷ elements) = ⊥

-- arrays don't nest too deep, and what is to come of them decides the reply
pub record ArePart (elements : List Element) (left : ℕ) (outer : List ℕ) : Type 0 where
  pub shallow : length outer < most_depth
  pub idle : elements ≡ [] → outer ≡ []
  pub header : HasHeader elements
  pub goes_on : (bytes : List ℕ) → reply_at most_depth (array_front elements bytes) ≡ reading_on elements left outer bytes

abbrev pub IsArrayPart : ArrayPart → Type 0
IsArrayPart part = ArePart part.elements.items part.left part.outer.items

-- the same, with what was read of the next element, if one is to come
pub record IsReading (taken : ArrayPart) (front : Begun) (input : List ℕ) : Type 0 where
  pub part : IsArrayPart taken
  pub begun : IsBegun front input
  pub fits : taken.elements.items ≢ [] → taken.left ≡ 0 → front.len ≡ None
