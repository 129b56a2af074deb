-- Replies as a server sends them (RESP protocol, "RESP protocol description").
use Rattle.std.specs.Prelude.{ℕ, ℤ, max, List, [], ◌∷◌, ◌++◌, length, Bool, true}
use Rattle.std.specs.Fmt.{signed_decimal}
use Rattle.std.specs.List.{flat_map}
use Rattle.resp_values.specs.Array.{is_array, depth_of}
use Rattle.resp_values.specs.Request.{crlf, header_spelling, bulk_spelling}
use Rattle.resp_values.specs.declared.array.Element.{Element}
use Rattle.resp_values.specs.declared.array.Element.TheVariants as element
use Rattle.resp_values.specs.declared.reply.Reply.{Reply}
use Rattle.resp_values.specs.declared.reply.Reply.TheVariants.{Simple, Error, Integer, Bulk, Null, Array}

-- `+<text>\r\n` and `-<text>\r\n`
abbrev pub line_spelling : ℕ → List ℕ → List ℕ
line_spelling mark text = mark ∷ (text ++ crlf)

-- `:<number>\r\n`
abbrev pub integer_spelling : ℤ → List ℕ
integer_spelling number = 58 ∷ (signed_decimal number ++ crlf)

-- `$-1\r\n`: no bytes
abbrev pub null_spelling : List ℕ
null_spelling = 36 ∷ 45 ∷ 49 ∷ crlf

-- an element of an array; one that is an array itself is its header `*<number of elements>\r\n`, before its elements
abbrev pub element_spelling : Element → List ℕ
element_spelling (element.Simple text) = line_spelling 43 text
element_spelling (element.Error text) = line_spelling 45 text
element_spelling (element.Integer number) = integer_spelling number
element_spelling (element.Bulk bytes) = bulk_spelling bytes
element_spelling element.Null = null_spelling
element_spelling (element.Array len) = header_spelling 42 len

-- the six kinds of a reply
abbrev pub reply_spelling : Reply → List ℕ
reply_spelling (Simple text) = line_spelling 43 text
reply_spelling (Error text) = line_spelling 45 text
reply_spelling (Integer number) = integer_spelling number
reply_spelling (Bulk bytes) = bulk_spelling bytes
reply_spelling Null = null_spelling
reply_spelling (Array elements) = flat_map element_spelling elements

-- a reply as it stands in an array
abbrev pub elements_of : Reply → List Element
elements_of (Simple text) = element.Simple text ∷ []
elements_of (Error text) = element.Error text ∷ []
elements_of (Integer number) = element.Integer number ∷ []
elements_of (Bulk bytes) = element.Bulk bytes ∷ []
elements_of Null = element.Null ∷ []
elements_of (Array elements) = elements

-- the array of these replies
abbrev pub array_of : List Reply → List Element
array_of replies = element.Array (length replies) ∷ flat_map elements_of replies

-- what a reply holds as an array is one
abbrev pub is_reply : Reply → Bool
is_reply (Simple _) = true
is_reply (Error _) = true
is_reply (Integer _) = true
is_reply (Bulk _) = true
is_reply Null = true
is_reply (Array elements) = is_array elements

-- how deep arrays nest in the deepest of these replies
abbrev pub greatest_depth : List Reply → ℕ
greatest_depth [] = 0
greatest_depth (reply ∷ replies) = max (depth_of (elements_of reply)) (greatest_depth replies)
