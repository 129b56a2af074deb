-- The definitions on worked values, by computation.
use Rattle.std.proofs.Common.{◌≡◌, List, refl, true, false, [], ◌∷◌}
use Rattle.std.specs.Prelude.{codes, pos, negsuc}
use Rattle.std.specs.Fmt.{digits}
use Rattle.resp_values.specs.Request.{request_spelling}
use Rattle.resp_values.specs.Array.{is_array}
use Rattle.resp_values.specs.Reply.{array_of, reply_spelling}
use Rattle.resp_values.specs.declared.array.Element.TheVariants as element
use Rattle.resp_values.specs.declared.reply.Reply.{Reply}
use Rattle.resp_values.specs.declared.reply.Reply.TheVariants.{Simple, Error, Integer, Bulk, Null, Array}

ping : request_spelling (codes "PING" ∷ []) ≡ codes "*1\r\n$4\r\nPING\r\n"
unfolding digits
ping = refl

set : request_spelling (codes "SET" ∷ codes "a" ∷ [] ∷ []) ≡ codes "*3\r\n$3\r\nSET\r\n$1\r\na\r\n$0\r\n\r\n"
unfolding digits
set = refl

simple : reply_spelling (Simple (codes "OK")) ≡ codes "+OK\r\n"
unfolding digits
simple = refl

error : reply_spelling (Error (codes "ERR unknown command")) ≡ codes "-ERR unknown command\r\n"
unfolding digits
error = refl

integer : reply_spelling (Integer (pos 132)) ≡ codes ":132\r\n"
unfolding digits
integer = refl

below_zero : reply_spelling (Integer (negsuc 4)) ≡ codes ":-5\r\n"
unfolding digits
below_zero = refl

bulk : reply_spelling (Bulk (codes "1")) ≡ codes "$1\r\n1\r\n"
unfolding digits
bulk = refl

null : reply_spelling Null ≡ codes "$-1\r\n"
unfolding digits
null = refl

no_replies : reply_spelling (Array (array_of [])) ≡ codes "*0\r\n"
unfolding digits
no_replies = refl

two_nulls : reply_spelling (Array (array_of (Null ∷ Null ∷ []))) ≡ codes "*2\r\n$-1\r\n$-1\r\n"
unfolding digits
two_nulls = refl

-- the first and the last slot of a node, and the node: an array in an array
abbrev slots_of_a_node : List Reply
slots_of_a_node =
    Integer (pos 0) ∷ Integer (pos 5460) ∷ Array (array_of (Bulk (codes "127.0.0.1") ∷ Integer (pos 7000) ∷ Bulk (codes "0") ∷ [])) ∷ []

slots : reply_spelling (Array (array_of (Array (array_of slots_of_a_node) ∷ []))) ≡ codes "*1\r\n*3\r\n:0\r\n:5460\r\n*3\r\n$9\r\n127.0.0.1\r\n:7000\r\n$1\r\n0\r\n"
unfolding digits
slots = refl

-- what follows a header is as long as the header says
slots_are_an_array : is_array (array_of (Array (array_of slots_of_a_node) ∷ [])) ≡ true
slots_are_an_array = refl

one_of_two : is_array (element.Array 2 ∷ element.Null ∷ []) ≡ false
one_of_two = refl

one_more : is_array (element.Array 0 ∷ element.Null ∷ []) ≡ false
one_more = refl

no_header : is_array (element.Null ∷ []) ≡ false
no_header = refl
