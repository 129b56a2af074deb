-- Replies as redis-cli prints them on a terminal.
use Rattle.std.specs.Prelude.{ℕ, ℤ, List, ◌++◌, codes, Option, None, Some}
use Rattle.std.specs.Fmt.{signed_decimal}
use Rattle.cli_text.specs.Quoting.{quoted}
use Rattle.resp_values.specs.declared.reply.Reply.{Reply}
use Rattle.resp_values.specs.declared.reply.Reply.TheVariants.{Simple, Error, Integer, Bulk, Null, Array}

-- an error, on a line
abbrev pub error_line : List ℕ → List ℕ
error_line text = codes "(error) " ++ text ++ codes "\n"

-- an integer, on a line
abbrev pub integer_line : ℤ → List ℕ
integer_line number = codes "(integer) " ++ signed_decimal number ++ codes "\n"

-- the lines of a reply that is no array, with their ends
abbrev pub text_of : Reply → Option (List ℕ)
text_of (Simple text) = Some (text ++ codes "\n")
text_of (Error text) = Some (error_line text)
text_of (Integer number) = Some (integer_line number)
text_of (Bulk bytes) = Some (quoted bytes ++ codes "\n")
text_of Null = Some (codes "(nil)\n")
text_of (Array _) = None
