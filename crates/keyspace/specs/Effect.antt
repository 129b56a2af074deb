-- What a command does to the values at its keys (the form is ours, the commands are those of the Redis command reference).
use Rattle.std.specs.Prelude.{List, [], ◌∷◌, Option, None}
use Rattle.resp_values.specs.declared.reply.Reply.{Reply}
use Rattle.resp_values.specs.declared.reply.Reply.TheVariants.{Error}
use Rattle.command_table.specs.ErrorLine.{error_text}
use Rattle.command_table.specs.declared.error_line.ErrorLine.{ErrorLine}
use Rattle.keyspace.specs.declared.value.Value.{Value}

-- the reply to a command, and the values that it leaves at its keys, in their order; where the list is shorter, the other keys keep theirs
pub record Effect : Type 0 where
  pub reply : Reply
  pub leaves : List (Option Value)

-- the value at the first key
abbrev pub first_of : List (Option Value) → Option Value
first_of [] = None
first_of (value ∷ values) = value

-- a command that reads
abbrev pub told : Reply → Effect
told answer = record { reply = answer; leaves = [] }

-- and one that leaves a value at its only key, or removes it
abbrev pub left : Reply → Option Value → Effect
left answer value = record { reply = answer; leaves = value ∷ [] }

-- an error as a reply
abbrev pub error_reply : ErrorLine → Reply
error_reply line = Error (error_text line)

-- and one that changes nothing
abbrev pub refused : ErrorLine → Effect
refused line = told (error_reply line)
