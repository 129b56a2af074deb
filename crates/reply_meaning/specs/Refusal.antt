-- Which replies tell that the command was not executed (RESP protocol, "Simple errors": the first word is the kind of error).
use Rattle.std.specs.Prelude.{ℕ, ◌||◌, Bool, false, List, [], ◌∷◌, codes}
use Rattle.std.specs.List.{list_any}
use Rattle.std.specs.Str.{bytes_eq}
use Rattle.resp_values.specs.declared.reply.Reply.{Reply}
use Rattle.resp_values.specs.declared.reply.Reply.TheVariants.{Error}
use Rattle.command_table.specs.ErrorLine.{error_text}
use Rattle.command_table.specs.Names.{names}
use Rattle.command_table.specs.declared.error_line.ErrorLine.{ErrorLine}
use Rattle.command_table.specs.declared.error_line.ErrorLine.TheVariants.{UnknownCommand, WrongArity, Syntax}
use Rattle.redirection.specs.ErrorWord.{first_word}

-- another node is named, the same is to be asked again, the keys are in two slots or in one that nobody serves, or the node
-- closes the connection
abbrev pub refusing_words : List (List ℕ)
refusing_words =
    codes "MOVED" ∷ codes "ASK" ∷ codes "TRYAGAIN" ∷ codes "CROSSSLOT" ∷ codes "CLUSTERDOWN" ∷ codes "OOM" ∷ codes "EXHAUSTED" ∷ []

-- the error begins with one of these words
abbrev pub begins_so : List ℕ → Bool
begins_so text = list_any (bytes_eq (first_word text)) refusing_words

-- the error has this text
abbrev pub is_line : List ℕ → ErrorLine → Bool
is_line text line = bytes_eq text (error_text line)

-- the words are no command: no node knows the name, or it doesn't take these arguments
abbrev pub is_of_no_command : List ℕ → Bool
is_of_no_command text = is_line text UnknownCommand || is_line text Syntax || list_any (λ name. is_line text (WrongArity name)) names

-- the command was not executed
abbrev pub is_refusal : Reply → Bool
is_refusal (Error text) = begins_so text || is_of_no_command text
is_refusal _ = false
