-- What the first word of an error tells a client (RESP protocol, "Simple errors": the first word is the kind of error).
use Rattle.std.specs.Prelude.{ℕ, ◌||◌, List, codes, if◌then◌else◌}
use Rattle.std.specs.Str.{bytes_eq}
use Rattle.redirection.specs.ErrorWord.{first_word}
use Rattle.smart_client.specs.declared.error_kind.ErrorKind.{ErrorKind}
use Rattle.smart_client.specs.declared.error_kind.ErrorKind.TheVariants.{Redirection, TryAgain, LastLine, Other}

-- MOVED and ASK name another node, TRYAGAIN has the call begin again, and behind OOM and EXHAUSTED the node closes the connection
abbrev pub kind_of : List ℕ → ErrorKind
kind_of text =
    if bytes_eq (first_word text) (codes "MOVED") || bytes_eq (first_word text) (codes "ASK") then Redirection
    else (if bytes_eq (first_word text) (codes "TRYAGAIN") then TryAgain
    else (if bytes_eq (first_word text) (codes "OOM") || bytes_eq (first_word text) (codes "EXHAUSTED") then LastLine
    else Other))
