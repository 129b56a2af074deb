-- Bytes on one line, as this program prints them.
use Rattle.std.specs.Prelude.{◌==◌, ℕ, List, codes, if◌then◌else◌}
use Rattle.cli_text.specs.Quoting.{plain_or_hex}

-- CR, LF, a backslash and bytes that are not plain are written out
abbrev pub escaped : ℕ → List ℕ
escaped byte =
    if byte == 13 then codes "\\r"
    else (if byte == 10 then codes "\\n"
    else (if byte == 92 then codes "\\\\"
    else plain_or_hex byte))
