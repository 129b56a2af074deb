use Rattle.std.proofs.Common.{◌≡◌, ◌++◌, take}
use Rattle.std.specs.List.{flat_map}
use Rattle.cli_text.specs.Escaping.{escaped}
use Rattle.cli_text.proofs.reply_bytes.print_escaped.Given as goal

-- the bytes so far are shown
abbrev pub invariant-loop-byte : goal.invariant-loop-byte
invariant-loop-byte l = l.out.items ≡ l.initial.out.items ++ flat_map escaped (take l.byte-index l.bytes)
