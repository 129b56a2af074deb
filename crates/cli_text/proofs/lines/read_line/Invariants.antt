use Rattle.std.proofs.Common.{◌≤◌, vec_len}
use Rattle.resp_values.specs.declared.words.TheConstants.{MOST_REQUEST_BYTES}
use Rattle.cli_text.proofs.lines.read_line.Given as goal

-- the line is still no longer than a request may be
abbrev pub invariant-pieces : goal.invariant-pieces
invariant-pieces g l = vec_len l.line ≤ MOST_REQUEST_BYTES
