use Rattle.std.proofs.Common.{◌+◌, ◌≤◌, length, vec_len}
use Rattle.cli_text.proofs.splitting.take_quoted.Given as goal

-- each byte of the word was spelled by one byte at least
abbrev pub invariant-pieces : goal.invariant-pieces
invariant-pieces l = vec_len l.word + length l.rest ≤ vec_len l.initial.word + length l.text

abbrev pub decreases-pieces : goal.decreases-pieces
decreases-pieces l = length l.rest
