use Rattle.std.proofs.Common.{◌+◌, ◌≤◌, length, vec_len}
use Rattle.cli_text.proofs.splitting.take_word.Given as goal

-- each byte of the word was spelled by one byte at least
abbrev pub invariant-bytes : goal.invariant-bytes
invariant-bytes l = vec_len l.word + length l.rest ≤ vec_len l.initial.word + length l.text

abbrev pub decreases-bytes : goal.decreases-bytes
decreases-bytes l = length l.rest
