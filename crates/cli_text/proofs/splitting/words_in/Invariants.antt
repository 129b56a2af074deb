use Rattle.std.proofs.Common.{◌+◌, ◌≤◌, length, sum_by, vec_len}
use Rattle.cli_text.proofs.splitting.words_in.Given as goal

-- a word for each turn at most, and no more bytes than were passed
abbrev pub invariant-words : goal.invariant-words
invariant-words l = record {
  few : vec_len l.words ≤ l.counter;
  short : sum_by length l.words.items + length l.rest ≤ length l.line;
}
