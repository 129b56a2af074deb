use Rattle.std.proofs.Common.{◌≡◌, ◌+◌, length, take}
use Rattle.resp_values.specs.Request.{header_spelling, bulks_spelling}
use Rattle.repl_stream.proofs.lengths.spelled_len.Given as goal

abbrev pub invariant-loop-word : goal.invariant-loop-word
invariant-loop-word l = l.len ≡ length (header_spelling 42 (length l.words)) + length (bulks_spelling (take l.word-index l.words))
