use Rattle.std.proofs.Common.{◌≡◌, take}
use Rattle.resp2.specs.Stream.{stream_spelling}
use Rattle.repl_stream.proofs.block.block_of.Given as goal

-- the requests so far are spelled
abbrev pub invariant-loop-words : goal.invariant-loop-words
invariant-loop-words l = l.bytes.items ≡ stream_spelling (take l.words-index l.requests)
