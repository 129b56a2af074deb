use Rattle.std.proofs.Common.{◌≡◌, ◌++◌}
use Rattle.hash.specs.Size.{words_of}
use Rattle.hash.proofs.hash.Hash.append_words.Given as goal

-- the words so far, and those of the pairs that are left
abbrev pub invariant-loop-field : goal.invariant-loop-field
invariant-loop-field l = l.words.items ++ words_of l.field-iterator ≡ l.initial.words.items ++ words_of l.self
