use Rattle.std.proofs.Common.{◌≡◌, ◌++◌, take}
use Rattle.std.specs.List.{flat_map}
use Rattle.resp_values.specs.Request.{bulk_spelling}
use Rattle.resp2.proofs.appending.append_words.Given as goal

-- the words so far are spelled
abbrev pub invariant-loop-word : goal.invariant-loop-word
invariant-loop-word l = l.out.items ≡ l.initial.out.items ++ flat_map bulk_spelling (take l.word-index l.words)
