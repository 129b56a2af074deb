use Rattle.std.proofs.Common.{◌≡◌, ◌++◌}
use Rattle.hash.specs.Size.{words_of}
use Rattle.resp_values.specs.Request.{bulks_spelling}
use Rattle.stream_requests.proofs.spelling.append_fields.Given as goal

-- the words so far, and those of the pairs that are left
abbrev pub invariant-loop-field : goal.invariant-loop-field
invariant-loop-field l = l.out.items ++ bulks_spelling (words_of l.field-iterator) ≡ l.initial.out.items ++ bulks_spelling (words_of l.hash)
