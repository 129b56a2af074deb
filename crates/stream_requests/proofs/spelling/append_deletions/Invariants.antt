use Rattle.std.proofs.Common.{◌≡◌, ◌++◌, take}
use Rattle.std.specs.List.{flat_map}
use Rattle.stream_requests.specs.Spelling.{deletion_bytes}
use Rattle.stream_requests.proofs.spelling.append_deletions.Given as goal

-- the keys so far are spelled
abbrev pub invariant-loop-key : goal.invariant-loop-key
invariant-loop-key l = l.out.items ≡ l.initial.out.items ++ flat_map deletion_bytes (take l.key-index l.keys)
