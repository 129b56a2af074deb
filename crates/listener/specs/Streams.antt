-- A client's two streams, and what was asked of the node: before a call, and after it.
use Rattle.std.specs.Prelude.{◌≡◌, ℕ, List, ◌++◌, Option, All}
use Rattle.std.specs.Io.KnownBytes.{Appends}
use Rattle.resp2.specs.Counting.{inner_of, failures_of, failed_of, HasRisen}
use Rattle.resp2.specs.Writing.{AppendsBeginning}
use Rattle.resp2.specs.declared.counting.Counting.{Counting}
use Rattle.node_gate.specs.Asks.{Asked}

-- something before a call, and after it
pub record Change (A : Type 0) : Type 0 where
  pub old : A
  pub new : A

abbrev pub change : {A : Type 0} → A → A → Change A
change old new = record { old = old; new = new }

-- the same of what this has
abbrev pub change_of : {A B : Type 0} → (A → B) → A → A → Change B
change_of part old new = change (part old) (part new)

-- the bytes that a reader has left or a writer holds, where they are known; how many calls of it failed; and the bytes as the last of
-- those left them
pub record Stream : Type 0 where
  pub bytes : Option (List ℕ)
  pub failures : ℕ
  pub at_failure : Option (List ℕ)

abbrev pub stream_of : {D : Type 0} → (D → Option (List ℕ)) → Counting D → Stream
stream_of bytes counting = record { bytes = bytes (inner_of counting); failures = failures_of counting; at_failure = bytes (failed_of counting) }

abbrev pub streams : {D : Type 0} → (D → Option (List ℕ)) → Counting D → Counting D → Change Stream
streams bytes = change_of (stream_of bytes)

-- the bytes were written, and no call failed
pub record Sends (out : Change Stream) (bytes : List ℕ) : Type 0 where
  pub appends : Appends out.old.bytes out.new.bytes bytes
  pub same : out.new.failures ≡ out.old.failures

-- a call failed, and nothing was written after it
pub record FailsLast (old new : Stream) : Type 0 where
  pub risen : HasRisen old.failures new.failures
  pub last : new.bytes ≡ new.at_failure

-- a call failed, and of the bytes a beginning was written, but nothing after that
pub record Fails (out : Change Stream) (bytes : List ℕ) : Type 0 where
  pub begun : AppendsBeginning out.old.bytes out.new.bytes bytes
  pub breaks : FailsLast out.old out.new

-- this was asked of the node, in this order and nothing else, and each outcome is one that is allowed
pub record Adds (allowed : Asked → Type 0) (asked : Change (List Asked)) (added : List Asked) : Type 0 where
  pub grown : asked.new ≡ asked.old ++ added
  pub each : All allowed added
