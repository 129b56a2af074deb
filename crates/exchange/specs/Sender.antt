-- A writer of requests, and how many of its calls failed.
use Rattle.std.specs.Prelude.{ℕ, List, Option, Result}
use Rattle.std.specs.Io.KnownBytes.{Appends, WriteAppends}
use Rattle.resp2.specs.Writing.{AppendsBeginning}
use Rattle.exchange.specs.declared.sender.Sender.{Sender}

abbrev pub writer_of : {W : Type 0} → Sender W → W
writer_of sender = sender.writer

abbrev pub failures_of : {W : Type 0} → Sender W → ℕ
failures_of sender = sender.failures

-- the writer has taken the bytes
abbrev pub HasTaken : {W : Type 0} → (W → Option (List ℕ)) → Sender W → Sender W → List ℕ → Type 0
HasTaken contents old new bytes = Appends (contents (writer_of old)) (contents (writer_of new)) bytes

-- it has taken a beginning of them: none, some or all
abbrev pub HasBegun : {W : Type 0} → (W → Option (List ℕ)) → Sender W → Sender W → List ℕ → Type 0
HasBegun contents old new bytes = AppendsBeginning (contents (writer_of old)) (contents (writer_of new)) bytes

-- it has taken as many of them as it says
abbrev pub HasTakenSome : {W E : Type 0} → (W → Option (List ℕ)) → Sender W → Sender W → Result ℕ E → List ℕ → Type 0
HasTakenSome contents old new said bytes = WriteAppends (contents (writer_of old)) (contents (writer_of new)) said bytes
