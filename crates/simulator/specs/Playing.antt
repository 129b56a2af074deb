-- A script that comes from a reader, and what a writer gets of it.
use Rattle.std.specs.Prelude.{◌≡◌, ◌⊎◌, ℕ, ⊤, List, map, Option, Some, Result, Ok, Err}
use Rattle.std.specs.Io.KnownBytes.{Appends, Consumes, IsAtEnd}
use Rattle.cluster_config.specs.Config.{ClusterConfig}
use Rattle.exchange.specs.Exchange.{HasFailed}
use Rattle.resp2.specs.Counting.{inner_of, failures_of, HasRisen}
use Rattle.resp2.specs.Writing.{AppendsBeginning}
use Rattle.resp2.specs.declared.counting.Counting.{Counting}
use Rattle.world.specs.declared.step.Step.{Step}
use Rattle.simulator.specs.Lines.{lines}
use Rattle.simulator.specs.Script.{IsFirstUnreadable, step_in}
use Rattle.simulator.specs.Simulation.{Simulates}
use Rattle.simulator.specs.declared.fault.SimulationFault.{SimulationFault}
use Rattle.simulator.specs.declared.fault.SimulationFault.TheVariants.{Memory, Unreadable, Line, Unwritten}

-- ---- readers and writers

-- the bytes that a reader has left or a writer holds, where they are known, and how many calls of it failed
pub record Stream : Type 0 where
  pub bytes : Option (List ℕ)
  pub failures : ℕ

-- before a call, and after it
pub record Streams : Type 0 where
  pub old : Stream
  pub new : Stream

abbrev pub stream_of : {D : Type 0} → (D → Option (List ℕ)) → Counting D → Stream
stream_of bytes counting = record { bytes = bytes (inner_of counting); failures = failures_of counting }

abbrev pub streams : {D : Type 0} → (D → Option (List ℕ)) → Counting D → Counting D → Streams
streams bytes old new = record { old = stream_of bytes old; new = stream_of bytes new }

-- some calls may have failed
abbrev pub MayFail : ℕ → ℕ → Type 0
MayFail old new = (new ≡ old) ⊎ HasFailed old new

-- nothing was written, and no call failed
abbrev pub IsUntouched : Streams → Type 0
IsUntouched out = out.new ≡ out.old

-- ---- a script that is read

-- the text is all that the reader had left
pub record Reads (script : Streams) (text : List ℕ) : Type 0 where
  pub consumes : Consumes script.old.bytes script.new.bytes text
  pub at_end : IsAtEnd script.new.bytes

-- the steps are those of the text's lines, in order
abbrev pub Spells : List ℕ → List Step → Type 0
Spells text steps = map Some steps ≡ map step_in (lines text)

-- why a script wasn't read to its end: memory was refused, or a call of the reader failed
abbrev pub IsUnread : SimulationFault → Streams → Type 0
IsUnread Memory script = ⊤
IsUnread (Unreadable error) script = HasFailed script.old.failures script.new.failures
IsUnread (Line number text) script = ⊥
IsUnread (Unwritten error) script = ⊥

-- ---- and played

-- the whole script was read, and this is the text that a cluster which plays its steps shows
pub record Shows (config : ClusterConfig) (script : Streams) (shown : List ℕ) : Type 0 where
  pub text : List ℕ
  pub steps : List Step
  pub read : Reads script text
  pub spelled : Spells text steps
  pub simulates : Simulates config steps shown

-- that text was written, and no call failed
pub record IsPlayed (config : ClusterConfig) (script out : Streams) : Type 0 where
  pub shown : List ℕ
  pub shows : Shows config script shown
  pub written : Appends out.old.bytes out.new.bytes shown
  pub same : out.new.failures ≡ out.old.failures

-- a call of the writer failed, and of that text a beginning was written
pub record IsCutOff (config : ClusterConfig) (script out : Streams) : Type 0 where
  pub shown : List ℕ
  pub shows : Shows config script shown
  pub begun : AppendsBeginning out.old.bytes out.new.bytes shown
  pub failed : HasRisen out.old.failures out.new.failures

-- how reader and writer are left, by why a simulation stops
abbrev pub StopsBy : ClusterConfig → SimulationFault → Streams → Streams → Type 0
StopsBy config Memory script out = IsUntouched out
StopsBy config (Unreadable error) script out = HasFailed script.old.failures script.new.failures × IsUntouched out
StopsBy config (Line number text) script out = Reads script text.items × IsFirstUnreadable number text.items × IsUntouched out
StopsBy config (Unwritten error) script out = IsCutOff config script out

-- and by how it ends
abbrev pub EndsBy : ClusterConfig → Result ⊤ SimulationFault → Streams → Streams → Type 0
EndsBy config (Ok _) script out = IsPlayed config script out
EndsBy config (Err fault) script out = StopsBy config fault script out
