-- A request on a connection and its reply, as bytes (RESP protocol, "Request-Response model").
use Rattle.std.specs.Prelude.{◌≡◌, ◌<◌, ◌≤◌, ◌+◌, ◌-◌, ◌^◌, ◌⊎◌, ◌++◌, ℕ, min, Bool, true, false, List, length, None, IfNone}
use Rattle.std.specs.Io.KnownBytes.{Appends, Consumes, IsAtEnd, Keeps}
use Rattle.resp_values.specs.Reply.{reply_spelling}
use Rattle.resp_values.specs.Request.{request_spelling}
use Rattle.resp_values.specs.declared.reply.Reply as values
use Rattle.resp2.specs.ReplyReader.{HasFirstBadReplyByte, HasNoReply, ReplyKeepsLimits}
use Rattle.resp_header.specs.declared.fault.Fault.{Fault}
use Rattle.resp_header.specs.declared.fault.Fault.TheVariants as fault
use Rattle.exchange.specs.Wire.{Inlet, Outlet, Wire}
use Rattle.exchange.specs.declared.outcome.Outcome.{Outcome}
use Rattle.exchange.specs.declared.outcome.Outcome.TheVariants.{Reply, BadReply, Broken, NoMemory}

-- a call failed at least: the count is greater, up to the most that 64 bits hold
abbrev pub HasFailed : ℕ → ℕ → Type 0
HasFailed old new = min (old + 1) (2 ^ 64 - 1) ≤ new

-- ---- the request goes out

-- all of it was written, once
abbrev pub Sends : List (List ℕ) → Outlet → Outlet → Type 0
Sends words old new = Appends old.bytes new.bytes (request_spelling words)

-- the writer failed, and none of the bytes was written
pub record IsUnsent (old new : Outlet) : Type 0 where
  pub keeps : Keeps old.bytes new.bytes
  pub failed : HasFailed old.failures new.failures

-- the writer failed, and some of the bytes were written
pub record IsCutOff (bytes : List ℕ) (old new : Outlet) : Type 0 where
  pub written : List ℕ
  pub rest : List ℕ
  pub some : 0 < length written
  pub split : written ++ rest ≡ bytes
  pub appends : Appends old.bytes new.bytes written
  pub failed : HasFailed old.failures new.failures

-- a byte was written, or none
abbrev pub StopsSending : Bool → List ℕ → Outlet → Outlet → Type 0
StopsSending false bytes old new = IsUnsent old new
StopsSending true bytes old new = IsCutOff bytes old new

-- ---- the reply comes in

-- what was there and what came begins with the reply, and the rest is left for the next
pub record Answers (reply : values.Reply) (old new : Inlet) : Type 0 where
  pub came : List ℕ
  pub read : Consumes old.bytes new.bytes came
  pub spelled : old.pending ++ came ≡ reply_spelling reply ++ new.pending
  pub limits : ReplyKeepsLimits reply
  pub sound : (old.fault ≡ None) × (new.fault ≡ None)

-- what was there and what came has a byte after which no reply can come, and no whole reply is in front
pub record IsSpoilt (old new : Inlet) : Type 0 where
  pub came : List ℕ
  pub read : Consumes old.bytes new.bytes came
  pub bad : HasFirstBadReplyByte (old.pending ++ came)
  pub none : HasNoReply (old.pending ++ came)
  pub left : new.pending ≡ old.pending ++ came

-- the reader failed, is at its end, or gave more bytes than any connection does
abbrev pub IsOver : List ℕ → Inlet → Inlet → Type 0
IsOver came old new = HasFailed old.failures new.failures ⊎ (IsAtEnd new.bytes ⊎ (2 ^ 64 - 1 ≤ length came))

-- no more comes, and what came is kept
pub record Ends (old new : Inlet) : Type 0 where
  pub came : List ℕ
  pub read : Consumes old.bytes new.bytes came
  pub left : new.pending ≡ old.pending ++ came
  pub over : IsOver came old new

-- memory was refused: of what came the last bytes may be lost
pub record IsShort (old new : Inlet) : Type 0 where
  pub came : List ℕ
  pub lost : List ℕ
  pub read : Consumes old.bytes new.bytes came
  pub left : new.pending ++ lost ≡ old.pending ++ came
  pub sound : new.fault ≡ None

abbrev pub Receives : Inlet → Outcome → Inlet → Type 0
Receives old (Reply reply) new = Answers reply old new
Receives old BadReply new = IfNone old.fault (IsSpoilt old new)
Receives old (Broken false) new = ⊥
Receives old (Broken true) new = Ends old new
Receives old (NoMemory false) new = ⊥
Receives old (NoMemory true) new = IfNone old.fault (IsShort old new)

-- what a fault of the bytes is to a client
abbrev pub outcome_of : Fault → Outcome
outcome_of fault.Memory = NoMemory true
outcome_of fault.Protocol = BadReply
outcome_of fault.TooLong = BadReply

-- ---- both

-- what was written and read, by what came of the request
abbrev pub Exchanges : List (List ℕ) → Wire → Outcome → Wire → Type 0
Exchanges words old (Reply reply) new = Sends words old.outlet new.outlet × Receives old.inlet (Reply reply) new.inlet
Exchanges words old BadReply new = Sends words old.outlet new.outlet × Receives old.inlet BadReply new.inlet
Exchanges words old (Broken false) new = IsUnsent old.outlet new.outlet × (new.inlet ≡ old.inlet)
Exchanges words old (Broken true) new =
    (IsCutOff (request_spelling words) old.outlet new.outlet × (new.inlet ≡ old.inlet))
    ⊎ (Sends words old.outlet new.outlet × Receives old.inlet (Broken true) new.inlet)
Exchanges words old (NoMemory false) new = new ≡ old
Exchanges words old (NoMemory true) new = Sends words old.outlet new.outlet × Receives old.inlet (NoMemory true) new.inlet
