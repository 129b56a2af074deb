-- A client's side of a connection: what went out on it, and what comes in (this project's own).
use Rattle.std.specs.Prelude.{ℕ, List, Option}
use Rattle.resp2.specs.Counting as counting
use Rattle.resp2.specs.Reader.{ReaderState}
use Rattle.resp2.specs.declared.counting.Counting.{Counting}
use Rattle.resp_header.specs.declared.fault.Fault.{Fault}
use Rattle.exchange.specs.Sender as sender
use Rattle.exchange.specs.declared.sender.Sender.{Sender}

-- the bytes that the writer holds, where they are known, and how many of its calls failed
pub record Outlet : Type 0 where
  pub bytes : Option (List ℕ)
  pub failures : ℕ

-- the bytes that the reader has left, where they are known, and how many of its calls failed; the bytes that were read and not used,
-- and what is wrong with them
pub record Inlet : Type 0 where
  pub bytes : Option (List ℕ)
  pub failures : ℕ
  pub pending : List ℕ
  pub fault : Option Fault

pub record Wire : Type 0 where
  pub outlet : Outlet
  pub inlet : Inlet

abbrev pub outlet_of : {W : Type 0} → (W → Option (List ℕ)) → Sender W → Outlet
outlet_of contents from = record { bytes = contents (sender.writer_of from); failures = sender.failures_of from }

abbrev pub inlet_of : {R : Type 0} → (R → Option (List ℕ)) → Counting R → ReaderState → Inlet
inlet_of remaining reader replies =
    record { bytes = remaining (counting.inner_of reader); failures = counting.failures_of reader; pending = replies.pending; fault = replies.fault }

abbrev pub wire_of : {R W : Type 0} → (R → Option (List ℕ)) → (W → Option (List ℕ)) → Counting R → Sender W → ReaderState → Wire
wire_of remaining contents reader writer replies = record { outlet = outlet_of contents writer; inlet = inlet_of remaining reader replies }
