-- What a reader of requests holds, and what its answers say of the bytes (RESP protocol, "Sending commands to a Redis server";
-- the reader is ours).
use Rattle.std.specs.Prelude.{◌≡◌, ℕ, List, [], ◌++◌, replicate, Option, None, Some, IfSome}
use Rattle.resp_header.specs.declared.fault.Fault.{Fault}
use Rattle.resp_header.specs.declared.fault.Fault.TheVariants.{Protocol, TooLong, Memory}
use Rattle.resp_values.specs.Request.{request_spelling, IsRequest}
use Rattle.resp2.specs.Stream.{stream_spelling, HasFirstBadByte, HasNoRequest, IsUnfinished}

-- the bytes that were fed and not consumed, and the fault that was found in them
pub record ReaderState : Type 0 where
  pub pending : List ℕ
  pub fault : Option Fault

-- so many requests without words
abbrev pub empty_requests : ℕ → List ℕ
empty_requests count = stream_spelling (replicate count [])

-- only requests without words were consumed
pub record PassesOver (old new : ReaderState) : Type 0 where
  pub count : ℕ
  pub consumed : old.pending ≡ empty_requests count ++ new.pending

-- a request stood whole in front, perhaps behind some without words, and the bytes behind it are left
pub record HandsOut (old : ReaderState) (words : List (List ℕ)) (new : ReaderState) : Type 0 where
  pub sound : old.fault ≡ None
  pub request : IsRequest words
  pub count : ℕ
  pub consumed : old.pending ≡ empty_requests count ++ request_spelling words ++ new.pending
  pub still_sound : new.fault ≡ None

-- the bytes are the beginning of a request, perhaps behind some without words, which are passed over; the beginning stays
pub record Waits (old new : ReaderState) : Type 0 where
  pub sound : old.fault ≡ None
  pub passes_over : PassesOver old new
  pub unfinished : IsUnfinished new.pending
  pub still_sound : new.fault ≡ None

-- a bad byte stands where a request is expected, and its fault is kept for good
pub record Breaks (fault : Fault) (old new : ReaderState) : Type 0 where
  pub passes_over : PassesOver old new
  pub first : HasFirstBadByte fault new.pending
  pub none : HasNoRequest new.pending
  pub kept : new.fault ≡ Some fault

-- want of memory changes nothing else, and a fault of the bytes is where they have it
abbrev pub FailsBy : Fault → ReaderState → ReaderState → Type 0
FailsBy Memory old new = PassesOver old new × (new.fault ≡ old.fault)
FailsBy Protocol old new = Breaks Protocol old new
FailsBy TooLong old new = Breaks TooLong old new

-- the fault that was found before comes again, and changes nothing
abbrev pub FailsAgainBy : Fault → ReaderState → ReaderState → Type 0
FailsAgainBy fault old new = IfSome old.fault (λ kept. (fault ≡ kept) × (new ≡ old))

-- what a reader remembers of a fault: want of memory passes
abbrev pub remembered : Fault → Option Fault
remembered Memory = None
remembered Protocol = Some Protocol
remembered TooLong = Some TooLong
