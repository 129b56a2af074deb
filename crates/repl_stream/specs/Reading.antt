-- Reading in steps. It ties the code to the reading of a stream: no public clause speaks of it.
use Rattle.std.specs.Prelude.{◌≡◌, ℕ, List, ◌++◌, None}
use Rattle.keyspace.specs.Commands.{replay_from, exec_words}
use Rattle.keyspace.specs.Keyspace.{Keyspace}
use Rattle.keyspace.specs.Plan.{committed}
use Rattle.keyspace.specs.declared.plans.Plan.{Plan}
use Rattle.resp2.specs.Reader.{ReaderState}
use Rattle.resp_values.specs.Request.{IsRequest, request_spelling}
use Rattle.bus.specs.Reading.{IsReadAs}
use Rattle.repl_stream.specs.declared.received.Received.{Received}

-- a request stood in front of the bytes, and the reader holds those behind it
pub record HandsOut (bytes : List ℕ) (words : List (List ℕ)) (reader : ReaderState) : Type 0 where
  pub request : IsRequest words
  pub spelled : bytes ≡ request_spelling words ++ reader.pending
  pub sound : reader.fault ≡ None

-- the bytes are read as requests, which leave this keyspace, and a rest
pub record IsPlanned (keyspace : Keyspace) (bytes : List ℕ) (after : Keyspace) (rest : List ℕ) : Type 0 where
  pub requests : List (List (List ℕ))
  pub reads : IsReadAs bytes requests rest
  pub executed : after ≡ (replay_from keyspace requests).last

-- ---- The keyspace is the one of the store, and the plan comes before it is committed.

-- the bytes are read as requests, which the plan executes, and a rest
abbrev pub Reads : Keyspace → List ℕ → Received → Type 0
Reads keyspace bytes received = IsPlanned keyspace bytes (committed keyspace received.plan) received.rest.items

-- the plan goes on by the requests in the bytes, to a rest
abbrev pub Plans : Keyspace → Plan → List ℕ → Plan → List ℕ → Type 0
Plans keyspace old bytes new rest = IsPlanned (committed keyspace old) bytes (committed keyspace new) rest

-- the plan goes on by the words of one
abbrev pub PlansWords : Keyspace → Plan → List (List ℕ) → Plan → Type 0
PlansWords keyspace old words new = committed keyspace new ≡ (exec_words (committed keyspace old) words).after
