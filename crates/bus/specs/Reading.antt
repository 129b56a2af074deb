-- How the bytes of a stream are read (RESP protocol, "Sending commands to a Redis server"; no request without words is
-- written to a stream, which is ours).
use Rattle.std.specs.Prelude.{◌≡◌, ℕ, List, ◌++◌, All}
use Rattle.resp2.specs.Stream.{stream_spelling}
use Rattle.resp_values.specs.Request.{IsRequest, request_spelling}

-- a whole request stands in front
pub record BeginsWithRequest (bytes : List ℕ) : Type 0 where
  pub words : List (List ℕ)
  pub rest : List ℕ
  pub request : IsRequest words
  pub spelled : bytes ≡ request_spelling words ++ rest

-- the bytes are these requests, and behind them no whole one
pub record IsReadAs (bytes : List ℕ) (requests : List (List (List ℕ))) (rest : List ℕ) : Type 0 where
  pub each : All IsRequest requests
  pub spelled : bytes ≡ stream_spelling requests ++ rest
  pub begun : ¬ BeginsWithRequest rest
