-- A stream of requests, by computation.
use Rattle.std.proofs.Common.{◌≡◌, refl, [], ◌∷◌}
use Rattle.std.specs.Prelude.{codes}
use Rattle.std.specs.Fmt.{digits}
use Rattle.resp2.specs.Stream.{stream_spelling}

two_requests : stream_spelling ((codes "PING" ∷ []) ∷ (codes "GET" ∷ codes "a" ∷ []) ∷ []) ≡ codes "*1\r\n$4\r\nPING\r\n*2\r\n$3\r\nGET\r\n$1\r\na\r\n"
unfolding digits
two_requests = refl
