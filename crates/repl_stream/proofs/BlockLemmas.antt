-- The bytes of requests, and those of a piece.
use Rattle.std.proofs.Common.{◌≡◌, ℕ, ◌+◌, ◌-◌, ◌<◌, ◌≤◌, ◌^◌, List, ◌++◌, length, take, drop, get_or, refl, ap, ◌∙◌, arith}
use Rattle.std.proofs.lemmas.List.{length-drop, length-take, take_more}
use Rattle.std.specs.Prelude.{IsSome, None, Option, Some, SomeIff}
use Rattle.bus.specs.Stream.{Held, end_of}
use Rattle.resp2.proofs.Callers.{stream_spelling-push}
use Rattle.resp2.specs.Stream.{stream_spelling}
use Rattle.resp_values.specs.Request.{request_spelling}

-- with one request more
pub one_more_spelled : (requests : List (List (List ℕ))) (i : ℕ) (d : List (List ℕ)) → i < length requests
    → stream_spelling (take (i + 1) requests) ≡ stream_spelling (take i requests) ++ request_spelling (get_or requests i d)
one_more_spelled requests i d below =
    ap stream_spelling (take_more requests i d below) ∙ stream_spelling-push (take i requests) (get_or requests i d)

-- bytes that are kept end where all of them do, or before
pub part_ends : (held : Held) (from most end : ℕ) (bytes : List ℕ) → bytes ≡ take most (drop (from - held.first) held.bytes)
    → (held.first ≤ from) × (from ≤ end_of held) → end ≡ end_of held → end < 2 ^ 64 → from + length bytes < 2 ^ 64
part_ends held from most end bytes are inside is fits =
    omega (arith, ap (λ (t : List ℕ). length t) are, inside.0, inside.1, is, fits, length-take most (drop (from - held.first) held.bytes), length-drop (from - held.first) held.bytes)

pub some_where_so : {X : Type 0} (found : Option X) (holds : Type 0) (value : X) → SomeIff found holds value → holds → IsSome found
some_where_so None holds value exact so = absurd (exact so)
some_where_so (Some x) holds value exact so = refl
