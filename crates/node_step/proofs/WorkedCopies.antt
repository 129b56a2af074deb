-- Worked values: keys that an order names, and the requests that an acknowledgement adds to the stream.
use Rattle.std.proofs.Common.{◌≡◌, ℕ, List, [], ◌∷◌, length, Some, refl}
use Rattle.std.specs.Fmt.{digits}
use Rattle.std.specs.Prelude.{codes}
use Rattle.resp2.specs.Stream.{stream_spelling}
use Rattle.node_step.specs.Copies.{each_once}
use Rattle.node_step.specs.Streams.{written_by_ack}

-- one key is named twice
abbrev named : List (List ℕ)
named = codes "{a}2" ∷ codes "{a}1" ∷ codes "{a}2" ∷ codes "{a}9" ∷ []

abbrev two : List (List ℕ)
two = codes "{a}2" ∷ codes "{a}1" ∷ []

pub once : each_once named ≡ codes "{a}2" ∷ codes "{a}1" ∷ codes "{a}9" ∷ []
once = refl

-- two keys of four bytes are deleted
pub grown : length (stream_spelling (written_by_ack (Some two))) ≡ 46
unfolding digits
grown = refl
