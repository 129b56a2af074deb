-- Worked values of the definitions (Redis Cluster specification, "MOVED Redirection", "ASK redirection").
use Rattle.std.proofs.Common.{◌≡◌, refl, sym, Some, None, arith}
use Rattle.std.specs.Prelude.{codes}
use Rattle.std.specs.Fmt.{digits}
use Rattle.redirection.specs.Address.{address_text}
use Rattle.redirection.specs.Redirection.{IsRedirection, redirection_text}
use Rattle.redirection.specs.declared.redirection.Redirection.TheVariants.{Moved, Ask}

-- the example of the specification
moved : redirection_text (Moved 3999 (record { host = codes "127.0.0.1"; port = 6381 })) ≡ codes "MOVED 3999 127.0.0.1:6381"
unfolding digits
moved = refl

-- it is a redirection, since there are such a slot and such an address
moved_is : IsRedirection (codes "MOVED 3999 127.0.0.1:6381") (Moved 3999 (record { host = codes "127.0.0.1"; port = 6381 }))
moved_is = record { text_is = sym moved; slot = omega arith; to = record { host = refl; port = (omega arith, omega arith) }; number = tt }

ask : redirection_text (Ask 3999 (record { host = codes "127.0.0.1"; port = 6381 }) None) ≡ codes "ASK 3999 127.0.0.1:6381"
unfolding digits
ask = refl

-- with the number of the move
numbered_ask : redirection_text (Ask 0 (record { host = codes "node-1"; port = 65535 }) (Some 7)) ≡ codes "ASK 0 node-1:65535 7"
unfolding digits
numbered_ask = refl

address : address_text (record { host = codes "127.0.0.1"; port = 6381 }) ≡ codes "127.0.0.1:6381"
unfolding digits
address = refl
