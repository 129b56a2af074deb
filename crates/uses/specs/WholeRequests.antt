-- What a slice of bytes is read as (RESP protocol, "Sending commands to a Redis server").
use Rattle.std.specs.Prelude.{◌≡◌, ℕ, List}
use Rattle.resp2.specs.Law.{IsStream}
use Rattle.resp2.specs.Stream.{IsUnfinished, HasFirstBadByte, with_words}
use Rattle.resp_header.specs.declared.fault.Fault.{Fault}
use Rattle.resp_header.specs.declared.fault.Fault.TheVariants.{Protocol, TooLong, Memory}

-- the bytes are requests, those with words being these, and then the beginning of one; and in no other way are they requests
pub record AreAllRequests (input : List ℕ) (requests : List (List (List ℕ))) : Type 0 where
  pub all : List (List (List ℕ))
  pub rest : List ℕ
  pub stream : IsStream input all rest
  pub unfinished : IsUnfinished rest
  pub are : with_words all ≡ requests
  pub only : (others : List (List (List ℕ))) (more : List ℕ) → IsStream input others more → with_words others ≡ requests

-- the bytes are some requests, and then bytes with this fault
pub record AreSpoiltBy (fault : Fault) (input : List ℕ) : Type 0 where
  pub requests : List (List (List ℕ))
  pub rest : List ℕ
  pub stream : IsStream input requests rest
  pub bad : HasFirstBadByte fault rest

-- why bytes aren't read: memory may be refused at any time
abbrev pub AreRefusedBy : Fault → List ℕ → Type 0
AreRefusedBy Memory input = Unit {0}
AreRefusedBy Protocol input = AreSpoiltBy Protocol input
AreRefusedBy TooLong input = AreSpoiltBy TooLong input
