-- What holds of the texts of redirections, whoever reads or writes them (the law is ours; the texts are those of the Redis Cluster
-- specification, "MOVED Redirection", "ASK redirection").
use Rattle.std.specs.Prelude.{◌≡◌, ℕ, List}
use Rattle.redirection.specs.Redirection.{IsRedirection}
use Rattle.redirection.specs.declared.redirection.Redirection.{Redirection}

-- a text sends a client to one place, in one way
abbrev pub TextIsOfOneRedirection : Type 0
TextIsOfOneRedirection = (text : List ℕ) (one other : Redirection) → IsRedirection text one → IsRedirection text other → one ≡ other
