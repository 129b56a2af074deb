-- The texts of the errors by which a node sends a client to another one (Redis Cluster specification, "MOVED Redirection", "ASK
-- redirection").
use Rattle.std.specs.Prelude.{List, ℕ, Option, Some, None, ◌++◌, codes, decimal}

-- a slot, and the address of a node
abbrev pub place_text : ℕ → List ℕ → ℕ → List ℕ
place_text slot host port = decimal slot ++ codes " " ++ host ++ codes ":" ++ decimal port

-- the slot of the keys, and the node that owns it (Redis Cluster specification, "MOVED Redirection")
abbrev pub moved_text : ℕ → List ℕ → ℕ → List ℕ
moved_text slot host port = codes "MOVED " ++ place_text slot host port

-- the slot of the keys, and the node that it moves to (Redis Cluster specification, "ASK redirection"); then, where the
-- connection wants it, the number of the move, which is this project's own
abbrev pub ask_text : ℕ → List ℕ → ℕ → Option ℕ → List ℕ
ask_text slot host port None = codes "ASK " ++ place_text slot host port
ask_text slot host port (Some number) = codes "ASK " ++ place_text slot host port ++ codes " " ++ decimal number
