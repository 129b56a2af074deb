-- The errors by which a node sends a client to another one (Redis Cluster specification, "MOVED Redirection", "ASK
-- redirection"). Their texts are those that nodes write.
use Rattle.std.specs.Prelude.{◌≡◌, ◌<◌, ◌≤◌, ◌^◌, ℕ, List, Option, Some, None}
use Rattle.redirection.specs.Texts.{moved_text, ask_text}
use Rattle.redirection.specs.Address.{Place, IsAddress}
use Rattle.redirection.specs.declared.redirection.Redirection.{Redirection}
use Rattle.redirection.specs.declared.redirection.Redirection.TheVariants.{Moved, Ask}

-- the text that a node writes
abbrev pub redirection_text : Redirection → List ℕ
redirection_text (Moved slot to) = moved_text slot to.host to.port
redirection_text (Ask slot to number) = ask_text slot to.host to.port number

-- the slot of the keys
abbrev pub slot_of : Redirection → ℕ
slot_of (Moved slot to) = slot
slot_of (Ask slot to number) = slot

-- the node to be asked
abbrev pub address_of : Redirection → Place
address_of (Moved slot to) = to
address_of (Ask slot to number) = to

-- the number of the move, which is this project's own
abbrev pub move_of : Redirection → Option ℕ
move_of (Moved slot to) = None
move_of (Ask slot to number) = number

-- a move's number has 63 bits, and isn't 0
abbrev pub IsMove : Option ℕ → Type 0
IsMove None = Unit {0}
IsMove (Some number) = (1 ≤ number) × (number < 2 ^ 63)

-- the text is that of the redirection, which tells a slot that there is, an address, and a number that a move can have
pub record IsRedirection (text : List ℕ) (redirection : Redirection) : Type 0 where
  pub text_is : text ≡ redirection_text redirection
  pub slot : slot_of redirection < 16384
  pub to : IsAddress (address_of redirection)
  pub number : IsMove (move_of redirection)

-- no node writes the text to send a client to another one
abbrev pub IsNoRedirection : List ℕ → Type 0
IsNoRedirection text = (redirection : Redirection) → ¬ IsRedirection text redirection
