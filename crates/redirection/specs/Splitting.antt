-- How a text is split at a byte, and what the parts of a redirection are (ours). No public clause needs it.
use Rattle.std.specs.Prelude.{◌≡◌, ◌<◌, ◌≤◌, ◌==◌, ◌∷◌, ◌++◌, [], not, ℕ, Bool, true, List, Option, Some, None, decimal}
use Rattle.std.specs.List.{list_all}
use Rattle.redirection.specs.Redirection.{IsMove}

-- the byte isn't in the text
abbrev pub is_without : ℕ → List ℕ → Bool
is_without byte text = list_all (λ other. not (other == byte)) text

-- the parts before and behind the first such byte
pub record IsSplit (byte : ℕ) (text first rest : List ℕ) : Type 0 where
  pub text_is : text ≡ first ++ byte ∷ rest
  pub without : is_without byte first ≡ true

-- the text is the number's, from the least to the greatest that may stand there
pub record IsNumber (least greatest : ℕ) (text : List ℕ) (number : ℕ) : Type 0 where
  pub text_is : text ≡ decimal number
  pub from : least ≤ number
  pub to : number ≤ greatest

abbrev pub IsNoNumber : ℕ → ℕ → List ℕ → Type 0
IsNoNumber least greatest text = (number : ℕ) → ¬ IsNumber least greatest text number

-- anything without a colon, a colon, and a port
pub record IsHostAndPort (text host : List ℕ) (port : ℕ) : Type 0 where
  pub text_is : text ≡ host ++ 58 ∷ decimal port
  pub without : is_without 58 host ≡ true
  pub from : 1 ≤ port
  pub to : port ≤ 65535

abbrev pub IsNoHostAndPort : List ℕ → Type 0
IsNoHostAndPort text = (host : List ℕ) (port : ℕ) → ¬ IsHostAndPort text host port

-- what stands behind an address: nothing, or a blank and the number of a move
abbrev pub number_text : Option ℕ → List ℕ
number_text None = []
number_text (Some number) = 32 ∷ decimal number

-- anything without a blank, and the number of a move where there is one
pub record IsNumbered (text address : List ℕ) (number : Option ℕ) : Type 0 where
  pub text_is : text ≡ address ++ number_text number
  pub without : is_without 32 address ≡ true
  pub is_move : IsMove number

abbrev pub IsNotNumbered : List ℕ → Type 0
IsNotNumbered text = (address : List ℕ) (number : Option ℕ) → ¬ IsNumbered text address number

-- a slot, a blank, and anything
pub record IsSlotAndRest (text : List ℕ) (slot : ℕ) (rest : List ℕ) : Type 0 where
  pub text_is : text ≡ decimal slot ++ 32 ∷ rest
  pub below : slot < 16384

abbrev pub IsNoSlotAndRest : List ℕ → Type 0
IsNoSlotAndRest text = (slot : ℕ) (rest : List ℕ) → ¬ IsSlotAndRest text slot rest
