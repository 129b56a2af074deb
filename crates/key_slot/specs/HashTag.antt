-- The hash tag of a key (Redis Cluster specification, "Hash tags").
use Rattle.std.specs.Prelude.{◌≡◌, ◌≢◌, ℕ, ◌==◌, Bool, ◌&&◌, nat_lt, if◌then◌else◌, ◌⊎◌, List, [], ◌∷◌, ◌++◌, length, All, Option, Some, None, unwrap_or}
use Rattle.std.specs.List.{before_first, after_first, list_any}

-- `{`
abbrev pub opening : ℕ
opening = 123

-- `}`
abbrev pub closing : ℕ
closing = 125

-- key = p { tag } q, where p has no `{`, tag has no `}` and isn't empty
pub record IsTagged (key tag : List ℕ) : Type 0 where
  pub p : List ℕ
  pub q : List ℕ
  pub parts : key ≡ p ++ opening ∷ (tag ++ closing ∷ q)
  pub first_opening : All (λ b. b ≢ opening) p
  pub first_closing : All (λ b. b ≢ closing) tag
  pub some : tag ≢ []

-- the tag is that part of the key, or the key itself where it has none
abbrev pub IsTagOf : List ℕ → List ℕ → Type 0
IsTagOf key tag = IsTagged key tag ⊎ ((tag ≡ key) × ((t : List ℕ) → ¬ IsTagged key t))

-- what follows the first `{`
abbrev pub after_opening : List ℕ → List ℕ
after_opening key = after_first (λ b. b == opening) key

-- what stands there before the first `}`
abbrev pub before_closing : List ℕ → List ℕ
before_closing key = before_first (λ b. b == closing) (after_opening key)

-- a `}` is there, and a byte before it
abbrev pub has_tag : List ℕ → Bool
has_tag key = list_any (λ b. b == closing) (after_opening key) && nat_lt 0 (length (before_closing key))

-- the bytes between the first `{` and the first `}` after it, where there are such braces and a byte between them
abbrev pub braced : List ℕ → Option (List ℕ)
braced key = if has_tag key then Some (before_closing key) else None

-- the tag of a key, as a function
unfoldable pub hash_tag : List ℕ → List ℕ
hash_tag key = unwrap_or (braced key) key
