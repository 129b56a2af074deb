-- Which keys one request moves (Redis command reference, "MIGRATE", "Migrating multiple keys with a single command call"; RESP protocol,
-- "Sending commands to a Redis server"; the limits of a request are ours).
use Rattle.std.specs.Prelude.{ℕ, Bool, ◌&&◌, nat_le, List, [], ◌∷◌, ◌++◌, length, map, find, unwrap_or}
use Rattle.std.specs.List.{list_all}
use Rattle.redirection.specs.Address.{Place}
use Rattle.resp_values.specs.Request.{request_spelling}
use Rattle.resp_values.specs.Limits.{most_words, most_word_bytes, most_request_bytes}
use Rattle.resharder.specs.Orders.{migrate_words}

-- keys, and the node to which they are to be moved
pub record MigratedKeys : Type 0 where
  pub to : Place
  pub keys : List (List ℕ)

-- the words keep the limits of a request
abbrev pub keep_limits : List (List ℕ) → Bool
keep_limits words =
    nat_le (length words) most_words
    && list_all (λ word. nat_le (length word) most_word_bytes) words
    && nat_le (length (request_spelling words)) most_request_bytes

-- the fronts of a list, the longest first
abbrev pub fronts : {X : Type 0} → List X → List (List X)
fronts [] = [] ∷ []
fronts (x ∷ xs) = map (λ front. x ∷ front) (fronts xs) ++ [] ∷ []

-- as many of the keys, from the front, as one MIGRATE to the node can name: the longest front with which it keeps the limits
unfoldable pub keys_at_once : Place → List (List ℕ) → List (List ℕ)
keys_at_once place keys = unwrap_or (find (λ front. keep_limits (migrate_words place front)) (fronts keys)) []

-- these are moved to the node at once
abbrev pub migration : Place → List (List ℕ) → MigratedKeys
migration place keys = record { to = place; keys = keys_at_once place keys }
