-- Keys that an order names, one after another.
use Rattle.std.specs.Prelude.{ℕ, ◌&&◌, ◌++◌, Bool, not, List, [], ◌∷◌, if◌then◌else◌}
use Rattle.migrate.specs.Sending.{is_among}

-- one more, if it is there and none of them
abbrev pub with_named : List (List ℕ) → List ℕ → Bool → List (List ℕ)
with_named keys key is_there = if is_there && not (is_among keys key) then keys ++ key ∷ [] else keys
