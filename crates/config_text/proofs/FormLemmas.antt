-- The items of an array and the members of an object, as the code has them.
use Rattle.std.proofs.Common.{◌≡◌, refl, ap, ◌∙◌, ℕ, ◌≤◌, arith, List, [], ◌∷◌, ◌++◌, length, drop, append-nil, Option, Some}
use Rattle.std.specs.Option.{option_map}
use Rattle.std.specs.Prelude.{String}
use Rattle.std.specs.declared.alloc.Global.{Global}
use Rattle.std.proofs.lemmas.List.{at_drop_all}
use Rattle.serde_json.specs.View.{members_view}
use Rattle.serde_json.specs.declared.value.Value.{Value}
use Rattle.config_text.specs.Form.{count_of}

-- an object has as many members as the code has of it
pub count_of_view : (members : List (String Global × Value)) → count_of (members_view members) ≡ length members
count_of_view [] = refl
count_of_view (member ∷ members) = omega (arith, count_of_view members)

-- the items that are read come before those that are still to be read
abbrev pub before : {A : Type 0} → List A → Option (List A) → Option (List A)
before read rest = option_map (λ later. read ++ later) rest

-- nothing is still to be read
pub all_read : {A X : Type 0} (give : List X → Option (List A)) (read : List A) (xs : List X) (i : ℕ) → length xs ≤ i → give [] ≡ Some [] → before read (give (drop i xs)) ≡ Some read
all_read give read xs i le none = ap (before read) (at_drop_all give xs i le ∙ none) ∙ ap Some (append-nil read)
