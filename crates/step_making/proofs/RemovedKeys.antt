-- Keys that are removed one after another.
use Rattle.std.proofs.Common.{◌≡◌, ◌<◌, ◌+◌, ◌++◌, ℕ, List, [], ◌∷◌, length, take, get_or, refl, sym, ap, ◌∙◌}
use Rattle.std.proofs.lemmas.List.{take_more}
use Rattle.std.specs.FinMap as fin_map
use Rattle.keyspace.specs.Keyspace.{Keyspace}
use Rattle.node_step.specs.Copies.{without}

without-behind : (keyspace : Keyspace) (keys : List (List ℕ)) (key : List ℕ) → fin_map.remove (without keyspace keys) key ≡ without keyspace (keys ++ key ∷ [])
without-behind keyspace [] key = refl
without-behind keyspace (first ∷ keys) key = without-behind (fin_map.remove keyspace first) keys key

-- one more of the keys is removed
pub without-more : (keyspace : Keyspace) (keys : List (List ℕ)) (i : ℕ) (key : List ℕ) → i < length keys → key ≡ get_or keys i key
    → fin_map.remove (without keyspace (take i keys)) key ≡ without keyspace (take (i + 1) keys)
without-more keyspace keys i key within is =
    without-behind keyspace (take i keys) key
    ∙ ap (λ (some : List (List ℕ)). without keyspace some) (sym (take_more keys i key within ∙ ap (λ last. take i keys ++ last ∷ []) (sym is)))
