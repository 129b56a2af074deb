-- The connections of a client, one to each node.
use Rattle.std.proofs.Common.{◌≡◌, ℕ, zero, suc, List, [], ◌∷◌, get_or, set, Option, None, Some, refl, sym, ap}

-- there is none any more
pub none_here : {A : Type 0} (pool : List (Option A)) (node : ℕ) → get_or (set pool node None) node None ≡ None
none_here [] node = refl
none_here (first ∷ pool) zero = refl
none_here (first ∷ pool) (suc node) = none_here pool node

-- the one that is there is the one that was put there
pub put_is : {A : Type 0} (pool : List (Option A)) (node : ℕ) (one other : A) → get_or (set pool node (Some one)) node None ≡ Some other → one ≡ other
put_is [] node one other is = absurd (cc)
put_is (first ∷ pool) zero one other is = cc
put_is (first ∷ pool) (suc node) one other is = put_is pool node one other is

-- what is there already changes nothing
pub put_again : {A : Type 0} (pool : List (Option A)) (node : ℕ) (one : Option A) → get_or pool node None ≡ one → set pool node one ≡ pool
put_again [] node one is = refl
put_again (first ∷ pool) zero one is = ap (λ (head : Option _). head ∷ pool) (sym is)
put_again (first ∷ pool) (suc node) one is = ap (λ (rest : List (Option _)). first ∷ rest) (put_again pool node one is)
