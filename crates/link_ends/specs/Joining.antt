-- One node more (ours).
use Rattle.std.specs.Prelude.{List, [], ◌∷◌, ◌++◌}
use Rattle.link_ends.specs.Ends.{EndView}

-- the other end of both links, where none was used
abbrev pub facing : {T : Type 0} → EndView T → EndView T
facing end = record { to = end.from; from = end.to; sent = []; received = [] }

-- each node's ends and then the one that faces its end of these, as far as there are any
abbrev pub joined : {T : Type 0} → List (List (EndView T)) → List (EndView T) → List (List (EndView T))
joined others [] = others
joined [] (end ∷ row) = []
joined (ends ∷ others) (end ∷ row) = (ends ++ facing end ∷ []) ∷ joined others row
