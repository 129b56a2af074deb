-- A list that only proofs read. No public clause needs it: clauses see a list.
use Rattle.std.specs.Prelude.{List, [], ◌∷◌, ◌++◌}
use Rattle.history.specs.declared.history.Last.{Last}
use Rattle.history.specs.declared.history.Last.TheVariants.{Nothing, More}

-- the items of the shorter history, and one more
abbrev pub items : {A : Type 0} → Last A → List A
items Nothing = []
items (More before last) = before.value ++ last.value ∷ []
