-- The entries of a map in each of its forms. No public clause needs it: clauses see the entries.
use Rattle.std.specs.Prelude.{ℕ, List}
use Rattle.key_map.specs.declared.form.Form.{Form}
use Rattle.key_map.specs.declared.form.Form.TheVariants.{Few, Many}

abbrev pub entries_of : {X : Type 0} → Form X → List (List ℕ × X)
entries_of (Few few) = few.pairs.items
entries_of (Many tree) = tree.entries
