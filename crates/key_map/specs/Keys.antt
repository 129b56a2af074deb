-- The keys that an iterator has left. No public clause needs it: clauses see the keys.
use Rattle.std.specs.Prelude.{ℕ, List}
use Rattle.std.specs.Map.{keys_of}
use Rattle.key_map.specs.declared.keys.Rest.{Rest}
use Rattle.key_map.specs.declared.keys.Rest.TheVariants.{Few, Many}

abbrev pub keys_left : {X : Type 0} → Rest X → List (List ℕ)
keys_left (Few pairs) = keys_of pairs.now
keys_left (Many keys) = keys
