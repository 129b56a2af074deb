-- A word where it lies in a hash. No public clause needs it: clauses see the bytes.
use Rattle.std.specs.Prelude.{ℕ, List}
use Rattle.hash.specs.declared.word.Form.{Form}
use Rattle.hash.specs.declared.word.Form.TheVariants.{String, Packed}

abbrev pub bytes_of_word : Form → List ℕ
bytes_of_word (String string) = string.now
bytes_of_word (Packed bytes) = bytes.now
