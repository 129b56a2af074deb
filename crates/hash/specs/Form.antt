-- The pairs of a hash, wherever they lie. No public clause needs it.
use Rattle.hash.specs.Pairs.{Pairs}
use Rattle.hash.specs.declared.hash.Form.{Form}
use Rattle.hash.specs.declared.hash.Form.TheVariants.{Packed, Large}

abbrev pub pairs_of_form : Form → Pairs
pairs_of_form (Packed packed) = packed
pairs_of_form (Large large) = large.value
