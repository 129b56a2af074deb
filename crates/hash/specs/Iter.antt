-- The pairs that are left to an iterator.
use Rattle.std.specs.Slice.Iter.{iter_rest}
use Rattle.hash.specs.Holed.{left_of}
use Rattle.hash.specs.Pairs.{Pairs}
use Rattle.hash.specs.declared.iter.Form.{Form}
use Rattle.hash.specs.declared.iter.Form.TheVariants.{Packed, Few, Many, Holed}

abbrev pub pairs_left : Form → Pairs
pairs_left (Packed walk) = walk
pairs_left (Few pairs) = iter_rest pairs
pairs_left (Many pairs) = pairs
pairs_left (Holed left) = left_of left.pairs left.removed.now.keys
