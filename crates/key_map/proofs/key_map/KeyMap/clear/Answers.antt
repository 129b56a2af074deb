use Rattle.key_map.proofs.Places.{rising_none}
use Rattle.key_map.proofs.key_map.KeyMap.clear.Goals as goal

pub invariant_of-self : goal.invariant_of-self
invariant_of-self g c = rising_none _ c.new.ensures
