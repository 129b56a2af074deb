use Rattle.key_map.proofs.Places.{rising_none}
use Rattle.key_map.proofs.key_map.KeyMap.new.Goals as goal

pub invariant_of-result : goal.invariant_of-result
invariant_of-result g c = rising_none _ c.new.ensures
