use Rattle.link_ends.proofs.NamingLemmas.{all_unused}
use Rattle.link_ends.proofs.port_ends.link_shims.Goals as goal

pub shim_all-requires : goal.shim_all-requires
shim_all-requires g c = all_unused _ _ c.in_ok-ends.ensures.linked
