use Rattle.std.proofs.Common.{refl, Some, None}
use Rattle.world.proofs.client.empty_pool.Goals as goal

pub returns : goal.returns
returns c = record { pool = c.in_ok-from_elem.ensures.items_if_clones_equal (elim [ None ↦ λ copied. refl | Some conn ↦ λ copied. absurd copied ]) }
