use Rattle.std.proofs.Common.{refl, Some, None}
use Rattle.smart_client.proofs.client_core.no_owners.Goals as goal

pub returns : goal.returns
returns c = record { owners = c.in_ok-from_elem.ensures.items_if_clones_equal (elim [ None ↦ λ copied. refl | Some owner ↦ λ copied. absurd copied ]) }
