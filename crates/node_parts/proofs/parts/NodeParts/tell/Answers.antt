use Rattle.std.proofs.Common.{refl}
use Rattle.node_parts.proofs.parts.NodeParts.tell.Goals as goal

pub returns : goal.returns
returns g c = c.draft_reply.ensures _ refl
