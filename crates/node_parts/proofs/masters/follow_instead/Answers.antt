use Rattle.std.proofs.Common.{rules}
use Rattle.std.proofs.lemmas.List.Edits.{map_over_more}
use Rattle.node_step.specs.Roles.{instead}
use Rattle.node_parts.proofs.masters.follow_instead.Goals as goal

pub loop-at-preserved : goal.loop-at-preserved
loop-at-preserved c =
    rw c.instead.ensures (map_over_more (instead c.args.former c.args.next) c.args.masters.now c.loop-at.masters c.loop-at.at _ (search rules) c.loop-at.invariant (search rules))
