use Rattle.std.proofs.Common.{◌∙◌}
use mathlib.Core.List.{map-id}
use Rattle.link_ends.proofs.port_ends.PortEnds+LinkEnd+T+R.plain.Goals as goal

pub returns : goal.returns
returns g c = c.new.ensures ∙ map-id c.into_vec.result.items ∙ c.into_vec.ensures
