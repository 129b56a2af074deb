use Rattle.std.proofs.Common.{sym, ◌∙◌}
use Rattle.std.proofs.lemmas.Cmp.{nat_list_cmp_total}
use Rattle.keyspace.proofs.Maps.{get_seen}
use Rattle.keyspace.proofs.store.KeyMapValueStore.get.Goals as goal

pub returns : goal.returns
returns c = c.get.ensures.value ∙ sym (get_seen nat_list_cmp_total _ _)
