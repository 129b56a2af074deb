use Rattle.std.proofs.Common.{sym, ◌∙◌}
use Rattle.std.proofs.lemmas.Cmp.{nat_list_cmp_total}
use Rattle.keyspace.proofs.Maps.{get_seen}
use Rattle.keyspace.proofs.FirstChange.{get_first, get_more, get_only_more}
use Rattle.keyspace.proofs.changes.NewValues.get.Goals as goal
use Rattle.keyspace.proofs.changes.NewValues.get.Goals.{in_default-via-in-Some+else-eq, in_default-via-in_default}

pub returns-in-Some : goal.returns-in-Some
returns-in-Some c = get_first _ _ _ c.self.view_is _ _ _ c.in-Some.is c.if-eq.ensures

pub returns-in_default : goal.returns-in_default
returns-in_default c =
    c.get.ensures.value ∙ sym (get_seen nat_list_cmp_total _ _)
    ∙ elim c.in_default.branch [
      | in_default-via-in-Some+else-eq w ↦ get_more _ _ _ c.self.view_is _ _ _ w.in-Some.is w.if-eq.ensures
      | in_default-via-in_default w ↦ get_only_more _ _ _ c.self.view_is _ w.in_default.is
    ]
