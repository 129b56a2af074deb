use Rattle.keyspace.proofs.RemovedFields.{sets_planned}
use Rattle.key_commands.proofs.hash_changes.HashChange.setting_each.Goals as goal

pub new-requires : goal.new-requires
new-requires c = sets_planned _ _ c.in_ok-changes.ensures
