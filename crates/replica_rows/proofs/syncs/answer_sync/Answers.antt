use Rattle.std.proofs.Common.{sym, ◌∙◌, rules, refl}
use Rattle.replica_rows.proofs.SyncLemmas.{master_synced, replica_synced}
use Rattle.replica_rows.proofs.syncs.answer_sync.Goals as goal

pub returns-then-is_replica : goal.returns-then-is_replica
returns-then-is_replica g c =
    replica_synced c.args.node.now c.args.from c.args.sync.now c.draft_change.new.draft (sym c.is_replica.ensures ∙ c.if-is_replica.true) (c.draft_change.ensures _ refl)

pub returns : goal.returns
returns g c =
    master_synced c.args.node.now c.args.from c.args.sync.now c.draft_releases.new.draft _ _ (sym c.is_replica.ensures ∙ c.if-is_replica.false)
    (c.in_ok-bodies.ensures ∙ c.in_ok-sync_answer.ensures) (search rules) (c.draft_releases.ensures _ refl)
