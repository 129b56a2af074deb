-- Verdicts and decisions, read backwards.
pub use Rattle.node_step.proofs.Verdicts.{same_bytes, bytes_themselves, import_begins, migration_begins, import_runs, migration_runs, replicas_import_nothing, replicas_migrate_nothing, import_ends, copy_is_next, copy_is_again, copy_arrives, copy_repeats, ack_counts, serves, serves_import, asks}
