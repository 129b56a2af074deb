use Rattle.std.proofs.Common.{rules, ◌≡◌, ℕ, List, Ok, true, false, sym, ap, subst, ◌∙◌, to_z, of_z, w64}
use Rattle.std.specs.List.{position}
use Rattle.std.specs.Str.{bytes_eq}
use Rattle.cluster_config.specs.declared.config.NodeConfig.{NodeConfig}
use Rattle.command_table.specs.declared.command.ClusterCommand.{ClusterCommand}
use Rattle.command_table.specs.declared.command.Command.TheVariants.{Cluster}
use Rattle.node_core.specs.Comes.{AnswersSo}
use Rattle.node_parts.specs.Drafts.{Drafts}
use Rattle.node_core.proofs.AnswerLemmas.{asking_answered, migration_answered, migration_exhausted, order_answered, order_exhausted}
use Rattle.node_step.specs.Copies.{copy_outcome, copy_verdict_on, first_slot, is_at, those_there}
use Rattle.node_step.specs.Requests.{has_copy_number, has_number, using_up}
use Rattle.node_step.specs.State.{NodeState}
use Rattle.node_core.proofs.cluster_commands.answer_about_cluster.Goals as goal

pub returns-in_err-obey-in-SetSlot-clause-exhausted : goal.returns-in_err-obey-in-SetSlot-clause-exhausted
returns-in_err-obey-in-SetSlot-clause-exhausted g c = λ exhausted.
    subst (λ (command : ClusterCommand). has_number (using_up c.args.node.now c.args.conn) (Ok (Cluster command)) ≡ false) (sym c.in-SetSlot.is)
    (order_exhausted c.args.node.now c.args.conn c.in-SetSlot.slot c.in-SetSlot.order c.in-SetSlot.id c.node_with_id.result c.in-SetSlot.number c.node.inside.config.nodes
    (ap (λ (node : NodeState). node.config.nodes) c.node.view_is)
    (c.node_with_id.ensures ∙ ap (λ id. position (λ (node : NodeConfig). bytes_eq node.id id) c.node.inside.config.nodes) (c.as_slice.ensures ∙ c.deref.ensures))
    (c.in_err-obey-in-SetSlot.ensures.exhausted (search rules)))

pub returns-in_ok-obey-in-SetSlot-clause-answer : goal.returns-in_ok-obey-in-SetSlot-clause-answer
returns-in_ok-obey-in-SetSlot-clause-answer g c =
    let draft = c.obey.new.draft in
    subst (λ (command : ClusterCommand). AnswersSo c.args.node.now c.args.conn (Ok (Cluster command)) draft) (sym c.in-SetSlot.is)
    (order_answered c.args.node.now c.args.conn c.in-SetSlot.slot c.in-SetSlot.order c.in-SetSlot.id c.node_with_id.result c.in-SetSlot.number c.node.inside.config.nodes
    draft (ap (λ (node : NodeState). node.config.nodes) c.node.view_is)
    (c.node_with_id.ensures ∙ ap (λ id. position (λ (node : NodeConfig). bytes_eq node.id id) c.node.inside.config.nodes) (c.as_slice.ensures ∙ c.deref.ensures))
    c.in_ok-obey-in-SetSlot.ensures.obeys)

pub returns-in_err-migrate_keys-in-Migrate-clause-exhausted : goal.returns-in_err-migrate_keys-in-Migrate-clause-exhausted
returns-in_err-migrate_keys-in-Migrate-clause-exhausted g c = λ exhausted.
    let target = c.node_at-target.result in
    let same_port : to_z w64 (of_z w64 c.in-Migrate.port) ≡ c.in-Migrate.port = search rules in
    subst (λ (command : ClusterCommand). has_number (using_up c.args.node.now c.args.conn) (Ok (Cluster command)) ≡ false) (sym c.in-Migrate.is)
    (migration_exhausted c.args.node.now c.args.conn c.in-Migrate.host c.in-Migrate.port c.in-Migrate.keys c.in-Migrate.timeout target c.node.inside.config.nodes
    (ap (λ (node : NodeState). node.config.nodes) c.node.view_is)
    (c.node_at-target.ensures ∙ ap (λ port. position (is_at c.as_slice-in-Migrate.result.now port) c.node.inside.config.nodes) same_port
    ∙ ap (λ host. position (is_at host c.in-Migrate.port) c.node.inside.config.nodes) (c.as_slice-in-Migrate.ensures ∙ c.deref-in-Migrate.ensures))
    (subst (λ (keys : List (List ℕ)). has_copy_number (copy_verdict_on c.args.node.now keys target) ≡ false) c.as_slice-in-Migrate-2.ensures.words
    (c.in_err-migrate_keys-in-Migrate.ensures.exhausted (search rules))))

pub returns-in_ok-migrate_keys-in-Migrate-clause-answer : goal.returns-in_ok-migrate_keys-in-Migrate-clause-answer
returns-in_ok-migrate_keys-in-Migrate-clause-answer g c =
    let draft = c.migrate_keys.new.draft in
    let target = c.node_at-target.result in
    let same_port : to_z w64 (of_z w64 c.in-Migrate.port) ≡ c.in-Migrate.port = search rules in
    subst (λ (command : ClusterCommand). AnswersSo c.args.node.now c.args.conn (Ok (Cluster command)) draft) (sym c.in-Migrate.is)
    (migration_answered c.args.node.now c.args.conn c.in-Migrate.host c.in-Migrate.port c.in-Migrate.keys c.in-Migrate.timeout target c.node.inside.config.nodes
    draft (ap (λ (node : NodeState). node.config.nodes) c.node.view_is)
    (c.node_at-target.ensures ∙ ap (λ port. position (is_at c.as_slice-in-Migrate.result.now port) c.node.inside.config.nodes) same_port
    ∙ ap (λ host. position (is_at host c.in-Migrate.port) c.node.inside.config.nodes) (c.as_slice-in-Migrate.ensures ∙ c.deref-in-Migrate.ensures))
    (subst (λ (keys : List (List ℕ)). has_copy_number (copy_verdict_on c.args.node.now keys target) ≡ true) c.as_slice-in-Migrate-2.ensures.words c.in_ok-migrate_keys-in-Migrate.ensures.number)
    (subst (λ (keys : List (List ℕ)). Drafts c.args.node.now (copy_outcome (using_up c.args.node.now c.args.conn) c.args.conn (first_slot keys) (those_there c.args.node.now.keyspace keys) c.in-Migrate.timeout (copy_verdict_on c.args.node.now keys target)) draft)
    c.as_slice-in-Migrate-2.ensures.words c.in_ok-migrate_keys-in-Migrate.ensures.draft))

pub returns-in-Asking-clause-answer : goal.returns-in-Asking-clause-answer
returns-in-Asking-clause-answer g c =
    subst (λ (command : ClusterCommand). AnswersSo c.args.node.now c.args.conn (Ok (Cluster command)) c.allow.new.draft) (sym c.in-Asking.is)
    (asking_answered c.args.node.now c.args.conn c.in-Asking.number c.asking_for.result c.allow.new.draft c.asking_for.ensures c.allow.ensures)
