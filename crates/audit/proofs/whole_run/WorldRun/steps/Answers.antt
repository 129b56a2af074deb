use Rattle.std.proofs.Common.{◌∙◌, [], ap, subst, length}
use Rattle.merged_run.specs.Settled.{AreSettled}
use Rattle.promoted_prefix.specs.Law.{PromotionsGoOn}
use Rattle.world_run.specs.Executed.{AreOfOneKeyspace, KeepsAsking, executed}
use Rattle.world_run.specs.Law.{HasOneMasterAnEpoch}
use Rattle.world_run.specs.Promotions.{until_promotion}
use Rattle.world_run.specs.Run.{IsRun}
use Rattle.audit.specs.Law.{RunView}
use Rattle.audit.proofs.Counts.{as_many}
use Rattle.audit.proofs.Merging.{journals_are_a_run}
use Rattle.audit.proofs.whole_run.WorldRun.steps.Goals as goal

pub returns-clause-count : goal.returns-clause-count
returns-clause-count c = as_many _ _ _ c.self.invariant ∙ ap (λ (run : RunView). length run.entries) c.self.view_is

pub returns-clause-run : goal.returns-clause-run
returns-clause-run c = subst (λ (run : RunView). IsRun run.config run.entries) c.self.view_is (journals_are_a_run _ _ _ c.self.invariant).run

pub returns-clause-one_keyspace : goal.returns-clause-one_keyspace
returns-clause-one_keyspace c =
    subst (λ (run : RunView). KeepsAsking [] (until_promotion run.entries) → AreOfOneKeyspace (executed (until_promotion run.entries))) c.self.view_is
    (c.replies_are_those_of_one_keyspace.ensures _ _ c.nodes-of_a_cluster.ensures.cluster (journals_are_a_run _ _ _ c.self.invariant).run)

pub returns-clause-settled : goal.returns-clause-settled
returns-clause-settled c =
    subst (λ (run : RunView). AreSettled (until_promotion run.entries) → AreOfOneKeyspace (executed (until_promotion run.entries))) c.self.view_is
    (c.settled_runs_are_of_one_keyspace.ensures _ _ c.nodes-of_a_cluster.ensures.cluster (journals_are_a_run _ _ _ c.self.invariant).run)

pub returns-clause-one_master : goal.returns-clause-one_master
returns-clause-one_master c =
    subst (λ (run : RunView). HasOneMasterAnEpoch run.config.voters run.entries) c.self.view_is
    (c.no_epoch_has_two_masters.ensures _ _ (journals_are_a_run _ _ _ c.self.invariant).run)

pub returns-clause-promoted_prefix : goal.returns-clause-promoted_prefix
returns-clause-promoted_prefix c = subst (λ (run : RunView). PromotionsGoOn run.config run.entries) c.self.view_is (c.promoted_nodes_go_on.ensures _ _)
