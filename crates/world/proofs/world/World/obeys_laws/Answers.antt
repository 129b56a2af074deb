use Rattle.std.proofs.Common.{[], subst}
use Rattle.promoted_prefix.specs.Law.{PromotionsGoOn}
use Rattle.world.specs.View.{WorldView}
use Rattle.world_run.specs.Executed.{AreOfOneKeyspace, executed}
use Rattle.world_run.specs.Law.{HasOneMasterAnEpoch}
use Rattle.world_run.specs.Promotions.{until_promotion}
use Rattle.world.proofs.Worlds.{keeps_until_promotion}
use Rattle.world.proofs.world.World.obeys_laws.Goals as goal

pub returns-clause-one_keyspace : goal.returns-clause-one_keyspace
returns-clause-one_keyspace c =
    let scene = c.self.inside.scene in
    subst (λ (world : WorldView). AreOfOneKeyspace (executed (until_promotion world.scene.run.entries))) c.self.view_is
    (c.replies_are_those_of_one_keyspace.ensures scene.config scene.run.entries c.self.invariant.cluster (record { last = scene.run.nodes; goes = c.self.invariant.goes })
    (keeps_until_promotion [] scene.run.entries c.self.invariant.keeps))

pub returns-clause-one_master : goal.returns-clause-one_master
returns-clause-one_master c =
    let scene = c.self.inside.scene in
    subst (λ (world : WorldView). HasOneMasterAnEpoch world.scene.config.voters world.scene.run.entries) c.self.view_is
    (c.no_epoch_has_two_masters.ensures scene.config scene.run.entries (record { last = scene.run.nodes; goes = c.self.invariant.goes }))

pub returns-clause-promoted_prefix : goal.returns-clause-promoted_prefix
returns-clause-promoted_prefix c =
    let scene = c.self.inside.scene in
    subst (λ (world : WorldView). PromotionsGoOn world.scene.config world.scene.run.entries) c.self.view_is (c.promoted_nodes_go_on.ensures scene.config scene.run.entries)
