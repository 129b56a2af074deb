use Rattle.std.proofs.Common.{◌≡◌, arith, rules}
use Rattle.cluster_config.proofs.OwnerLemmas.{owners_more}
use Rattle.cluster_config.proofs.config.Config.first_owners.Goals as goal

pub loop-at-preserved : goal.loop-at-preserved
loop-at-preserved c = record {
  nodes = c.loop-at.invariant.nodes;
  few = c.loop-at.invariant.few;
  given =
      let more = owners_more c.loop-at.runs.items c.deref-node-items.result.now c.loop-at.at c.node-item.result (omega arith) c.node-item.is in
      let same : c.unwrap-owner.result ≡ c.loop-at.at = search rules in
      let grown = c.in_ok-add_runs.ensures in
      cc;
}
