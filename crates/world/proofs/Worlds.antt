-- Steps of a world.
use Rattle.std.proofs.Common.{◌≡◌, arith, Bool, true, false, cond, List, [], ◌∷◌, ◌++◌, refl, sym, ap, subst, ◌∙◌, append-nil, append_assoc}
use Rattle.std.specs.Prelude.{reverse}
use Rattle.cluster_config.specs.Config.{ClusterConfig, IsCluster}
use Rattle.world_run.specs.Executed.{KeepsAsking, MayAsk, answered}
use Rattle.world_run.specs.Promotions.{ends_one_keyspace, promoted_in, until_promotion}
use Rattle.world_run.specs.Run.{Entry, Goes, first_nodes}
use Rattle.world_nodes.specs.Nodes.{GoesOn}
use Rattle.world_nodes.specs.declared.output.Output.{Output}
use Rattle.world_nodes.proofs.Going.{keeps-append}
use Rattle.world_nodes.proofs.Runs.{goes-append}
use Rattle.world.specs.Plays.{Plays, PlaysAll}
use Rattle.world.specs.Asking.{KeepsRule}
use Rattle.world.specs.Reached.{IsPlayed, IsReached}
use Rattle.world.specs.View.{IsWhole, SceneView, WorldView, first_scene, first_world}
use Rattle.world.specs.declared.step.Step.{Step}
use Rattle.world.proofs.Rule.{first_rule, plays_well}

-- ---- steps one after another

-- one step more
pub plays_one_more : (old mid new : SceneView) (steps : List Step) (step : Step) (outputs shown : List Output) → PlaysAll old steps outputs mid → Plays mid step shown new
    → PlaysAll old (steps ++ step ∷ []) (outputs ++ shown) new
plays_one_more old mid new [] step outputs shown before plays = (
  new,
  shown,
  [],
  subst (λ (scene : SceneView). Plays scene step shown new) before.1 plays,
  (refl, refl),
  ap (λ (others : List Output). others ++ shown) before.0 ∙ sym (append-nil shown),
)
plays_one_more old mid new (first ∷ steps) step outputs shown before plays = (
  before.0,
  before.1,
  before.2 ++ shown,
  before.3,
  plays_one_more before.0 mid new steps step before.2 shown before.4 plays,
  ap (λ (others : List Output). others ++ shown) before.5 ∙ append_assoc before.1 before.2 shown,
)

-- ---- worlds

-- the cluster as it begins
pub first_reached : (config : ClusterConfig) → IsCluster config → IsReached (first_world config)
first_reached config cluster_is = record {
  cluster = cluster_is;
  goes = refl;
  keeps = tt;
  whole = λ ample. record { remembers = refl; settled = λ place client below. absurd (omega (arith, below)) };
  rule = λ ample. first_rule config;
  played = λ ample. record { steps = []; outputs = []; plays = (refl, refl) };
}

-- a world that goes on is reached, if nothing is lost as long as memory isn't refused
pub reaches_on : (old new : WorldView) → IsReached old → new.scene.config ≡ old.scene.config → GoesOn old.scene.run new.scene.run
    → (new.refused ≡ false → IsWhole new.scene) → (new.refused ≡ false → KeepsRule new.scene) → (new.refused ≡ false → IsPlayed new.scene) → IsReached new
reaches_on old new reached same on whole rule played =
    let first = reverse old.scene.run.entries in
    let behind : Goes (first ++ []) old.scene.run.nodes on.entries new.scene.run.nodes =
    subst (λ (past : List Entry). Goes past old.scene.run.nodes on.entries new.scene.run.nodes) (sym (append-nil first)) on.goes in
    let all : Goes [] (first_nodes old.scene.config) (old.scene.run.entries ++ on.entries) new.scene.run.nodes =
    goes-append [] (first_nodes old.scene.config) old.scene.run.nodes new.scene.run.nodes old.scene.run.entries on.entries reached.goes behind in
    let asked : KeepsAsking (first ++ []) on.entries = subst (λ (past : List Entry). KeepsAsking past on.entries) (sym (append-nil first)) on.keeps in
    let keeps : KeepsAsking [] (old.scene.run.entries ++ on.entries) = keeps-append [] old.scene.run.entries on.entries reached.keeps asked in
    record {
      cluster = subst IsCluster (sym same) reached.cluster;
      goes = rw (same, on.added) all;
      keeps = subst (KeepsAsking []) (sym on.added) keeps;
      whole = whole;
      rule = rule;
      played = played;
    }

-- one step further
pub rule_on : (old new : WorldView) (step : Step) (outputs : List Output) → IsReached old → old.refused ≡ false → Plays old.scene step outputs new.scene → KeepsRule new.scene
rule_on old new step outputs reached ample plays = plays_well old.scene reached.cluster (reached.rule ample) step outputs new.scene plays

pub played_on : (old new : WorldView) (step : Step) (outputs : List Output) → IsReached old → old.refused ≡ false → new.scene.config ≡ old.scene.config
    → Plays old.scene step outputs new.scene → IsPlayed new.scene
played_on old new step outputs reached ample same plays =
    let before = reached.played ample in
    record {
      steps = before.steps ++ step ∷ [];
      outputs = before.outputs ++ outputs;
      plays = subst (λ (config : ClusterConfig). PlaysAll (first_scene config) (before.steps ++ step ∷ []) (before.outputs ++ outputs) new.scene) (sym same)
          (plays_one_more (first_scene old.scene.config) old.scene new.scene before.steps step before.outputs outputs before.plays plays);
    }

-- who keeps to the asking rule does so up to the first unplanned promotion
keeps_by_end : (past : List Entry) (entry : Entry) (entries : List Entry) (is_end : Bool) → MayAsk past entry.node (answered entry.deed) → KeepsAsking (entry ∷ past) entries
    → KeepsAsking past (cond is_end [] (entry ∷ entries))
keeps_by_end past entry entries true may keeps = tt
keeps_by_end past entry entries false may keeps = (may, keeps)

pub keeps_until_promotion : (past entries : List Entry) → KeepsAsking past entries → KeepsAsking past (until_promotion entries)
keeps_until_promotion past [] keeps = keeps
keeps_until_promotion past (entry ∷ entries) keeps =
    keeps_by_end past entry (until_promotion entries) (ends_one_keyspace (promoted_in entry.deed)) keeps.0 (keeps_until_promotion (entry ∷ past) entries keeps.1)
