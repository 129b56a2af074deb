-- Journals of the nodes of a cluster, merged (ours).
use Rattle.std.specs.Prelude.{◌≡◌, ◌<◌, ◌==◌, ℕ, ⊤, List, [], ◌∷◌, filter, length, All}
use Rattle.cluster_config.specs.Config.{ClusterConfig}
use Rattle.node_step.specs.State.{NodeState, first_state}
use Rattle.node_step.specs.Step.{NodeStep}
use Rattle.world_run.specs.Run.{Deed, Entry, IsRun, MayHappen}
use Rattle.world_run.specs.Run.Deed.{Made, Skipped}

-- the entries of a node, in order
abbrev pub entries_of : ℕ → List Entry → List Entry
entries_of number entries = filter (λ (entry : Entry). entry.node == number) entries

-- a step of the node, or nothing
abbrev pub Steps : ℕ → NodeState → Deed → NodeState → Type 0
Steps ticket before (Made event outputs) after = NodeStep ticket before event outputs after
Steps ticket before Skipped after = after ≡ before

-- the entries of one node lead from a state to another
abbrev pub LeadsTo : NodeState → List Entry → NodeState → Type 0
LeadsTo first [] last = last ≡ first
LeadsTo first (entry ∷ entries) last = (next : NodeState) × Steps entry.ticket first entry.deed next × LeadsTo next entries last

-- from a state to some other
pub record IsJournalFrom (first : NodeState) (entries : List Entry) : Type 0 where
  pub last : NodeState
  pub leads : LeadsTo first entries last

abbrev pub MayHappenIn : List Entry → Deed → Type 0
MayHappenIn past (Made event outputs) = MayHappen past event
MayHappenIn past Skipped = ⊤

-- each message that arrives was sent by an entry before: what an audit checks at run time
abbrev pub AllWereSent : List Entry → List Entry → Type 0
AllWereSent past [] = ⊤
AllWereSent past (entry ∷ entries) = MayHappenIn past entry.deed × AllWereSent (entry ∷ past) entries

-- entries of the nodes of a cluster, merged in some order
pub record AreMerged (config : ClusterConfig) (entries : List Entry) : Type 0 where
  pub nodes : All (λ (entry : Entry). entry.node < length config.nodes) entries
  pub journals : (number : ℕ) → number < length config.nodes → IsJournalFrom (first_state config number) (entries_of number entries)
  pub sent : AllWereSent [] entries

abbrev pub MergedJournalsAreARun : Type 0
MergedJournalsAreARun = (config : ClusterConfig) (entries : List Entry) → AreMerged config entries → IsRun config entries
