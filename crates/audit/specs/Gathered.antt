-- What gathered journals are, and why others aren't gathered.
use Rattle.std.specs.Prelude.{◌≡◌, ◌⊎◌, ◌<◌, ℕ, List, [], length, map, Contains, IfErr, Result}
use Rattle.atomic_table.specs.Seated.{TableId}
use Rattle.cluster_config.specs.Config.{ClusterConfig}
use Rattle.merged_run.specs.Merged.{entries_of}
use Rattle.cell_parts.specs.Journal.{CellView}
use Rattle.cell_parts.specs.declared.entry.Entry.{Entry as JournalEntry}
use Rattle.std.specs.List.{range_with_len}
use Rattle.world_run.specs.Run.{Entry, IsRun}
use Rattle.audit.specs.Law.{RunView}
use Rattle.audit.specs.Merge.{AllAreSound, AreEachOnce, AreTaken, PartView, journal_of, nodes_of, placed}
use Rattle.audit_fault.specs.declared.fault.AuditFault.{AuditFault}
use Rattle.audit_fault.specs.declared.fault.AuditFault.TheVariants.{Stranger}
use Rattle.audit.specs.declared.order.Taken.{Taken}

abbrev pub part_of : CellView → PartView
part_of cell = record { node = cell.node; entries = cell.journal }

abbrev pub parts_of : List CellView → List PartView
parts_of cells = map part_of cells

-- the journals of each node once, merged by their tickets: a run of the cluster, in which each number below that of its entries stands once,
-- in order, and the part of each node is its journal
pub record IsGathered (config : ClusterConfig) (parts : List PartView) (run : RunView) : Type 0 where
  pub each_once : AreEachOnce (length config.nodes) (nodes_of parts)
  pub config_is : run.config ≡ config
  pub run_is : IsRun config run.entries
  pub numbered : map (λ (entry : Entry). entry.ticket) run.entries ≡ range_with_len 0 (length run.entries)
  pub journals_are : (part : PartView) → Contains parts part → entries_of part.node run.entries ≡ map (placed part.node) part.entries

-- by these journals, one of each node, a node took a message that nobody sent
pub record IsUnsound (config : ClusterConfig) (parts : List PartView) : Type 0 where
  pub journals : List (List JournalEntry)
  pub count : length journals ≡ length config.nodes
  pub are : (part : PartView) → Contains parts part → journal_of journals part.node ≡ part.entries
  pub unsound : AllAreSound journals → ⊥

-- there is no part; or they aren't those of each node once; or a node took what nobody sent
abbrev pub HasStranger : ClusterConfig → List PartView → Type 0
HasStranger config parts = (parts ≡ []) ⊎ (AreEachOnce (length config.nodes) (nodes_of parts) → ⊥) ⊎ IsUnsound config parts

-- all these parts are taken apart
abbrev pub IsAllOf : ClusterConfig → TableId → ℕ → Taken → List PartView → Type 0
IsAllOf config table seats taken parts = AreTaken config table seats parts (length config.nodes) taken.journals.items taken.seats.items []

-- the run is what is gathered from the parts that were taken apart, whichever these are
abbrev pub IsGatheredFrom : ClusterConfig → TableId → ℕ → Taken → RunView → Type 0
IsGatheredFrom config table seats taken run = (parts : List PartView) → IsAllOf config table seats taken parts → IsGathered config parts run

-- there is a stranger among the parts that were taken apart, whichever these are
abbrev pub HasStrangerIn : ClusterConfig → TableId → ℕ → Taken → Type 0
HasStrangerIn config table seats taken = (parts : List PartView) → IsAllOf config table seats taken parts → HasStranger config parts

-- the parts aren't those of each node of a cluster once, if it has a node
abbrev pub AreNotOfEach : ClusterConfig → List PartView → Type 0
AreNotOfEach config parts = 0 < length config.nodes → AreEachOnce (length config.nodes) (nodes_of parts) → ⊥

-- P, where a stranger is told
abbrev pub IfStranger : {T : Type 0} → Result T AuditFault → Type 0 → Type 0
IfStranger result P = IfErr result (λ fault. fault ≡ Stranger → P)
