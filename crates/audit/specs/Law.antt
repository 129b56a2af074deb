-- What merged journals are.
use Rattle.std.specs.Prelude.{◌≡◌, ◌<◌, ℕ, List, [], length, map}
use Rattle.std.specs.List.{range_with_len}
use Rattle.cluster_config.specs.Config.{ClusterConfig}
use Rattle.merged_run.specs.Merged.{entries_of}
use Rattle.cell_parts.specs.declared.entry.Entry.{Entry as JournalEntry}
use Rattle.world_run.specs.Executed.{AreOfOneKeyspace, KeepsAsking, executed}
use Rattle.world_run.specs.Promotions.{until_promotion}
use Rattle.world_run.specs.Run.{Entry, IsRun}
use Rattle.audit.specs.Merge.{AreJournals, journal_of, merged, placed}

-- a run of a cluster
pub record RunView : Type 0 where
  pub config : ClusterConfig
  pub entries : List Entry

-- each number below the number of tickets once, in order
abbrev pub IsNumbered : ℕ → List Entry → Type 0
IsNumbered tickets entries = map (λ (entry : Entry). entry.ticket) entries ≡ range_with_len 0 tickets

-- each node's part is its journal
abbrev pub HasJournals : List (List JournalEntry) → List Entry → Type 0
HasJournals journals entries = (node : ℕ) → node < length journals → entries_of node entries ≡ map (placed node) (journal_of journals node)

pub record IsMerge (config : ClusterConfig) (tickets : ℕ) (journals : List (List JournalEntry)) (entries : List Entry) : Type 0 where
  pub numbered : IsNumbered tickets entries
  pub journals_are : HasJournals journals entries
  pub run : IsRun config entries

abbrev pub JournalsAreARun : Type 0
JournalsAreARun = (config : ClusterConfig) (tickets : ℕ) (journals : List (List JournalEntry)) → AreJournals config tickets journals → IsMerge config tickets journals (merged tickets journals)

-- up to the first unplanned promotion clients keep to the asking rule
abbrev pub KeepsAskingRule : List Entry → Type 0
KeepsAskingRule entries = KeepsAsking [] (until_promotion entries)

-- the replies up to there are those of one keyspace
abbrev pub HasOneKeyspace : List Entry → Type 0
HasOneKeyspace entries = AreOfOneKeyspace (executed (until_promotion entries))
