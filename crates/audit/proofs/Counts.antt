-- What the run of journals counts.
use Rattle.std.proofs.Common.{◌≡◌, ◌∙◌, ℕ, List, length, sym, ap}
use Rattle.std.proofs.lemmas.List.{length-map}
use Rattle.std.proofs.lemmas.List.FromFn.{length-range_with_len}
use Rattle.cluster_config.specs.Config.{ClusterConfig}
use Rattle.cell_parts.specs.declared.entry.Entry.{Entry as JournalEntry}
use Rattle.world_run.specs.Run.{Entry}
use Rattle.audit.specs.Merge.{AreJournals, merged}
use Rattle.audit.proofs.Merging.{journals_are_a_run}

pub as_many : (config : ClusterConfig) (tickets : ℕ) (journals : List (List JournalEntry)) → AreJournals config tickets journals → tickets ≡ length (merged tickets journals)
as_many config tickets journals are =
    let merge = journals_are_a_run config tickets journals are in
    sym (length-range_with_len 0 tickets) ∙ ap length (sym merge.numbered) ∙ length-map (merged tickets journals) (λ (entry : Entry). entry.ticket)
