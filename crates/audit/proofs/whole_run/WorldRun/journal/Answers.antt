use Rattle.std.proofs.Common.{rules, ◌≡◌, ◌<◌, ◌∙◌, List, length, map, ap, sym}
use Rattle.cell_parts.specs.declared.entry.Entry.{Entry as JournalEntry}
use Rattle.merged_run.specs.Merged.{entries_of}
use Rattle.audit.specs.Law.{RunView}
use Rattle.audit.specs.Merge.{journal_of, placed}
use Rattle.audit.proofs.Merging.{journals_are_a_run}
use Rattle.audit.proofs.whole_run.WorldRun.journal.Goals as goal

pub returns-clause-some : goal.returns-clause-some
returns-clause-some c =
    let merge = journals_are_a_run c.self.inside.config c.self.inside.tickets c.self.inside.journals.items c.self.invariant in
    let within : c.args.node < length c.self.inside.journals.items = search rules in
    let entries : journal_of c.self.inside.journals.items c.args.node ≡ c.entries.result.now = search rules in
    sym (ap (λ (run : RunView). entries_of c.args.node run.entries) c.self.view_is) ∙ merge.journals_are c.args.node within ∙ ap (λ (all : List JournalEntry). map (placed c.args.node) all) entries
