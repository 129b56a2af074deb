use Rattle.std.proofs.Common.{◌∙◌, ap, refl, Some, None}
use Rattle.std.proofs.lemmas.List.{get_or-replicate}
use Rattle.slot_table.specs.Table.{entry_at}
use Rattle.slot_table.proofs.table.first_entries.Goals as goal

pub give_all-requires-clause-free : goal.give_all-requires-clause-free
give_all-requires-clause-free c slot lt =
    let none = c.in_ok-entries.ensures.items_if_clones_equal (elim [ None ↦ λ copied. refl | Some entry ↦ λ copied. absurd copied ]) in
    ap (λ entries. entry_at entries slot) (c.as_mut_slice.ensures.value ∙ none) ∙ get_or-replicate 16384 slot None None lt
