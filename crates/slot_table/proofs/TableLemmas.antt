-- A table is known by its entries.
use Rattle.std.proofs.Common.{◌≡◌, ◌<◌, ℕ, List, Option, length, sym, ◌∙◌, arith}
use Rattle.std.proofs.lemmas.List.{ext_get_or}
use Rattle.std.proofs.lemmas.List.FromFn.{get_or-map-range_with_len, length-map-range_with_len}
use Rattle.std.specs.Prelude.{None}
use Rattle.slot_table.specs.declared.entry.SlotEntry.{SlotEntry}
use Rattle.slot_table.specs.declared.runs.Run.{Run}
use Rattle.slot_table.specs.Table.{entry_at, first_entry, first_table}

-- a table with the first entry of each slot is the first table
pub is_first_table : (owners : List (Run ℕ)) (entries : List (Option SlotEntry)) → length entries ≡ 16384
    → ((slot : ℕ) → slot < 16384 → entry_at entries slot ≡ first_entry owners slot) → entries ≡ first_table owners
unfolding first_table
is_first_table owners entries whole each =
    ext_get_or None entries _ (whole ∙ sym (length-map-range_with_len (first_entry owners) 0 16384)) (λ slot lt.
    let below : slot < 16384 = rw (sym whole) lt in
    each slot below ∙ sym (get_or-map-range_with_len (first_entry owners) 0 16384 slot slot None below (omega arith)))
