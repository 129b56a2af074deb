use Rattle.std.proofs.Common.{ℕ, List, ap, ◌∙◌}
use Rattle.std.specs.List.{list_all}
use Rattle.slot_store.specs.InSlot.{is_among}
use Rattle.slot_store.proofs.KeyEntries.{keys_of_map}
use Rattle.slot_store.proofs.part.TreeStorePart.has_only.Goals as goal

pub returns : goal.returns
returns c =
    c.are_all_among.ensures.all
    ∙ ap (λ (keys : List (List ℕ)). list_all (is_among c.args.keys.now) keys) (keys_of_map c.args.self.now c.are_all_among.ensures.ordered)
