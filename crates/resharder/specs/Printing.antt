-- What is printed of a slot that was moved (this project's own).
use Rattle.std.specs.Prelude.{◌++◌, ℕ, List, Option, None, Some, codes, decimal}
use Rattle.resharder.specs.declared.moved_slot.MovedSlot.{MovedSlot}

-- 0 where no move brought the slot there
abbrev pub shown_number : Option ℕ → ℕ
shown_number None = 0
shown_number (Some number) = number

-- `slot <slot> move <number> keys <keys>`, a line
abbrev pub line_of : MovedSlot → List ℕ
line_of moved = codes "slot " ++ decimal moved.slot ++ codes " move " ++ decimal (shown_number moved.number) ++ codes " keys " ++ decimal moved.keys ++ codes "\n"
