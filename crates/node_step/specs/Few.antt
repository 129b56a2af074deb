-- A list that nearly always is empty (ours).
use Rattle.std.specs.Prelude.{List, [], Option, Some, None, Box, Vec}

-- the items behind a pointer, which isn't there where there is none
abbrev pub listed : {A Z : Type 0} → Option (Box (Vec A Z) Z) → List A
listed None = []
listed (Some items) = items.value.items

-- what is behind a pointer, if there is one
abbrev pub behind : {A Z : Type 0} → Option (Box A Z) → Option A
behind None = None
behind (Some item) = Some item.value
