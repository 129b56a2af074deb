-- The ends of a node, and those of the others for it (ours).
use Rattle.std.specs.Prelude.{◌≡◌, ◌<◌, ◌≤◌, ◌+◌, ◌++◌, ℕ, List, [], length, slice_index_or}
use Rattle.link_ends.specs.Ends.{EndView, end_at}

-- what was received at the one end is a beginning of what was sent at the other
abbrev pub HasArrived : {T : Type 0} → EndView T → EndView T → Type 0
HasArrived {T} here there = (waiting : List T) × (here.sent ≡ there.received ++ waiting)

-- the same both ways
pub record BothArrived {T : Type 0} (here there : EndView T) : Type 0 where
  pub sent : HasArrived here there
  pub received : HasArrived there here

-- each sends by the link by which the other receives
pub record FaceEachOther {T : Type 0} (here there : EndView T) : Type 0 where
  pub to : here.to ≡ there.from
  pub from : there.to ≡ here.from

-- a node has an end for each of the others, and the last end that each of these has faces it
pub record AreAcross {T : Type 0} (others : List (List (EndView T))) (row : List (EndView T)) : Type 0 where
  pub count : length row ≡ length others
  pub whole : (node : ℕ) → node < length others → length (slice_index_or others node []) ≡ length others + 1
  pub across : (node : ℕ) (none nothing : EndView T) → node < length others → FaceEachOther (slice_index_or row node none) (end_at others node (length others) nothing)

-- the same both ways between the row's node and each of the others, from that number on
abbrev pub EachArrived : {T : Type 0} → ℕ → List (List (EndView T)) → List (EndView T) → Type 0
EachArrived {T} from others row = (node : ℕ) (none nothing : EndView T) → from ≤ node → node < length others → BothArrived (slice_index_or row node none) (end_at others node (length others) nothing)
