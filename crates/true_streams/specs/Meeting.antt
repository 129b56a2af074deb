-- What a replica meets, and what comes of it: the step that the contracts of its calls speak of (Redis documentation,
-- "Redis replication": partial and full resynchronization; the form is ours).
use Rattle.std.specs.Prelude.{◌≡◌, ◌⊎◌, List, [], ◌∷◌}
use Rattle.bus.specs.Follower.{Follower}
use Rattle.bus.specs.Piece.{PieceView, TakesPiece}
use Rattle.bus.specs.Snapshot.{restored}
use Rattle.bus.specs.declared.snapshot.Snapshot.{Snapshot}

pub data Arrival : Type 0 where
  Offered : PieceView → Arrival
  Restoring : Snapshot → Arrival

-- it is taken, or nothing changes: it was refused, or memory was
abbrev pub Meets : Follower → Arrival → Follower → Type 0
Meets old (Offered piece) new = TakesPiece old piece new ⊎ (new ≡ old)
Meets old (Restoring snapshot) new = (new ≡ restored snapshot old) ⊎ (new ≡ old)

-- one after another
abbrev pub MeetsAll : Follower → List Arrival → Follower → Type 0
MeetsAll old [] new = new ≡ old
MeetsAll old (arrival ∷ arrivals) new = (next : Follower) × Meets old arrival next × MeetsAll next arrivals new
