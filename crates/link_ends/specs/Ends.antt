-- A node's ends of its links with all nodes (ours).
use Rattle.std.specs.Prelude.{◌≡◌, ◌<◌, ◌+◌, ◌++◌, ℕ, List, [], ◌∷◌, ⊤, length, slice_index_or}
use Rattle.atomic_table.specs.Seated.{TableId}
use Rattle.link_ends.specs.Halves.{ReceiverView, SenderView}
use Rattle.tickets.specs.Tickets.{no_table}

-- an end: the link to the other node and the one from it, what was sent there, and what was received from there
pub record EndView (T : Type 0) : Type 0 where
  pub to : TableId
  pub from : TableId
  pub sent : List T
  pub received : List T

-- the end that sends by the one and receives by the other
abbrev pub end_by : {T : Type 0} → SenderView T → ReceiverView T → EndView T
end_by sender receiver = record { to = sender.link; from = receiver.link; sent = sender.sent; received = receiver.received }

-- one more message was received at the end
abbrev pub with_received : {T : Type 0} → EndView T → T → EndView T
with_received end message = record end { received = end.received ++ message ∷ [] }

-- a node's end of its link with another, among the ends of all nodes
abbrev pub end_at : {T : Type 0} → List (List (EndView T)) → ℕ → ℕ → EndView T → EndView T
end_at ends node other none = slice_index_or (slice_index_or ends node []) other none

-- nothing was sent there, and nothing was received
pub record IsUnused {T : Type 0} (end : EndView T) : Type 0 where
  pub sent : end.sent ≡ []
  pub received : end.received ≡ []

-- the ends of so many nodes: the link by which a node sends to another is that by which the other receives from it, and none was used
pub record AreLinked {T : Type 0} (count : ℕ) (ends : List (List (EndView T))) : Type 0 where
  pub nodes : length ends ≡ count
  pub others : (node : ℕ) → node < count → length (slice_index_or ends node []) ≡ count
  pub linked : (node other : ℕ) (none nothing : EndView T) → node < count → other < count → (end_at ends node other none).to ≡ (end_at ends other node nothing).from
  pub unused : (node other : ℕ) (none : EndView T) → node < count → other < count → IsUnused (end_at ends node other none)

-- ---- at the end

-- the ends of so many nodes, whatever was sent: the link by which a node sends to another is that by which the other receives from it
pub record AreWired {T : Type 0} (count : ℕ) (ends : List (List (EndView T))) : Type 0 where
  pub nodes : length ends ≡ count
  pub others : (node : ℕ) → node < count → length (slice_index_or ends node []) ≡ count
  pub linked : (node other : ℕ) (none nothing : EndView T) → node < count → other < count → (end_at ends node other none).to ≡ (end_at ends other node nothing).from

-- what each node received from another is a beginning of what that one sent it
abbrev pub AllArrived : {T : Type 0} → ℕ → List (List (EndView T)) → Type 0
AllArrived {T} count ends = (node other : ℕ) (none nothing : EndView T) → node < count → other < count
    → (waiting : List T) × ((end_at ends node other none).sent ≡ (end_at ends other node nothing).received ++ waiting)

-- ---- by the links that have names

-- an end at the links of its two nodes that was not used yet
pub record IsEndOf {T : Type 0} (links : ℕ → ℕ → TableId) (node other : ℕ) (end : EndView T) : Type 0 where
  pub to : end.to ≡ links node other
  pub from : end.from ≡ links other node
  pub unused : IsUnused end

-- a node's ends, one for each node
pub record AreEndsOf {T : Type 0} (links : ℕ → ℕ → TableId) (node count : ℕ) (ends : List (EndView T)) : Type 0 where
  pub whole : length ends ≡ count
  pub are_ends : (other : ℕ) (none : EndView T) → other < count → IsEndOf links node other (slice_index_or ends other none)

-- these are the ends of the nodes from that number on, of so many in all
abbrev pub AreLinkedFrom : {T : Type 0} → (ℕ → ℕ → TableId) → ℕ → ℕ → List (List (EndView T)) → Type 0
AreLinkedFrom links count number [] = ⊤
AreLinkedFrom links count number (ends ∷ others) = AreEndsOf links number count ends × AreLinkedFrom links count (number + 1) others

-- no end
abbrev pub no_end : {T : Type 0} → EndView T
no_end = record { to = no_table; from = no_table; sent = []; received = [] }

-- the links from each node to each, by the ends of all
abbrev pub links_by : {T : Type 0} → List (List (EndView T)) → ℕ → ℕ → TableId
links_by ends node other = (end_at ends node other no_end).to
