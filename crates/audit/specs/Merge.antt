-- The journals of all nodes of a cluster, merged by their tickets (ours).
use Rattle.std.specs.Prelude.{◌≡◌, ◌<◌, ◌⊎◌, ◌+◌, ◌==◌, ℕ, Bool, List, [], ◌∷◌, length, map, All, Contains, Option, Some, None, Result, IfOk, IfSome, option_map, slice_index_or, ⊤}
use Rattle.std.specs.List.{filter_map, find, range_with_len, remove}
use Rattle.bus.specs.declared.message.Message.{Message}
use Rattle.cluster_config.specs.Config.{ClusterConfig}
use Rattle.node_step.specs.State.{NodeState, first_state}
use Rattle.node_step.specs.declared.event.Event.{Event}
use Rattle.node_step.specs.declared.event.Event.TheVariants.{Open, Close, Request, Deliver, Tick}
use Rattle.cell_parts.specs.Journal.{IsHistory, Rises, ticket_of, tickets_of}
use Rattle.cell_parts.specs.declared.entry.Entry.{Entry as JournalEntry}
use Rattle.cell_parts.specs.declared.entry.Entry.TheVariants as journal
use Rattle.atomic_table.specs.Seated.{TableId}
use Rattle.tickets.specs.Tickets.{drawn, once_below, seats_of, table_of, times, total}
use Rattle.tickets.specs.declared.seat.Seat.{Seat}
use Rattle.world_run.specs.Run.{Entry}
use Rattle.world_run.specs.Run.Deed.{Made, Skipped}

-- ---- the merge

-- what an entry of the node's journal is in a run
abbrev pub placed : ℕ → JournalEntry → Entry
placed node (journal.Step event outputs) = record { node = node; ticket = outputs.ticket; deed = Made event outputs }
placed node (journal.Skipped ticket) = record { node = node; ticket = ticket; deed = Skipped }

abbrev pub has_ticket : ℕ → JournalEntry → Bool
has_ticket ticket entry = ticket == ticket_of entry

abbrev pub or_else : {A : Type 0} → Option A → Option A → Option A
or_else None other = other
or_else (Some one) other = Some one

-- what stands under a ticket in the journals, the first of which is that of the node
abbrev pub entry_under : ℕ → ℕ → List (List JournalEntry) → Option Entry
entry_under ticket node [] = None
entry_under ticket node (entries ∷ journals) = or_else (option_map (placed node) (find (has_ticket ticket) entries)) (entry_under ticket (node + 1) journals)

-- the journals of the nodes by their numbers, as far as so many tickets were drawn
abbrev pub merged : ℕ → List (List JournalEntry) → List Entry
merged tickets journals = filter_map (λ (ticket : ℕ). entry_under ticket 0 journals) (range_with_len 0 tickets)

-- what is left of a node: its number and its journal
pub record PartView : Type 0 where
  pub node : ℕ
  pub entries : List JournalEntry

-- ---- messages

abbrev pub sent_in : JournalEntry → List Message
sent_in (journal.Step event outputs) = outputs.sent
sent_in (journal.Skipped ticket) = []

abbrev pub journal_of : List (List JournalEntry) → ℕ → List JournalEntry
journal_of journals node = slice_index_or journals node []

-- the journal of its sender has the message under the ticket that it carries
pub record WasSent (journals : List (List JournalEntry)) (message : Message) : Type 0 where
  pub sender : message.from < length journals
  pub entry : JournalEntry
  pub among : Contains (journal_of journals message.from) entry
  pub under : ticket_of entry ≡ message.ticket
  pub sent : Contains (sent_in entry) message

abbrev pub MayCome : List (List JournalEntry) → Event → Type 0
MayCome journals (Deliver message) = WasSent journals message
MayCome journals Open = ⊤
MayCome journals (Close conn) = ⊤
MayCome journals (Request conn words) = ⊤
MayCome journals Tick = ⊤

-- what the entry took was sent
abbrev pub IsSound : List (List JournalEntry) → JournalEntry → Type 0
IsSound journals (journal.Step event outputs) = MayCome journals event
IsSound journals (journal.Skipped ticket) = ⊤

abbrev pub AllAreSound : List (List JournalEntry) → Type 0
AllAreSound journals = (node : ℕ) → node < length journals → All (IsSound journals) (journal_of journals node)

-- ---- journals of a cluster

-- the journal of a node, as its cell hands it out
pub record IsOfNode (config : ClusterConfig) (node : ℕ) (entries : List JournalEntry) : Type 0 where
  pub last : NodeState
  pub history : IsHistory (first_state config node) entries last
  pub rises : Rises (tickets_of entries)

-- one of each node, which have each number below the number of tickets once, and in which all that was taken was sent
pub record AreJournals (config : ClusterConfig) (tickets : ℕ) (journals : List (List JournalEntry)) : Type 0 where
  pub count : length journals ≡ length config.nodes
  pub nodes : (node : ℕ) → node < length journals → IsOfNode config node (journal_of journals node)
  pub once : (n : ℕ) → total (λ (entries : List JournalEntry). times n (tickets_of entries)) journals ≡ once_below n tickets
  pub sound : AllAreSound journals

-- ---- parts of a cluster

abbrev pub nodes_of : List PartView → List ℕ
nodes_of parts = map (λ (part : PartView). part.node) parts

-- each node once
abbrev pub AreEachOnce : ℕ → List ℕ → Type 0
AreEachOnce count nodes = (n : ℕ) → times n nodes ≡ once_below n count

-- P of what was found, if something was
abbrev pub IfFound : {T E : Type 0} → Result (Option T) E → (T → Type 0) → Type 0
IfFound result P = IfOk result (λ found. IfSome found P)

-- what stands at the place is of the node
abbrev pub IsAt : {A : Type 0} → (A → ℕ) → List A → ℕ → ℕ → Type 0
IsAt {A} node all number place = (place < length all) × ((other : A) → node (slice_index_or all place other) ≡ number)

-- its journal is that of its node among these
pub record IsTaken (count : ℕ) (journals : List (List JournalEntry)) (part : PartView) : Type 0 where
  pub below : part.node < count
  pub is : journal_of journals part.node ≡ part.entries

-- one fewer
pub record IsWithout {A : Type 0} (all : List A) (one : A) (left : List A) : Type 0 where
  pub place : ℕ
  pub within : place < length all
  pub at : slice_index_or all place one ≡ one
  pub is : left ≡ remove all place

-- the journals of the first so many nodes, with the seats that drew their tickets, and the parts that are left of all
pub record AreTaken (config : ClusterConfig) (table : TableId) (seat_count : ℕ) (parts : List PartView) (count : ℕ) (journals : List (List JournalEntry)) (seats : List Seat) (left : List PartView) : Type 0 where
  pub all : length journals ≡ count
  pub nodes : (node : ℕ) → node < count → IsOfNode config node (journal_of journals node)
  pub drawn_are : map drawn seats ≡ map tickets_of journals
  pub seated : All (λ (seat : Seat). table_of seat ≡ table) seats
  pub counted : All (λ (seat : Seat). seats_of seat ≡ seat_count) seats
  pub each : (n : ℕ) → times n (nodes_of parts) ≡ once_below n count + times n (nodes_of left)
  pub kept : (part : PartView) → Contains parts part → IsTaken count journals part ⊎ Contains left part
