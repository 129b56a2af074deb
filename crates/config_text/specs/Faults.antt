-- What may be wrong with a configuration whose form is right (ours).
use Rattle.std.specs.Prelude.{ℕ, ◌&&◌, not, nat_lt, nat_le, Bool, true, false, List, [], ◌∷◌, length, Option, Some, None, option_map, option_and_then, if◌then◌else◌, ℤ, pos, nat_abs, int_le, IsTrue}
use Rattle.std.specs.List.{list_all, flat_map, slice_get, position_or_len}
use Rattle.std.specs.Option.{option_map_or}
use Rattle.std.specs.Ordering.{int_eq}
use Rattle.std.specs.Str.{bytes_eq}
use Rattle.cluster_config.specs.Config.{all_pairs, is_below, are_apart}
use Rattle.cluster_config.specs.Texts.{is_id}
use Rattle.key_slot.specs.declared.slots.SlotRange.{SlotRange}
use Rattle.config_text.specs.declared.fault.ConfigFault.{ConfigFault}
use Rattle.config_text.specs.declared.fault.ConfigFault.TheVariants as fault
use Rattle.config_text.specs.declared.form.Draft.{Draft}
use Rattle.config_text.specs.declared.form.NodeDraft.{NodeDraft}
use Rattle.config_text.specs.declared.form.RoleDraft.{RoleDraft}
use Rattle.config_text.specs.declared.form.RoleDraft.TheVariants.{Slots, ReplicaOf}

-- an id that is one
abbrev pub has_id : NodeDraft → Bool
has_id node = is_id node.id

-- the id of the first is below that of the second
abbrev pub has_lower_id : NodeDraft → NodeDraft → Bool
has_lower_id node other = is_below node.id other.id

-- each id is one, and they rise
abbrev pub are_ids : List NodeDraft → Bool
are_ids nodes = list_all has_id nodes && all_pairs has_lower_id nodes

-- the slots from one to the same or a later one
abbrev pub range_from : ℤ × ℤ → Option SlotRange
range_from pair =
    if int_le (pos 0) pair.0 && int_le pair.0 pair.1 && int_le pair.1 (pos 16383) then Some (record { first = nat_abs pair.0; last = nat_abs pair.1 })
    else None

-- the first and the last of each range of a master; a replica has none
abbrev pub slots_in : RoleDraft → List (ℤ × ℤ)
slots_in (Slots slots) = slots
slots_in (ReplicaOf id) = []

-- the same of all nodes, in order
abbrev pub pairs_in : List NodeDraft → List (ℤ × ℤ)
pairs_in nodes = flat_map (λ (node : NodeDraft). slots_in node.role) nodes

-- the ranges that the pairs are, if each is one
abbrev pub ranges_from : List (ℤ × ℤ) → Option (List SlotRange)
ranges_from [] = Some []
ranges_from (pair ∷ pairs) = option_and_then (λ range. option_map (λ ranges. range ∷ ranges) (ranges_from pairs)) (range_from pair)

-- each pair is a range, and no slot is in two, of one node or of two
abbrev pub are_slots : List NodeDraft → Bool
are_slots nodes = option_map_or (all_pairs are_apart) (ranges_from (pairs_in nodes)) false

-- how many nodes stand before the one that has the id; all of them, if none has it
abbrev pub number_of : List NodeDraft → List ℕ → ℕ
number_of nodes id = position_or_len (λ (node : NodeDraft). bytes_eq node.id id) nodes

-- the role of a master
abbrev pub is_master : RoleDraft → Bool
is_master (Slots slots) = true
is_master (ReplicaOf id) = false

-- a master follows nobody, a replica a master of the list
abbrev pub follows_master : List NodeDraft → RoleDraft → Bool
follows_master nodes (Slots slots) = true
follows_master nodes (ReplicaOf id) = option_map_or (λ (node : NodeDraft). is_master node.role) (slice_get nodes (number_of nodes id)) false

-- the same of a node
abbrev pub has_master : List NodeDraft → NodeDraft → Bool
has_master nodes node = follows_master nodes node.role

-- the id of a node
abbrev pub is_known : List NodeDraft → List ℕ → Bool
is_known nodes id = nat_lt (number_of nodes id) (length nodes)

-- two texts
abbrev pub differ : List ℕ → List ℕ → Bool
differ text other = not (bytes_eq text other)

-- each is a node, there is one, and none stands twice
abbrev pub are_voters : List NodeDraft → List (List ℕ) → Bool
are_voters nodes voters = list_all (is_known nodes) voters && nat_lt 0 (length voters) && all_pairs differ voters

-- two hosts or two ports
abbrev pub is_elsewhere : NodeDraft → NodeDraft → Bool
is_elsewhere node other = not (bytes_eq node.host other.host && int_eq node.port other.port)

-- from 1 to the last number
abbrev pub is_up_to : ℤ → ℤ → Bool
is_up_to last number = int_le (pos 1) number && int_le number last

-- a port that is one
abbrev pub has_port : NodeDraft → Bool
has_port node = is_up_to (pos 65535) node.port

-- the ports, the times and the backlog are what they may be
abbrev pub are_within : Draft → Bool
are_within draft =
    list_all has_port draft.nodes && is_up_to (pos 1000000) draft.tick_ms && is_up_to (pos 1000000) draft.node_timeout && is_up_to (pos 16777216) draft.backlog

-- what has to hold of what the text says, and the fault where it doesn't
abbrev pub conditions : Draft → List (Bool × ConfigFault)
conditions draft =
    (are_ids draft.nodes, fault.Id)
    ∷ (are_slots draft.nodes, fault.Slots)
    ∷ (list_all (has_master draft.nodes) draft.nodes, fault.ReplicaOf)
    ∷ (are_voters draft.nodes draft.voters, fault.Voters)
    ∷ (nat_le (length draft.nodes) 16, fault.TooManyNodes)
    ∷ (all_pairs is_elsewhere draft.nodes, fault.Address)
    ∷ (are_within draft, fault.Range)
    ∷ []

-- the first fault whose condition fails
abbrev pub first_failed : List (Bool × ConfigFault) → Option ConfigFault
first_failed [] = None
first_failed (row ∷ rows) = if row.0 then first_failed rows else Some row.1

-- the first fault of what the text says
unfoldable pub fault_of : Draft → Option ConfigFault
fault_of draft = first_failed (conditions draft)

-- what is known of each node where nothing is wrong
pub record IsSound (nodes : List NodeDraft) (node : NodeDraft) : Type 0 where
  pub id : IsTrue (has_id node)
  pub port : IsTrue (has_port node)
  pub master : IsTrue (has_master nodes node)
