-- What a step writes keeps the limits of requests.
use Rattle.std.proofs.Common.{◌≡◌, ◌==◌, ◌||◌, ℕ, Bool, true, false, cond, List, [], ◌∷◌, map, Option, Some, None, Contains, is_some, codes, refl, sym, ap, subst, ◌∙◌, arith}
use Rattle.std.proofs.lemmas.Cmp.{nat_list_cmp_total, eq_by_cmp_equiv}
use Rattle.std.proofs.lemmas.List.Elements.{All-append, All-cons, All-nil}
use Rattle.std.specs.FinMap as fin_map
use Rattle.std.specs.List.{AllByRecursion, list_any}
use Rattle.std.specs.Prelude.{All, Result, filter}
use Rattle.bus.specs.Follower.{Follower}
use Rattle.bus.specs.declared.message.Body.{Body}
use Rattle.bus.specs.declared.bodies.ElectionBody.TheVariants as of_election
use Rattle.bus.specs.declared.bodies.SlotsBody.TheVariants as of_slots
use Rattle.bus.specs.declared.bodies.StreamBody.TheVariants as of_stream
use Rattle.bus.specs.declared.message.Body.TheVariants as body
use Rattle.command_table.specs.declared.command.Command.{Command}
use Rattle.command_table.specs.declared.fault.CommandFault.{CommandFault}
use Rattle.key_slot.specs.Slot.{hash_slot}
use Rattle.keyspace.proofs.Applied.{is_key}
use Rattle.keyspace.specs.Keyspace.{Keyspace}
use Rattle.keyspace.specs.Rebuilding.{rebuilding}
use Rattle.keyspace.specs.Replay.{HasRequest}
use Rattle.keyspace.specs.declared.value.Value.{Value}
use Rattle.migrate.proofs.Verdicts.{acknowledged_is_frozen}
use Rattle.migrate.specs.Acknowledging.{acknowledged_keys, frozen_keys}
use Rattle.migrate.specs.Arriving.{arrival_verdict}
use Rattle.migrate.specs.declared.arriving.ArrivalVerdict.{ArrivalVerdict}
use Rattle.migrate.specs.declared.arriving.ArrivalVerdict.TheVariants.{Installs, Repeats, Ignored}
use Rattle.resp_values.specs.Request.{IsRequest}
use Rattle.slot_state.specs.Moves.{move_of}
use Rattle.slot_state.specs.declared.running.Move.{Move}
use Rattle.slot_table.specs.Claims.{merged}
use Rattle.slot_table.specs.declared.runs.Run.{Run}
use Rattle.true_streams.proofs.Following.{IsOn}
use Rattle.true_streams.specs.Full.{FullStreams}
use Rattle.node_step.proofs.Lists.{contains_first, contains_more}
use Rattle.node_step.specs.Claiming.{is_lost}
use Rattle.node_step.specs.Copies.{keep_limits}
use Rattle.node_step.specs.Messages.{written_by_message}
use Rattle.node_step.specs.State.{NodeState}
use Rattle.node_step.specs.Streams.{Requests, deletion, written_by_ack, written_by_claim, written_by_copy, written_by_loss, written_by_pair, written_by_pairs, written_by_request}
use Rattle.node_step.specs.declared.response.Response.{Response}
use Rattle.node_step.specs.declared.response.Response.TheVariants.{Nothing, Opened, Parked, Replied}
use Rattle.promoted_prefix.proofs.Frozen.{AreShortKeys, HasShortFrozen}
use Rattle.promoted_prefix.proofs.Growing.{HaveRequests, IsSound}
use Rattle.promoted_prefix.proofs.Short.{IsShort, two_words}
use Rattle.promoted_prefix.proofs.Stored.{CanBeMade, key_there_short, none_can, replayed_can, request_short}

abbrev AreRequests : Requests → Type 0
AreRequests requests = All IsRequest requests

none_are : AreRequests []
none_are = All-nil IsRequest

one_is : (words : List (List ℕ)) → IsRequest words → AreRequests (words ∷ [])
one_is words is = All-cons IsRequest words [] is none_are

deletion_is : (key : List ℕ) → IsShort key → IsRequest (deletion key)
deletion_is key short = two_words (codes "DEL") key (omega arith) short

-- whoever follows a stream has keys that can be made again
pub on_can : (full : List ℕ) (follower : Follower) → IsOn full follower → CanBeMade follower.keyspace
on_can full follower on = subst CanBeMade (sym on.keyspace) (replayed_can on.requests fin_map.empty on.each none_can)

-- ---- a request

pub request_writes : (words : List (List ℕ)) → IsRequest words → (command : Result Command CommandFault) (response : Response) → AreRequests (written_by_request words command response)
request_writes words request command Nothing = none_are
request_writes words request command (Opened conn) = none_are
request_writes words request command Parked = none_are
request_writes words request command (Replied answer) = if_written _
  where
    if_written : (b : Bool) → AreRequests (cond b (words ∷ []) [])
    if_written true = one_is words request
    if_written false = none_are

-- ---- a message

pair_writes : (keyspace : Keyspace) (key : List ℕ) (value : Value) → HasRequest (key, value) → AreRequests (written_by_pair keyspace key value)
pair_writes keyspace key value has = if_there (is_some (fin_map.get keyspace key))
  where
    if_there : (b : Bool) → AreRequests (cond b (deletion key ∷ rebuilding key value ∷ []) (rebuilding key value ∷ []))
    if_there true = All-cons IsRequest (deletion key) (rebuilding key value ∷ []) (deletion_is key (request_short key value has.1)) (one_is (rebuilding key value) has.1)
    if_there false = one_is (rebuilding key value) has.1

pairs_write : (keyspace : Keyspace) (pairs : List (List ℕ × Value)) → HaveRequests pairs → AreRequests (written_by_pairs keyspace pairs)
pairs_write keyspace [] have = none_are
pairs_write keyspace (pair ∷ pairs) have =
    All-append IsRequest (written_by_pair keyspace pair.0 pair.1) (written_by_pairs (fin_map.insert keyspace pair.0 pair.1) pairs)
    (pair_writes keyspace pair.0 pair.1 (have pair.0 pair.1 (contains_first {X = List ℕ × Value} pair pairs)))
    (pairs_write (fin_map.insert keyspace pair.0 pair.1) pairs (λ key value among. have key value (contains_more {X = List ℕ × Value} pair (key, value) pairs among)))

copy_writes : (keyspace : Keyspace) (pairs : List (List ℕ × Value)) → HaveRequests pairs → (verdict : ArrivalVerdict) → AreRequests (written_by_copy keyspace pairs verdict)
copy_writes keyspace pairs have Installs = pairs_write keyspace pairs have
copy_writes keyspace pairs have Repeats = none_are
copy_writes keyspace pairs have Ignored = none_are

all_deletions_are : (keys : List (List ℕ)) → ((key : List ℕ) → Contains keys key → IsShort key) → AreRequests (map deletion keys)
all_deletions_are [] short = none_are
all_deletions_are (key ∷ keys) short =
    All-cons IsRequest (deletion key) (map deletion keys) (deletion_is key (short key (contains_first key keys))) (all_deletions_are keys (λ q among. short q (contains_more key q keys among)))

ack_writes : (move : Option Move) → AreShortKeys (frozen_keys move) → (from number copy : ℕ) → AreRequests (written_by_ack (acknowledged_keys move from number copy))
ack_writes move short from number copy = by_keys (acknowledged_keys move from number copy) refl
  where
    by_keys : (keys : Option (List (List ℕ))) → acknowledged_keys move from number copy ≡ keys → AreRequests (written_by_ack keys)
    by_keys None is = none_are
    by_keys (Some keys) is = all_deletions_are keys (subst AreShortKeys (acknowledged_is_frozen move from number copy keys is) short)

-- what is among the keys behind one is among all of them
further : (one : Bool) (others : Bool) → others ≡ true → (one || others) ≡ true
further true others is = refl
further false others is = is

keys_short : (keys : List (List ℕ)) → ((key : List ℕ) → list_any (is_key key) keys ≡ true → IsShort key) → AllByRecursion IsShort keys
keys_short [] short = tt
keys_short (key ∷ keys) short =
    (short key (ap (λ (b : Bool). b || list_any (is_key key) keys) ((eq_by_cmp_equiv nat_list_cmp_total).refl key)), keys_short keys (λ q among. short q (further (is_key q key) (list_any (is_key q) keys) among)))

deletions_are : (lost : List ℕ → Bool) (keys : List (List ℕ)) → AllByRecursion IsShort keys → AreRequests (map deletion (filter lost keys))
deletions_are lost [] short = none_are
deletions_are lost (key ∷ keys) short = if_lost (lost key) (deletions_are lost keys short.1)
  where
    if_lost : (b : Bool) → AreRequests (map deletion (filter lost keys)) → AreRequests (map deletion (cond b (key ∷ filter lost keys) (filter lost keys)))
    if_lost true rest = All-cons IsRequest (deletion key) (map deletion (filter lost keys)) (deletion_is key short.0) rest
    if_lost false rest = rest

claim_writes : (node : NodeState) → CanBeMade node.keyspace → (from : ℕ) (runs : List (Run ℕ)) → AreRequests (written_by_claim node from runs)
claim_writes node can from runs = by_sender (from == node.number)
  where
    by_sender : (own : Bool) → AreRequests (cond own [] (written_by_loss node (merged node.table runs from)))
    by_sender true = none_are
    by_sender false =
        deletions_are (λ key. is_lost node (merged node.table runs from) (hash_slot key)) (fin_map.keys node.keyspace)
        (keys_short (fin_map.keys node.keyspace) (λ key among. key_there_short node.keyspace can key (fin_map.contains_key-keys node.keyspace key ∙ among)))

pub message_writes : (full : FullStreams) (node : NodeState) → CanBeMade node.keyspace → HasShortFrozen node.moves → (from : ℕ) (said : Body) → IsSound full said → AreRequests (written_by_message node from said)
message_writes full node can short from (body.Slots (of_slots.Copy id pairs)) sound =
    copy_writes node.keyspace pairs sound (arrival_verdict (move_of node.moves id.slot) from id.number id.copy (keep_limits pairs))
message_writes full node can short from (body.Slots (of_slots.Ack id)) sound = ack_writes (move_of node.moves id.slot) (short id.slot) from id.number id.copy
message_writes full node can short from (body.Slots (of_slots.Drained slot number epoch)) sound = none_are
message_writes full node can short from (body.Slots (of_slots.Claim slots replaced)) sound = claim_writes node can from slots
message_writes full node can short from (body.Report suspects) sound = none_are
message_writes full node can short from (body.Election (of_election.Candidacy request)) sound = none_are
message_writes full node can short from (body.Election (of_election.Grant epoch)) sound = none_are
message_writes full node can short from (body.Stream (of_stream.Sync sync)) sound = none_are
message_writes full node can short from (body.Stream (of_stream.Piece piece)) sound = none_are
message_writes full node can short from (body.Stream (of_stream.Snapshot snapshot)) sound = none_are
message_writes full node can short from (body.Election (of_election.Pause stream)) sound = none_are
message_writes full node can short from (body.Election (of_election.Paused handing)) sound = none_are
