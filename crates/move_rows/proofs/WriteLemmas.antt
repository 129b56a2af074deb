-- What messages about slots write.
use Rattle.std.proofs.Common.{◌≡◌, ◌==◌, ℕ, Bool, true, false, List, [], map, filter, Option, sym, ap, ◌∙◌}
use Rattle.std.proofs.lemmas.Bool.{cond-false, cond-true}
use Rattle.std.specs.Borrow.{Bor}
use Rattle.std.specs.FinMap as fin_map
use Rattle.std.specs.List.{list_any}
use Rattle.std.specs.Option.{option_copied}
use Rattle.key_slot.specs.Slot.{hash_slot}
use Rattle.keyspace.specs.Keyspace.{Keyspace}
use Rattle.keyspace.specs.declared.value.Value.{Value}
use Rattle.migrate.specs.Acknowledging.{acknowledged_keys}
use Rattle.migrate.specs.Arriving.{arrival_verdict}
use Rattle.migrate.specs.declared.arriving.ArrivalVerdict.{ArrivalVerdict}
use Rattle.node_step.specs.Claiming.{is_lost}
use Rattle.node_step.specs.Copies.{keep_limits}
use Rattle.node_step.specs.State.{NodeState}
use Rattle.node_step.specs.Streams.{Requests, deletion, written_by_ack, written_by_claim, written_by_copy, written_by_loss}
use Rattle.resp2.specs.Stream.{stream_spelling}
use Rattle.slot_pairs.specs.Several.{is_in_one}
use Rattle.slot_state.specs.Moves.{move_of}
use Rattle.slot_state.specs.declared.copy_id.CopyId.{CopyId}
use Rattle.slot_table.specs.Claims.{merged}
use Rattle.slot_table.specs.declared.runs.Run.{Run}

-- a copy with that verdict
pub copy_written : (old : NodeState) (from : ℕ) (id : CopyId) (pairs : List (List ℕ × Value)) (fits : Bool) (verdict other : ArrivalVerdict) (bytes : List ℕ)
    → verdict ≡ arrival_verdict (move_of old.moves id.slot) from id.number id.copy fits → fits ≡ keep_limits pairs → verdict ≡ other
    → bytes ≡ stream_spelling (written_by_copy old.keyspace pairs other)
    → bytes ≡ stream_spelling (written_by_copy old.keyspace pairs (arrival_verdict (move_of old.moves id.slot) from id.number id.copy (keep_limits pairs)))
copy_written old from id pairs fits verdict other bytes is limits same spelled =
    spelled ∙ ap (λ (v : ArrivalVerdict). stream_spelling (written_by_copy old.keyspace pairs v))
    (sym same ∙ is ∙ ap (arrival_verdict (move_of old.moves id.slot) from id.number id.copy) limits)

-- an acknowledgement of these keys
pub ack_written : (old : NodeState) (from : ℕ) (id : CopyId) (lent other : Option (Bor (List (List ℕ)))) (bytes : List ℕ)
    → option_copied lent ≡ acknowledged_keys (move_of old.moves id.slot) from id.number id.copy → lent ≡ other → bytes ≡ stream_spelling (written_by_ack (option_copied other))
    → bytes ≡ stream_spelling (written_by_ack (acknowledged_keys (move_of old.moves id.slot) from id.number id.copy))
ack_written old from id lent other bytes is same spelled =
    spelled ∙ ap (λ (k : Option (List (List ℕ))). stream_spelling (written_by_ack k)) (ap option_copied (sym same) ∙ is)

-- a claim of another node, at a node with these keys
pub loss_written : (node : NodeState) (from : ℕ) (claim : List (Run ℕ)) (lost first : List ℕ) (keyspace : Keyspace) → keyspace ≡ node.keyspace → (from == node.number) ≡ false
    → ((slot : ℕ) → list_any (λ other. other == slot) lost ≡ is_lost node (merged node.table claim from) slot) → first ≡ lost
    → stream_spelling (map deletion (filter (is_in_one first) (fin_map.keys keyspace))) ≡ stream_spelling (written_by_claim node from claim)
loss_written node from claim lost first keyspace at other are same =
    ap (λ (k : Keyspace). stream_spelling (map deletion (filter (is_in_one first) (fin_map.keys k)))) at
    ∙ ap (λ (slots : List ℕ). stream_spelling (map deletion (filter (is_in_one slots) (fin_map.keys node.keyspace)))) same
    ∙ ap (λ (test : List ℕ → Bool). stream_spelling (map deletion (filter test (fin_map.keys node.keyspace)))) (λ j key. are (hash_slot key) j)
    ∙ sym (ap (λ (requests : Requests). stream_spelling requests) (cond-false (from == node.number) [] (written_by_loss node (merged node.table claim from)) other))

-- an own one
pub own_claim_written : (node : NodeState) (from : ℕ) (claim : List (Run ℕ)) → (from == node.number) ≡ true → [] ≡ stream_spelling (written_by_claim node from claim)
own_claim_written node from claim own =
    sym (ap (λ (requests : Requests). stream_spelling requests) (cond-true (from == node.number) [] (written_by_loss node (merged node.table claim from)) own))
