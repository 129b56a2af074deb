-- Both halves of a change, and what is written between them.
use Rattle.std.proofs.Common.{◌≡◌, ◌==◌, ℕ, true, false, List, [], ◌∷◌, length, Option, Some, None, suc, eq-eqb, true≢false, arith, refl, sym, ap, subst, ◌∙◌}
use Rattle.std.proofs.lemmas.Bool.{eqb-true}
use Rattle.bus.specs.Stream.{StreamView, Writes}
use Rattle.connections.specs.declared.conn.Connection.{Connection}
use Rattle.keyspace.specs.Keyspace.{Keyspace}
use Rattle.keyspace.specs.Plan.{committed}
use Rattle.keyspace.specs.declared.plans.Plan.{Plan}
use Rattle.migrate.specs.Acknowledging.{frozen_keys}
use Rattle.migrate.specs.Arriving.{counted}
use Rattle.migrate.specs.Sending.{frozen}
use Rattle.node_parts.specs.Becomes.{Becomes, Finishes, ending, freed, learning, losing, waiting_so}
use Rattle.node_parts.specs.Begins.{Begins, CanBegin}
use Rattle.node_parts.specs.Making.{GoesOn, IsMade}
use Rattle.node_parts.specs.declared.change.Change.{Change}
use Rattle.node_parts.specs.declared.change.Change.TheVariants.{Nothing, Asks, Allows, Numbers, Keys, Imports, Migrates, Ends, Parks, Freezes, Installs, Frees, Notes, Loses, Wishes, Pauses, Learns, Ages}
use Rattle.node_step.specs.Copies.{noted}
use Rattle.node_step.specs.Handovers.{wishing}
use Rattle.node_step.specs.Orders.{with_moves}
use Rattle.node_step.specs.Requests.{at_connection, using_up, with_numbers}
use Rattle.node_step.specs.State.{NodeState, kept_in}
use Rattle.node_step.specs.Ticks.{older}
use Rattle.slot_state.specs.Moves.{Moves, move_of}
use Rattle.slot_state.specs.declared.copy_id.CopyId.{CopyId}
use Rattle.slot_store.specs.InSlot.{IsCommittedInSlot}

-- the stream is none of what a change looks at
freed_behind : (old : NodeState) (stream : StreamView) (id : CopyId) (keys : Option (List (List ℕ)))
    → record (freed old id keys) { stream = stream } ≡ freed (record old { stream = stream }) id keys
freed_behind old stream id None = refl
freed_behind old stream id (Some keys) = refl

freed_stream : (old : NodeState) (id : CopyId) (keys : Option (List (List ℕ))) → (freed old id keys).stream ≡ old.stream
freed_stream old id None = refl
freed_stream old id (Some keys) = refl

module _ (old new : NodeState) (plan : Plan) (keys : Keyspace) (running : Moves) (stream : StreamView) where
  -- the node between both halves
  abbrev begun : NodeState
  begun = record old { keyspace = keys; moves = running; stream = stream }

  abbrev without : NodeState → NodeState
  without node = record node { stream = old.stream }

  -- nothing came of the first half
  as_before : (keys ≡ old.keyspace) × (running ≡ old.moves) → without begun ≡ old
  as_before same = ap (λ (k : Keyspace). record old { keyspace = k; moves = running }) same.0 ∙ ap (λ (m : Moves). record old { moves = m }) same.1

  module _ (node : NodeState → NodeState) (apart : (n : NodeState) → without (node n) ≡ node (without n)) where
    from_before : (keys ≡ old.keyspace) × (running ≡ old.moves) → new ≡ node begun → without new ≡ node old
    from_before same ends = ap without ends ∙ apart begun ∙ ap node (as_before same)

  leads : (change : Change) → CanBegin old.keyspace old.moves plan change → Begins old.keyspace old.moves plan change keys running → Finishes begun change new → Becomes old plan change (without new)
  leads Nothing can begins ends = from_before (λ n. n) (λ n. refl) begins ends
  leads (Asks conn) can begins ends = from_before (λ n. using_up n conn) (λ n. refl) begins ends
  leads (Allows conn asking) can begins ends = from_before (λ n. at_connection (using_up n conn) conn (λ (connection : Connection). record connection { asking = asking })) (λ n. refl) begins ends
  leads (Numbers conn) can begins ends = from_before (λ n. with_numbers (using_up n conn) conn) (λ n. refl) begins ends
  leads (Ends conn slot epoch) can begins ends = from_before (λ n. ending n conn slot epoch) (λ n. refl) begins ends
  leads (Parks conn wait) can begins ends = from_before (λ n. waiting_so (using_up n conn) conn wait) (λ n. refl) begins ends
  leads (Freezes conn keys wait) can begins ends = from_before (λ n. waiting_so (with_moves (using_up n conn) (frozen n.moves wait.id.slot wait.id.copy keys)) conn wait) (λ n. refl) begins ends
  leads (Frees id) can begins ends = from_before (λ n. freed n id (frozen_keys (move_of n.moves id.slot))) (λ n. freed_behind n old.stream id (frozen_keys (move_of n.moves id.slot))) begins ends
  leads (Notes from slot number epoch) can begins ends = from_before (λ n. (noted n from slot number epoch).state) (λ n. refl) begins ends
  leads (Loses from claim lost) can begins ends = from_before (λ n. losing n claim from lost.items) (λ n. refl) begins ends
  leads (Wishes conn) can begins ends = from_before (λ n. wishing (using_up n conn)) (λ n. refl) begins ends
  leads (Pauses replica) can begins ends = from_before (λ n. record n { paused = Some replica }) (λ n. refl) begins ends
  leads (Learns None) can begins ends = from_before (λ n. n) (λ n. refl) begins ends
  leads (Learns (Some handing)) can begins ends = from_before (λ n. learning n (Some handing)) (λ n. refl) begins ends
  leads Ages can begins ends = from_before older (λ n. refl) begins ends
  leads (Keys conn slot) can begins ends = record {
    keys = subst (λ (n : NodeState). IsCommittedInSlot slot plan old.keyspace n.keyspace) (sym ends) begins.0;
    state = ap without ends ∙ ap (λ (m : Moves). record (using_up old conn) { keyspace = keys; moves = m }) begins.1 ∙ ap (λ (n : NodeState). record (using_up old conn) { keyspace = n.keyspace }) (sym ends);
  }
  leads (Imports conn slot from number) can begins ends = record {
    none = can;
    state = ap without ends ∙ ap (λ (k : Keyspace). record (using_up old conn) { keyspace = k; moves = running }) begins.0 ∙ ap (λ (m : Moves). record (using_up old conn) { moves = m }) begins.1;
  }
  leads (Migrates conn slot to number) can begins ends = record {
    none = can;
    state = ap without ends ∙ ap (λ (k : Keyspace). record (using_up old conn) { keyspace = k; moves = running }) begins.0 ∙ ap (λ (m : Moves). record (using_up old conn) { moves = m }) begins.1;
  }
  leads (Installs slot copy) can begins ends =
      ap without ends ∙ ap (λ (k : Keyspace). record old { keyspace = k; moves = counted running slot copy }) begins.0
      ∙ ap (λ (m : Moves). record old { keyspace = committed old.keyspace plan; moves = counted m slot copy }) begins.1

  -- and the second half leaves the stream
  stays : (change : Change) → Finishes begun change new → new.stream ≡ stream
  stays Nothing ends = ap (λ (n : NodeState). n.stream) ends
  stays (Asks conn) ends = ap (λ (n : NodeState). n.stream) ends
  stays (Allows conn asking) ends = ap (λ (n : NodeState). n.stream) ends
  stays (Numbers conn) ends = ap (λ (n : NodeState). n.stream) ends
  stays (Keys conn slot) ends = ap (λ (n : NodeState). n.stream) ends
  stays (Imports conn slot from number) ends = ap (λ (n : NodeState). n.stream) ends
  stays (Migrates conn slot to number) ends = ap (λ (n : NodeState). n.stream) ends
  stays (Ends conn slot epoch) ends = ap (λ (n : NodeState). n.stream) ends
  stays (Parks conn wait) ends = ap (λ (n : NodeState). n.stream) ends
  stays (Freezes conn keys wait) ends = ap (λ (n : NodeState). n.stream) ends
  stays (Installs slot copy) ends = ap (λ (n : NodeState). n.stream) ends
  stays (Frees id) ends = ap (λ (n : NodeState). n.stream) ends ∙ freed_stream begun id (frozen_keys (move_of begun.moves id.slot))
  stays (Notes from slot number epoch) ends = ap (λ (n : NodeState). n.stream) ends
  stays (Loses from claim lost) ends = ap (λ (n : NodeState). n.stream) ends
  stays (Wishes conn) ends = ap (λ (n : NodeState). n.stream) ends
  stays (Pauses replica) ends = ap (λ (n : NodeState). n.stream) ends
  stays (Learns None) ends = ap (λ (n : NodeState). n.stream) ends
  stays (Learns (Some handing)) ends = ap (λ (n : NodeState). n.stream) ends
  stays Ages ends = ap (λ (n : NodeState). n.stream) ends

  pub both_halves : (change : Change) (bytes : List ℕ) → CanBegin old.keyspace old.moves plan change → Begins old.keyspace old.moves plan change keys running
      → GoesOn (kept_in old.config) bytes old.stream stream → Finishes begun change new → IsMade old plan change bytes new
  both_halves change bytes can begins goes ends =
      record {
        after = without new;
        changes = leads change can begins ends;
        goes_on = subst (λ (s : StreamView). GoesOn (kept_in old.config) bytes old.stream s) (sym (stays change ends)) goes;
        state = refl;
      }

-- nothing is written, and the stream stays
pub nothing_written : (kept : ℕ) (bytes : List ℕ) (old new : StreamView) → (length bytes == 0) ≡ true → new ≡ old → GoesOn kept bytes old new
nothing_written kept [] old new none same = same
nothing_written kept (byte ∷ bytes) old new none same = let not_none : suc (length bytes) ≡ 0 = eqb-true (suc (length bytes)) 0 none in let never : ⊥ = omega (arith, not_none) in absurd never

-- something is written
pub some_written : (kept : ℕ) (bytes : List ℕ) (old new : StreamView) → (length bytes == 0) ≡ false → Writes kept bytes old new → GoesOn kept bytes old new
some_written kept [] old new some writes = absurd (true≢false (sym (eq-eqb 0 0 refl) ∙ some))
some_written kept (byte ∷ bytes) old new some writes = writes
