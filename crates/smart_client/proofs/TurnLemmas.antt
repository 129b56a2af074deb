-- Nodes that a redirection names.
use Rattle.std.proofs.Common.{◌≡◌, ◌+◌, ◌<◌, ◌≤◌, ◌==◌, ◌&&◌, ℕ, Bool, true, false, inl, inr, arith, length, List, Option, None, Some, Ok, refl, ap, sym, ◌∙◌}
use Rattle.std.specs.Prelude.{IfSome}
use Rattle.std.specs.Str.{bytes_eq}
use Rattle.std.proofs.lemmas.Bool.{cases_Bool, eqb-true, eqb-false}
use Rattle.std.proofs.lemmas.List.{get_or_push, length-replicate}
use Rattle.std.proofs.lemmas.List.Elements.{All-replicate}
use Rattle.std.proofs.lemmas.List.Sums.{passes_at_first}
use Rattle.std.proofs.lemmas.Slice.Eq.{bytes_eq-Decides}
use Rattle.redirection.specs.Address.{Place}
use Rattle.smart_client.specs.State.{ClientState, first_client}
use Rattle.smart_client.specs.Step.{follows, is_at, nobody, peer_at, place_of, with_address}
use Rattle.smart_client.specs.Turns.{IsClient, Makes}
use Rattle.smart_client.specs.declared.action.Action.{Action}
use Rattle.smart_client.specs.declared.action.Action.TheVariants.{Connect}
use Rattle.smart_client.specs.declared.call.Call.{Call}
use Rattle.smart_client.specs.declared.call.Stage.TheVariants.{Connecting}
use Rattle.smart_client.specs.declared.client_core.TheConstants.{MOST_ADDRESSES}
use Rattle.cluster_config.proofs.PlaceLemmas.{position-le}
use Rattle.smart_client.specs.declared.peers.Peer.{Peer}

both : (a b : Bool) → (a && b) ≡ true → (a ≡ true) × (b ≡ true)
both true true is = (refl, refl)
both true false is = cc
both false b is = cc

-- a node that is at an address has it
pub has_address : (address : Place) (peer : Peer) → is_at address peer ≡ true → peer.address ≡ address
has_address address peer is =
    let parts = both (bytes_eq peer.address.host address.host) (peer.address.port == address.port) is in
    ap (λ (host : List ℕ). record { host = host; port = peer.address.port }) ((bytes_eq-Decides peer.address.host address.host).0 parts.0)
    ∙ ap (λ (port : ℕ). record { host = address.host; port = port }) (eqb-true peer.address.port address.port parts.1)

within : (peers : List Peer) (address : Place) → (place_of peers address == length peers) ≡ false → place_of peers address < length peers
within peers address known =
    let most : place_of peers address ≤ length peers = position-le (is_at address) peers in
    omega (arith, most, eqb-false (place_of peers address) (length peers) known)

-- a node that comes to be known is at its place
pub learned_at : (peers : List Peer) (address : Place) → (peer_at (with_address peers address) (place_of peers address)).address ≡ address
learned_at peers address =
    elim (cases_Bool (place_of peers address == length peers)) [
      | inl new ↦ rw new (ap (λ (peer : Peer). peer.address)
          (get_or_push peers (record { address = address; is_connected = false }) nobody (place_of peers address) (sym (eqb-true (place_of peers address) (length peers) new))))
      | inr known ↦ rw known (has_address address (peer_at peers (place_of peers address)) (passes_at_first (is_at address) peers nobody (within peers address known)))
    ]

-- the address that a redirection names is followed
pub follows_to : (client new : ClientState) (call next : Call) (address target : Place) (number : Option ℕ) (action : Action) → (place_of client.peers address == MOST_ADDRESSES) ≡ false → target ≡ address → action ≡ Connect target
    → next ≡ record call { to = place_of client.peers address; asking = number; redirections = call.redirections + 1 }
    → new ≡ record client { peers = with_address client.peers address; call = Some (record next { stage = Connecting }) }
    → Makes (follows client call address number) client (Ok action) new
follows_to client new call next address target number action room same is goes left =
    rw room (inl (
      is ∙ ap Connect (same ∙ sym (learned_at client.peers address)),
      left ∙ ap (λ (other : Call). record client { peers = with_address client.peers address; call = Some (record other { stage = Connecting }) }) goes,
    ))

-- a client that begins
pub first_is_client : (start : Place) (limit : ℕ) → IsClient (first_client start limit)
first_is_client start limit = record {
  some = omega arith;
  slots = length-replicate {A = Option ℕ} 16384 None;
  owners = All-replicate (λ (owner : Option ℕ). IfSome owner (λ (place : ℕ). place < 1)) 16384 None tt;
  call = tt;
}
