use Rattle.std.proofs.Common.{◌∙◌, ap, sym, subst, List, Option, ℕ, None}
use Rattle.smart_client.specs.Turns.{IsClient}
use Rattle.smart_client.specs.declared.peers.Peer.{Peer}
use Rattle.smart_client.proofs.TurnLemmas.{first_is_client}
use Rattle.smart_client.proofs.client_core.ClientCore.new.Goals as goal

pub invariant_of-result : goal.invariant_of-result
invariant_of-result c =
    subst (λ (owners : List (Option ℕ)). IsClient (record { peers = c.in_ok-new.field-0; owners = owners; limit = c.args.limit; call = None })) (sym c.in_ok-no_owners.ensures.owners)
    (subst (λ (peers : List Peer). IsClient (record { peers = peers; owners = _; limit = c.args.limit; call = None })) (sym c.in_ok-new.ensures) (first_is_client c.args.start c.args.limit))

pub returns : goal.returns
returns c =
    ap (λ (owners : List (Option ℕ)). record { peers = c.in_ok-new.field-0; owners = owners; limit = c.args.limit; call = None }) c.in_ok-no_owners.ensures.owners
    ∙ ap (λ (peers : List Peer). record { peers = peers; owners = _; limit = c.args.limit; call = None }) c.in_ok-new.ensures
