-- The clients of a world by their places.
use Rattle.std.proofs.Common.{◌≡◌, ◌≤◌, ◌∙◌, ◌==◌, ◌∷◌, ℕ, zero, suc, Bool, true, false, cond, List, [], None, Some, insert, length, refl, sym, ap, subst, arith}
use Rattle.std.proofs.lemmas.Bool.{eqb-true}
use Rattle.std.specs.Prelude.{slice_get}
use Rattle.cluster_config.specs.declared.config.NodeConfig.{NodeConfig}
use Rattle.single_keyspace.proofs.Seen.{no_some, same_some}
use Rattle.world_nodes.specs.Nodes.{RunView}
use Rattle.world.specs.Asking.{AllAskWell, AsksWell}
use Rattle.world.specs.Clients.{ClientView, client_at, if_numbered, place_of}

pub asks_at : (nodes : List NodeConfig) (run : RunView) (clients : List ClientView) (place : ℕ) (client : ClientView) → slice_get clients place ≡ Some client → AllAskWell nodes run clients → AsksWell nodes run client
asks_at nodes run [] place client is all = absurd (no_some refl is)
asks_at nodes run (first ∷ clients) zero client is all = subst (AsksWell nodes run) (same_some refl is) all.0
asks_at nodes run (first ∷ clients) (suc place) client is all = asks_at nodes run clients place client is all.2

pub inserted_at : (clients : List ClientView) (place : ℕ) (one : ClientView) → place ≤ length clients → slice_get (insert clients place one) place ≡ Some one
inserted_at clients zero one within = refl
inserted_at [] (suc place) one within = absurd (omega (arith, within))
inserted_at (first ∷ clients) (suc place) one within = inserted_at clients place one (omega (arith, within))

-- the client at the place of a number, if it is there
pub numbered_at : (number : ℕ) (clients : List ClientView) (found client : ClientView) → client_at number clients ≡ Some found → slice_get clients (place_of number clients) ≡ Some client → client.number ≡ number
numbered_at number clients found client is at = by_same (client.number == number) refl (sym (ap (if_numbered number) at) ∙ is)
  where
    by_same : (same : Bool) → (client.number == number) ≡ same → cond same (Some client) None ≡ Some found → client.number ≡ number
    by_same true is there = eqb-true client.number number is
    by_same false is there = absurd (no_some refl there)
