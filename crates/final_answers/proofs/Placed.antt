-- Where nodes of a configuration are, and the texts that name such a place.
use Rattle.std.proofs.Common.{◌≡◌, ◌<◌, ◌≤◌, ◌∙◌, ◌==◌, ℕ, Bool, true, false, List, [], None, Some, get_or, length, refl, sym, ap, subst, arith}
use Rattle.std.proofs.lemmas.Bool.{and_parts, eqb-true}
use Rattle.std.proofs.lemmas.List.Sums.{passes_at_first}
use Rattle.std.proofs.lemmas.Option.{get_or_from_slice_get, slice_get_within}
use Rattle.std.proofs.lemmas.Slice.Eq.{bytes_eq-Decides}
use Rattle.std.specs.Prelude.{IsTrue, slice_get, ⊤}
use Rattle.std.specs.Str.{bytes_eq}
use Rattle.cluster_config.specs.Config.{ClusterConfig, IsCluster}
use Rattle.cluster_config.specs.Texts.{is_host}
use Rattle.cluster_config.specs.declared.config.NodeConfig.{NodeConfig}
use Rattle.redirection.specs.Address.{IsAddress, Place}
use Rattle.redirection.specs.Redirection.{IsMove, IsRedirection, address_of}
use Rattle.redirection.specs.Texts.{ask_text, moved_text}
use Rattle.redirection.specs.declared.redirection.Redirection.{Redirection}
use Rattle.redirection.specs.declared.redirection.Redirection.TheVariants.{Moved, Ask}
use Rattle.world.specs.Clients.{is_at, node_at, nowhere}
use Rattle.world.proofs.Requests.{found_by_address}

-- ---- places

abbrev pub place_of : NodeConfig → Place
place_of node = record { host = node.host; port = node.port }

-- a node of the configuration is there
pub record IsPlaced (nodes : List NodeConfig) (place : Place) : Type 0 where
  pub number : ℕ
  pub node : NodeConfig
  pub at : slice_get nodes number ≡ Some node
  pub is : place ≡ place_of node

module _ (config : ClusterConfig) (cluster_is : IsCluster config) where
  -- clients can reach each node
  pub node_is_reached : (number : ℕ) (node : NodeConfig) → slice_get config.nodes number ≡ Some node → IsAddress (place_of node)
  node_is_reached number node at =
      let within : number < length config.nodes = slice_get_within config.nodes number node at in
      let same : get_or config.nodes number node ≡ node = get_or_from_slice_get config.nodes number node node at in
      let port = subst (λ (n : NodeConfig). (1 ≤ n.port) × (n.port ≤ 65535)) same (cluster_is.ports number node within) in
      record { host = subst (λ (n : NodeConfig). IsTrue (is_host n.host)) same (cluster_is.hosts number node within); port = port }

  -- so none is nowhere
  pub is_somewhere : (place : Place) → IsPlaced config.nodes place → place ≡ nowhere → ⊥
  is_somewhere place placed none =
      no_host (subst (λ (p : Place). IsTrue (is_host p.host)) (sym placed.is ∙ none) (node_is_reached placed.number placed.node placed.at).host)
    where
      no_host : IsTrue (is_host []) → ⊥
      no_host is = cc

  pub number_is : (place : Place) (placed : IsPlaced config.nodes place) → node_at config.nodes place ≡ placed.number
  number_is place placed = found_by_address config.nodes placed.number placed.node place cluster_is.addresses placed.at placed.is

  pub number_within : (place : Place) → IsPlaced config.nodes place → node_at config.nodes place < length config.nodes
  number_within place placed = omega (arith, number_is place placed, slice_get_within config.nodes placed.number placed.node placed.at)

  -- two places with one node are one
  pub same_place : (place other : Place) → IsPlaced config.nodes place → node_at config.nodes other ≡ node_at config.nodes place → other ≡ place
  same_place place other placed same =
      let within : node_at config.nodes other < length config.nodes = omega (arith, same, number_within place placed) in
      let passes = passes_at_first (is_at other) config.nodes placed.node within in
      let there : get_or config.nodes (node_at config.nodes other) placed.node ≡ placed.node =
      ap (λ (n : ℕ). get_or config.nodes n placed.node) (same ∙ number_is place placed) ∙ get_or_from_slice_get config.nodes placed.number placed.node placed.node placed.at in
      let parts = and_parts (bytes_eq placed.node.host other.host) (placed.node.port == other.port) (subst (λ (n : NodeConfig). is_at other n ≡ true) there passes) in
      let host : placed.node.host ≡ other.host = (bytes_eq-Decides placed.node.host other.host).0 parts.0 in
      let port : placed.node.port ≡ other.port = eqb-true placed.node.port other.port parts.1 in
      let is : place_of placed.node ≡ other = λ i. record { host = host i; port = port i } in
      sym is ∙ sym placed.is

-- ---- redirections

-- it can be followed: MOVED, and ASK that names the move
abbrev pub NamesMove : Redirection → Type 0
NamesMove (Moved slot to) = ⊤
NamesMove (Ask slot to None) = ⊥
NamesMove (Ask slot to (Some number)) = ⊤

-- the text leads to a node of the configuration, and names the move where that is wanted
pub record Leads (nodes : List NodeConfig) (numbered : Bool) (text : List ℕ) : Type 0 where
  pub redirection : Redirection
  pub is : IsRedirection text redirection
  pub placed : IsPlaced nodes (address_of redirection)
  pub named : numbered ≡ true → NamesMove redirection

module _ (config : ClusterConfig) (cluster_is : IsCluster config) (number : ℕ) (node : NodeConfig) (at : slice_get config.nodes number ≡ Some node) (slot : ℕ) (below : slot < 16384) where
  here : IsPlaced config.nodes (place_of node)
  here = record { number = number; node = node; at = at; is = refl }

  pub moved_leads : (numbered : Bool) → Leads config.nodes numbered (moved_text slot node.host node.port)
  moved_leads numbered = record {
    redirection = Moved slot (place_of node);
    is = record { text_is = refl; slot = below; to = node_is_reached config cluster_is number node at; number = tt };
    placed = here;
    named = λ is. tt;
  }

  pub ask_leads : (move : ℕ) → IsMove (Some move) → Leads config.nodes true (ask_text slot node.host node.port (Some move))
  ask_leads move is_move = record {
    redirection = Ask slot (place_of node) (Some move);
    is = record { text_is = refl; slot = below; to = node_is_reached config cluster_is number node at; number = is_move };
    placed = here;
    named = λ is. tt;
  }

  pub any_ask_leads : Leads config.nodes false (ask_text slot node.host node.port None)
  any_ask_leads = record {
    redirection = Ask slot (place_of node) None;
    is = record { text_is = refl; slot = below; to = node_is_reached config cluster_is number node at; number = tt };
    placed = here;
    named = λ is. cc;
  }
