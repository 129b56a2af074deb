-- A client keeps an introduced connection to each node that it takes for connected.
use Rattle.std.proofs.Common.{◌≡◌, ◌≢◌, ◌<◌, ◌≤◌, ◌∙◌, ◌==◌, ◌∷◌, ◌++◌, ℕ, zero, suc, Bool, true, false, true≢false, cond, List, [], Option, None, Some, get_or, length, refl, sym, ap, subst, inl, inr, arith}
use Rattle.std.proofs.lemmas.Bool.{cases_eq, cases_lt}
use Rattle.std.proofs.lemmas.List.{get_or-set_other}
use Rattle.std.specs.Prelude.{MatchBool, slice_get, slice_set}
use Rattle.cluster_config.specs.Config.{ClusterConfig, IsCluster}
use Rattle.cluster_config.specs.declared.config.NodeConfig.{NodeConfig}
use Rattle.connections.specs.declared.conn.Conn.{Conn}
use Rattle.redirection.specs.Address.{Place}
use Rattle.single_keyspace.proofs.Lists.{contains_nothing, contains_one}
use Rattle.single_keyspace.proofs.Seen.{no_some, same_some}
use Rattle.smart_client.specs.Step.{nobody, peer_at, place_of, with_address, with_connected}
use Rattle.smart_client.specs.declared.peers.Peer.{Peer}
use Rattle.world_nodes.specs.Nodes.{RunView, is_up}
use Rattle.world_nodes.specs.declared.link.Link.{Link}
use Rattle.world.proofs.Pool.{put_again}
use Rattle.world.specs.Asking.{IsInPool}
use Rattle.world.specs.Calls.{IsConnected, IsUsed}
use Rattle.world.specs.Clients.{node_at, place_at}
use Rattle.final_answers.proofs.Kept.{IsIntroduced, Keeps, connected_keeps}
use Rattle.final_answers.proofs.Peers.{AreKnown, added_known, connected_known, is_among, same_peer, within_if_connected}
use Rattle.final_answers.proofs.Placed.{IsPlaced, is_somewhere, same_place}

-- the node of the peer at the place
abbrev pub node_of : List NodeConfig → List Peer → ℕ → ℕ
node_of nodes peers place = node_at nodes (peer_at peers place).address

-- the connection that is kept to the node at the address
pub record IsKept (nodes : List NodeConfig) (run : RunView) (pool : List (Option Conn)) (address : Place) : Type 0 where
  pub link : Link
  pub there : link.node ≡ node_at nodes address
  pub in_pool : IsInPool pool link
  pub introduced : IsIntroduced run link

pub record AreKept (nodes : List NodeConfig) (run : RunView) (pool : List (Option Conn)) (peers : List Peer) : Type 0 where
  pub known : AreKnown nodes peers
  pub kept : (place : ℕ) → (peer_at peers place).is_connected ≡ true → IsKept nodes run pool (peer_at peers place).address

-- ---- peers that change

address_still : (peers : List Peer) (place other : ℕ) (is_connected : Bool) → (peer_at (with_connected peers place is_connected) other).address ≡ (peer_at peers other).address
address_still [] place other is_connected = refl
address_still (peer ∷ peers) zero zero is_connected = refl
address_still (peer ∷ peers) zero (suc other) is_connected = refl
address_still (peer ∷ peers) (suc place) zero is_connected = refl
address_still (peer ∷ peers) (suc place) (suc other) is_connected = address_still peers place other is_connected

other_still : (peers : List Peer) (place other : ℕ) (is_connected : Bool) → other ≢ place → peer_at (with_connected peers place is_connected) other ≡ peer_at peers other
other_still [] place other is_connected apart = refl
other_still (peer ∷ peers) zero zero is_connected apart = absurd (apart refl)
other_still (peer ∷ peers) zero (suc other) is_connected apart = refl
other_still (peer ∷ peers) (suc place) zero is_connected apart = refl
other_still (peer ∷ peers) (suc place) (suc other) is_connected apart = other_still peers place other is_connected (λ same. apart (ap suc same))

lost_there : (peers : List Peer) (place : ℕ) → (peer_at (with_connected peers place false) place).is_connected ≡ false
lost_there [] place = refl
lost_there (peer ∷ peers) zero = refl
lost_there (peer ∷ peers) (suc place) = lost_there peers place

behind_all : (peers : List Peer) (place : ℕ) → length peers ≤ place → peer_at peers place ≡ nobody
behind_all [] place past = refl
behind_all (peer ∷ peers) zero past = absurd (omega (arith, past))
behind_all (peer ∷ peers) (suc place) past = behind_all peers place (omega (arith, past))

was_there : (peers : List Peer) (one : Peer) → one.is_connected ≡ false → (place : ℕ) → (peer_at (peers ++ one ∷ []) place).is_connected ≡ true → peer_at (peers ++ one ∷ []) place ≡ peer_at peers place
was_there [] one new zero is = absurd (true≢false (sym is ∙ new))
was_there [] one new (suc place) is = absurd (true≢false (sym is))
was_there (peer ∷ peers) one new zero is = refl
was_there (peer ∷ peers) one new (suc place) is = was_there peers one new place is

-- ---- steps of others

pub kept_still : (nodes : List NodeConfig) (old new : RunView) (pool : List (Option Conn)) (peers : List Peer) → Keeps old new → AreKept nodes old pool peers → AreKept nodes new pool peers
kept_still nodes old new pool peers keeps are = record {
  known = are.known;
  kept = λ place is.
      let was = are.kept place is in
      record { link = was.link; there = was.there; in_pool = was.in_pool; introduced = keeps.introduced was.link was.introduced };
}

module _ (config : ClusterConfig) (cluster_is : IsCluster config) where
  abbrev Are : RunView → List (Option Conn) → List Peer → Type 0
  Are run pool peers = AreKept config.nodes run pool peers

  -- ---- a client that begins

  pub first_kept : (run : RunView) (pool : List (Option Conn)) (found : Option NodeConfig) → slice_get config.nodes 0 ≡ found → 0 < length config.nodes
      → Are run pool (record { address = place_at found; is_connected = false } ∷ [])
  first_kept run pool None none some = absurd (no_first config.nodes none some)
    where
      no_first : (nodes : List NodeConfig) → slice_get nodes 0 ≡ None → 0 < length nodes → ⊥
      no_first [] none some = omega (arith, some)
      no_first (node ∷ nodes) none some = no_some none refl
  first_kept run pool (Some node) at some = record {
    known = record {
      placed = λ place among. subst (IsPlaced config.nodes) (contains_one (place_at (Some node)) place among) (record { number = 0; node = node; at = at; is = refl });
      distinct = ((λ other among. absurd (contains_nothing other among)), tt);
    };
    kept = λ place is. absurd (none_connected place is);
  }
    where
      none_connected : (place : ℕ) → (peer_at (record { address = place_at (Some node); is_connected = false } ∷ []) place).is_connected ≡ true → ⊥
      none_connected zero is = true≢false (sym is)
      none_connected (suc place) is = true≢false (sym is)

  -- ---- the node of the connection in use

  -- the connection that is in use is the one that is kept
  pub in_use_is : (run : RunView) (pool : List (Option Conn)) (peers : List Peer) → Are run pool peers → (place : ℕ) → (peer_at peers place).is_connected ≡ true → (link : Link) → link.node ≡ node_of config.nodes peers place
      → IsInPool pool link → IsIntroduced run link
  in_use_is run pool peers are place is link there in_pool =
      let kept = are.kept place is in
      let nodes : kept.link.node ≡ link.node = kept.there ∙ sym there in
      let conns : kept.link.conn ≡ link.conn = same_some (sym (ap (λ (n : ℕ). get_or pool n None) nodes) ∙ kept.in_pool) in_pool in
      let same : kept.link ≡ link = λ i. record { node = nodes i; conn = conns i } in
      subst (IsIntroduced run) same kept.introduced

  -- another peer is at another node
  elsewhere : (run : RunView) (pool : List (Option Conn)) (peers : List Peer) → Are run pool peers → (place other : ℕ) → other ≢ place → (peer_at peers other).is_connected ≡ true → node_of config.nodes peers other ≢ node_of config.nodes peers place
  elsewhere run pool peers are place other apart is same =
      let within : other < length peers = within_if_connected peers other is in
      let there : IsPlaced config.nodes (peer_at peers other).address = are.known.placed (peer_at peers other).address (is_among peers other within) in
      let one : (peer_at peers place).address ≡ (peer_at peers other).address = same_place config cluster_is (peer_at peers other).address (peer_at peers place).address there (sym same) in
      elim (cases_lt place (length peers)) [
        | inl too ↦ apart (same_peer peers are.known.distinct other place within too (sym one))
        | inr past ↦ is_somewhere config cluster_is (peer_at peers other).address there (sym one ∙ ap (λ (peer : Peer). peer.address) (behind_all peers place past))
      ]

  -- ---- connections that are lost

  module _ (run : RunView) (pool : List (Option Conn)) (peers : List Peer) (are : Are run pool peers) (place : ℕ) where
    -- the client takes it for none any more
    lost : (after : List (Option Conn)) → ((other : ℕ) → other ≢ place → (peer_at peers other).is_connected ≡ true → IsKept config.nodes run after (peer_at peers other).address)
        → Are run after (with_connected peers place false)
    lost after others = record {
      known = connected_known config.nodes peers place false are.known;
      kept = λ other is.
          elim (cases_eq other place) [
            | inl same ↦ absurd (true≢false (sym (ap (λ (at : ℕ). (peer_at (with_connected peers place false) at).is_connected) (sym same) ∙ is) ∙ lost_there peers place))
            | inr apart ↦
                let still = other_still peers place other false apart in
                subst (λ (peer : Peer). IsKept config.nodes run after peer.address) (sym still) (others other apart (sym (ap (λ (peer : Peer). peer.is_connected) still) ∙ is))
          ];
    }

    pub kept_lost : Are run pool (with_connected peers place false)
    kept_lost = lost pool (λ other apart is. are.kept other is)

    -- and it is closed
    pub kept_closed : (node : ℕ) → node ≡ node_of config.nodes peers place → Are run (slice_set pool node None) (with_connected peers place false)
    kept_closed node there = lost (slice_set pool node None) still
      where
        still : (other : ℕ) → other ≢ place → (peer_at peers other).is_connected ≡ true → IsKept config.nodes run (slice_set pool node None) (peer_at peers other).address
        still other apart is =
            let was = are.kept other is in
            let away : was.link.node ≢ node = λ same. elsewhere run pool peers are place other apart is (sym was.there ∙ same ∙ there) in
            record { link = was.link; there = was.there; in_pool = get_or-set_other pool node was.link.node None None away ∙ was.in_pool; introduced = was.introduced }

  -- ---- connections that are made

  -- the client said CLUSTER NUMBERED there
  pub kept_greeted : (run : RunView) (pool : List (Option Conn)) (peers : List Peer) → Are run pool peers → (place : ℕ) (link : Link) → link.node ≡ node_of config.nodes peers place → IsInPool pool link → IsIntroduced run link
      → Are run pool (with_connected peers place true)
  kept_greeted run pool peers are place link there in_pool introduced = record {
    known = connected_known config.nodes peers place true are.known;
    kept = λ other is.
        elim (cases_eq other place) [
          | inl same ↦
              let address = address_still peers place other true ∙ ap (λ (at : ℕ). (peer_at peers at).address) same in
              record { link = link; there = there ∙ ap (node_at config.nodes) (sym address); in_pool = in_pool; introduced = introduced }
          | inr apart ↦
              let still = other_still peers place other true apart in
              subst (λ (peer : Peer). IsKept config.nodes run pool peer.address) (sym still) (are.kept other (sym (ap (λ (peer : Peer). peer.is_connected) still) ∙ is))
        ];
  }

  -- one more node is known
  pub kept_added : (run : RunView) (pool : List (Option Conn)) (peers : List Peer) → Are run pool peers → (address : Place) → IsPlaced config.nodes address → Are run pool (with_address peers address)
  kept_added run pool peers are address there = record { known = added_known config.nodes peers address are.known there; kept = by_place (place_of peers address == length peers) }
    where
      one : Peer
      one = record { address = address; is_connected = false }

      by_place : (behind : Bool) → (place : ℕ) → (peer_at (cond behind (peers ++ one ∷ []) peers) place).is_connected ≡ true
          → IsKept config.nodes run pool (peer_at (cond behind (peers ++ one ∷ []) peers) place).address
      by_place false place is = are.kept place is
      by_place true place is =
          let was = was_there peers one refl place is in
          subst (λ (peer : Peer). IsKept config.nodes run pool peer.address) (sym was) (are.kept place (sym (ap (λ (peer : Peer). peer.is_connected) was) ∙ is))

  -- a connection to the node is kept then
  pub kept_linked : (old new : RunView) (pool : List (Option Conn)) (peers : List Peer) → Are old pool peers → (node : ℕ) (conn : Conn) → IsConnected old node (get_or pool node None) (Some conn) new
      → Are new (slice_set pool node (Some conn)) peers
  kept_linked old new pool peers are node conn connected =
      kept_still config.nodes old new (slice_set pool node (Some conn)) peers (connected_keeps old new node (get_or pool node None) (Some conn) connected) (by_up (is_up old node) connected)
    where
      opened : get_or pool node None ≡ None → Are old (slice_set pool node (Some conn)) peers
      opened none = record {
        known = are.known;
        kept = λ place is.
            let was = are.kept place is in
            let away : was.link.node ≢ node = λ same. no_some none (sym (ap (λ (n : ℕ). get_or pool n None) same) ∙ was.in_pool) in
            record { link = was.link; there = was.there; in_pool = get_or-set_other pool node was.link.node (Some conn) None away ∙ was.in_pool; introduced = was.introduced };
      }

      by_before : (before : Option Conn) → get_or pool node None ≡ before → IsUsed old node before (Some conn) new → Are old (slice_set pool node (Some conn)) peers
      by_before None is used = opened is
      by_before (Some one) is used = subst (λ (list : List (Option Conn)). Are old list peers) (sym (put_again pool node (Some conn) (is ∙ sym used.1))) are

      by_up : (up : Bool) → MatchBool up (IsUsed old node (get_or pool node None) (Some conn) new) ((new ≡ old) × (◌≡◌ {A = Option Conn} (Some conn) None)) → Are old (slice_set pool node (Some conn)) peers
      by_up true used = by_before (get_or pool node None) refl used
      by_up false gone = absurd (no_some gone.1 refl)
