-- The nodes that a client knows: they are nodes of the configuration, none of them twice, and so there is room for each.
use Rattle.std.proofs.Common.{◌≡◌, ◌≢◌, ◌<◌, ◌≤◌, ◌+◌, ◌∙◌, ◌==◌, ◌&&◌, ◌∷◌, ◌++◌, not, ℕ, zero, suc, Bool, true, false, true≢false, cond, List, [], Contains, map, length, refl, sym, ap, subst, inl, inr, arith}
use Rattle.std.proofs.lemmas.Bool.{cases_Bool, eq-eqb, eqb-true, ne_eqb}
use Rattle.std.proofs.lemmas.List.{length-append}
use Rattle.std.proofs.lemmas.List.Elements.{Contains-append_cases, Contains-append_left, Contains-append_right}
use Rattle.std.proofs.lemmas.Option.{get_or_from_slice_get, slice_get_within}
use Rattle.std.proofs.lemmas.Slice.Eq.{bytes_eq-Decides}
use Rattle.std.specs.Prelude.{⊤}
use Rattle.cluster_config.proofs.PlaceLemmas.{position-le}
use Rattle.cluster_config.specs.Config.{ClusterConfig, IsCluster}
use Rattle.cluster_config.specs.declared.config.NodeConfig.{NodeConfig}
use Rattle.redirection.specs.Address.{Place}
use Rattle.single_keyspace.proofs.Lists.{contains_first, contains_more, contains_nothing, contains_one, first_or_more, mapped}
use Rattle.smart_client.specs.Pool.{is_same}
use Rattle.smart_client.specs.Step.{is_at, is_beyond, peer_at, place_of, with_address, with_connected}
use Rattle.smart_client.specs.declared.client_core.TheConstants.{MOST_ADDRESSES}
use Rattle.smart_client.specs.declared.peers.Peer.{Peer}
use Rattle.final_answers.proofs.Placed.{IsPlaced}
use Rattle.final_answers.proofs.Placed as placed

-- ---- lists without repetition

abbrev pub AreDistinct : List Place → Type 0
AreDistinct [] = ⊤
AreDistinct (place ∷ places) = ((other : Place) → Contains places other → place ≢ other) × AreDistinct places

-- such a list is no longer than one that has all its elements
record IsSplit (all : List Place) (place : Place) : Type 0 where
  front : List Place
  back : List Place
  is : all ≡ front ++ place ∷ back

split_at : (all : List Place) (place : Place) → Contains all place → IsSplit all place
split_at [] place among = absurd (contains_nothing place among)
split_at (first ∷ all) place among =
    elim (first_or_more first place all among) [
      | inl same ↦ record { front = []; back = all; is = ap (λ (p : Place). p ∷ all) same }
      | inr more ↦ let rest = split_at all place more in record { front = first ∷ rest.front; back = rest.back; is = ap (λ (ps : List Place). first ∷ ps) rest.is }
    ]

no_more_than : (places all : List Place) → AreDistinct places → ((place : Place) → Contains places place → Contains all place) → length places ≤ length all
no_more_than [] all distinct among = omega arith
no_more_than (place ∷ places) all distinct among =
    let split = split_at all place (among place (contains_first place places)) in
    let rest : length places ≤ length (split.front ++ split.back) = no_more_than places (split.front ++ split.back) distinct.1 (elsewhere split) in
    omega (arith, rest, length-append split.front split.back, ap length split.is, length-append split.front (place ∷ split.back))
  where
    elsewhere : (split : IsSplit all place) → (other : Place) → Contains places other → Contains (split.front ++ split.back) other
    elsewhere split other is =
        elim (Contains-append_cases split.front (place ∷ split.back) other (subst (λ (ps : List Place). Contains ps other) split.is (among other (contains_more place other places is)))) [
          | inl front ↦ Contains-append_left split.front split.back other front
          | inr rest ↦
              elim (first_or_more place other split.back rest) [
                | inl same ↦ absurd (distinct.0 other is same)
                | inr back ↦ Contains-append_right split.front split.back other back
              ]
        ]

one_more_distinct : (places : List Place) (place : Place) → AreDistinct places → (Contains places place → ⊥) → AreDistinct (places ++ place ∷ [])
one_more_distinct [] place distinct new = ((λ other among. absurd (contains_nothing other among)), tt)
one_more_distinct (first ∷ places) place distinct new = (
  λ other among same.
      elim (Contains-append_cases places (place ∷ []) other among) [
        | inl before ↦ distinct.0 other before same
        | inr last ↦ new (subst (λ (p : Place). Contains (first ∷ places) p) (same ∙ sym (contains_one place other last)) (contains_first first places))
      ],
  one_more_distinct places place distinct.1 (λ among. new (contains_more first place places among)),
)

-- ---- peers

abbrev pub addresses : List Peer → List Place
addresses peers = map (λ (peer : Peer). peer.address) peers

pub record AreKnown (nodes : List NodeConfig) (peers : List Peer) : Type 0 where
  pub placed : (place : Place) → Contains (addresses peers) place → IsPlaced nodes place
  pub distinct : AreDistinct (addresses peers)

-- which of them are connected changes no address
same_addresses : (peers : List Peer) (place : ℕ) (is_connected : Bool) → addresses (with_connected peers place is_connected) ≡ addresses peers
same_addresses [] place is_connected = refl
same_addresses (peer ∷ peers) zero is_connected = refl
same_addresses (peer ∷ peers) (suc place) is_connected = ap (λ (places : List Place). peer.address ∷ places) (same_addresses peers place is_connected)

pub connected_known : (nodes : List NodeConfig) (peers : List Peer) (place : ℕ) (is_connected : Bool) → AreKnown nodes peers → AreKnown nodes (with_connected peers place is_connected)
connected_known nodes peers place is_connected known =
    let same = same_addresses peers place is_connected in
    record {
      placed = λ address among. known.placed address (subst (λ (ps : List Place). Contains ps address) same among);
      distinct = subst AreDistinct (sym same) known.distinct;
    }

-- ---- one more

is_found : (address : Place) (peer : Peer) → peer.address ≡ address → is_at address peer ≡ true
is_found address peer same =
    ap (λ (place : Place). is_same address place) same
    ∙ ap (λ (b : Bool). b && (address.port == address.port)) ((bytes_eq-Decides address.host address.host).1 refl)
    ∙ eq-eqb address.port address.port refl

not_known : (peers : List Peer) (address : Place) → place_of peers address ≡ length peers → Contains (addresses peers) address → ⊥
not_known [] address is among = contains_nothing address among
not_known (peer ∷ peers) address is among =
    elim (cases_Bool (is_at address peer)) [
      | inl here ↦
          let first : place_of (peer ∷ peers) address ≡ 0 = ap (λ (b : Bool). cond (not b) (1 + place_of peers address) 0) here in
          omega (arith, first, is)
      | inr elsewhere ↦
          let more : place_of (peer ∷ peers) address ≡ 1 + place_of peers address = ap (λ (b : Bool). cond (not b) (1 + place_of peers address) 0) elsewhere in
          elim (first_or_more peer.address address (addresses peers) among) [
            | inl same ↦ true≢false (sym (is_found address peer same) ∙ elsewhere)
            | inr rest ↦ not_known peers address (omega (arith, more, is)) rest
          ]
    ]

addresses-push : (peers : List Peer) (peer : Peer) → addresses (peers ++ peer ∷ []) ≡ addresses peers ++ peer.address ∷ []
addresses-push [] peer = refl
addresses-push (first ∷ peers) peer = ap (λ (places : List Place). first.address ∷ places) (addresses-push peers peer)

pub added_known : (nodes : List NodeConfig) (peers : List Peer) (address : Place) → AreKnown nodes peers → IsPlaced nodes address → AreKnown nodes (with_address peers address)
added_known nodes peers address known there = by_place (place_of peers address == length peers) refl
  where
    one : Peer
    one = record { address = address; is_connected = false }

    by_place : (behind : Bool) → (place_of peers address == length peers) ≡ behind → AreKnown nodes (cond behind (peers ++ one ∷ []) peers)
    by_place false is = known
    by_place true is =
        let pushed = addresses-push peers one in
        record {
          placed = λ place among.
              elim (Contains-append_cases (addresses peers) (address ∷ []) place (subst (λ (ps : List Place). Contains ps place) pushed among)) [
                | inl before ↦ known.placed place before
                | inr last ↦ subst (IsPlaced nodes) (contains_one address place last) there
              ];
          distinct = subst AreDistinct (sym pushed)
              (one_more_distinct (addresses peers) address known.distinct (not_known peers address (eqb-true (place_of peers address) (length peers) is)));
        }

-- ---- by place

pub within_if_connected : (peers : List Peer) (place : ℕ) → (peer_at peers place).is_connected ≡ true → place < length peers
within_if_connected [] place is = absurd (true≢false (sym is))
within_if_connected (peer ∷ peers) zero is = omega arith
within_if_connected (peer ∷ peers) (suc place) is = omega (arith, within_if_connected peers place is)

pub is_among : (peers : List Peer) (place : ℕ) → place < length peers → Contains (addresses peers) (peer_at peers place).address
is_among [] place within = absurd (omega (arith, within))
is_among (peer ∷ peers) zero within = contains_first peer.address (addresses peers)
is_among (peer ∷ peers) (suc place) within = contains_more peer.address (peer_at peers place).address (addresses peers) (is_among peers place (omega (arith, within)))

-- an address stands at one place
pub same_peer : (peers : List Peer) → AreDistinct (addresses peers) → (one other : ℕ) → one < length peers → other < length peers → (peer_at peers one).address ≡ (peer_at peers other).address → one ≡ other
same_peer [] distinct one other within too same = absurd (omega (arith, within))
same_peer (peer ∷ peers) distinct zero zero within too same = refl
same_peer (peer ∷ peers) distinct zero (suc other) within too same = absurd (distinct.0 (peer_at peers other).address (is_among peers other (omega (arith, too))) same)
same_peer (peer ∷ peers) distinct (suc one) zero within too same = absurd (distinct.0 (peer_at peers one).address (is_among peers one (omega (arith, within))) (sym same))
same_peer (peer ∷ peers) distinct (suc one) (suc other) within too same = ap suc (same_peer peers distinct.1 one other (omega (arith, within)) (omega (arith, too)) same)

-- ---- how many

length-addresses : (peers : List Peer) → length (addresses peers) ≡ length peers
length-addresses [] = refl
length-addresses (peer ∷ peers) = ap suc (length-addresses peers)

length-places : (nodes : List NodeConfig) → length (map placed.place_of nodes) ≡ length nodes
length-places [] = refl
length-places (node ∷ nodes) = ap suc (length-places nodes)

-- there is room for one more
pub has_room : (config : ClusterConfig) → IsCluster config → (peers : List Peer) → AreKnown config.nodes peers → (address : Place) → is_beyond peers address ≡ false
has_room config cluster_is peers known address =
    let few : length (addresses peers) ≤ length (map placed.place_of config.nodes) = no_more_than (addresses peers) (map placed.place_of config.nodes) known.distinct is_one in
    let at : place_of peers address ≤ length peers = position-le (is_at address) peers in
    ne_eqb (place_of peers address) MOST_ADDRESSES (λ same. omega (arith, few, at, length-addresses peers, length-places config.nodes, cluster_is.most, same))
  where
    is_one : (place : Place) → Contains (addresses peers) place → Contains (map placed.place_of config.nodes) place
    is_one place among =
        let there = known.placed place among in
        let node_among : Contains config.nodes there.node =
        (there.number, slice_get_within config.nodes there.number there.node there.at, get_or_from_slice_get config.nodes there.number there.node there.node there.at) in
        subst (Contains (map placed.place_of config.nodes)) (sym there.is) (mapped placed.place_of config.nodes there.node node_among)
