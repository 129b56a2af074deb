-- A cluster that is built from what a text says, where nothing is wrong with it.
use Rattle.std.proofs.Common.{◌≡◌, sym, ◌∙◌, ap, ap₂, refl, inl, inr, subst, arith, ℕ, ◌<◌, ◌≤◌, Bool, true, false, cond, not, ◌&&◌, ◌==◌, ltb, leb, List, [], ◌∷◌, ◌++◌, length, get_or, map, drop, Option, Some, None}
use Rattle.std.specs.Prelude.{ℤ, pos, negsuc, nat_abs, int_le, All, IsTrue}
use Rattle.std.specs.List.{list_all, cons_option, filter_map, slice_get}
use Rattle.std.specs.Option.{option_map, option_map_or, option_and_then}
use Rattle.std.specs.Ordering.{int_eq}
use Rattle.std.specs.Str.{bytes_eq}
use Rattle.std.proofs.lemmas.Bool.{true≢false, and_parts, cases_Bool, eqb-true, ltb-true, leb-true}
use Rattle.std.proofs.lemmas.Cmp.{int_eq_equiv}
use Rattle.std.proofs.lemmas.List.{length-map}
use Rattle.std.proofs.lemmas.List.Elements.{All-map, filter_map-append}
use Rattle.std.proofs.lemmas.List.Sums.{AllPass-from_list_all, passes_at_first}
use Rattle.std.proofs.lemmas.Option.{slice_get-map}
use Rattle.std.proofs.lemmas.Slice.Eq.{bytes_eq-Decides}
use Rattle.cluster_config.specs.Config.{IsCluster, IsUpTo, IsMaster, FollowsMaster, all_pairs, has_slot, are_apart, is_below}
use Rattle.cluster_config.specs.Config as config
use Rattle.config_text.specs.Faults.{IsSound, are_ids, are_slots, are_voters, are_within, conditions, differ, fault_of, first_failed, follows_master, has_id, has_lower_id, has_master, has_port, is_elsewhere, is_known, is_master, is_up_to, number_of, pairs_in, range_from, ranges_from, slots_in}
use Rattle.config_text.specs.Reading.{config_of, node_of, role_of}
use Rattle.cluster_config.specs.Texts.{is_host}
use Rattle.cluster_config.specs.declared.config.NodeConfig.{NodeConfig}
use Rattle.key_slot.specs.declared.slots.SlotRange.{SlotRange}
use Rattle.config_text.specs.declared.fault.ConfigFault.{ConfigFault}
use Rattle.config_text.specs.declared.fault.ConfigFault.TheVariants as fault
use Rattle.config_text.specs.declared.form.Draft.{Draft}
use Rattle.config_text.specs.declared.form.NodeDraft.{NodeDraft}
use Rattle.config_text.specs.declared.form.RoleDraft.{RoleDraft}
use Rattle.config_text.specs.declared.form.RoleDraft.TheVariants.{Slots, ReplicaOf}
use Rattle.config_text.proofs.PairLemmas.{all_pairs-again, all_pairs-map}

-- what holds where no condition fails
pub record IsFaultless (draft : Draft) : Type 0 where
  pub ids : list_all has_id draft.nodes ≡ true
  pub rise : all_pairs has_lower_id draft.nodes ≡ true
  pub slots : are_slots draft.nodes ≡ true
  pub masters : list_all (has_master draft.nodes) draft.nodes ≡ true
  pub known : list_all (is_known draft.nodes) draft.voters ≡ true
  pub votes : 0 < length draft.voters
  pub once : all_pairs differ draft.voters ≡ true
  pub most : length draft.nodes ≤ 16
  pub addresses : all_pairs is_elsewhere draft.nodes ≡ true
  pub ports : list_all has_port draft.nodes ≡ true
  pub tick_ms : is_up_to (pos 1000000) draft.tick_ms ≡ true
  pub node_timeout : is_up_to (pos 1000000) draft.node_timeout ≡ true
  pub backlog : is_up_to (pos 16777216) draft.backlog ≡ true

row : (holds : Bool) (fault : ConfigFault) (rest : Option ConfigFault) → cond holds rest (Some fault) ≡ None → (holds ≡ true) × (rest ≡ None)
row true fault rest is = (refl, is)
row false fault rest is = absurd (cc is)

pub faultless : (draft : Draft) → fault_of draft ≡ None → IsFaultless draft
unfolding fault_of
faultless draft none =
    let nodes = draft.nodes in
    let id = row (are_ids nodes) fault.Id (first_failed (drop 1 (conditions draft))) none in
    let slots = row (are_slots nodes) fault.Slots (first_failed (drop 2 (conditions draft))) id.1 in
    let masters = row (list_all (has_master nodes) nodes) fault.ReplicaOf (first_failed (drop 3 (conditions draft))) slots.1 in
    let voters = row (are_voters nodes draft.voters) fault.Voters (first_failed (drop 4 (conditions draft))) masters.1 in
    let most = row (leb (length nodes) 16) fault.TooManyNodes (first_failed (drop 5 (conditions draft))) voters.1 in
    let addresses = row (all_pairs is_elsewhere nodes) fault.Address (first_failed (drop 6 (conditions draft))) most.1 in
    let within = row (are_within draft) fault.Range None addresses.1 in
    let ids = and_parts (list_all has_id nodes) (all_pairs has_lower_id nodes) id.0 in
    let votes = and_parts (list_all (is_known nodes) draft.voters && ltb 0 (length draft.voters)) (all_pairs differ draft.voters) voters.0 in
    let known = and_parts (list_all (is_known nodes) draft.voters) (ltb 0 (length draft.voters)) votes.0 in
    let numbers = and_parts (list_all has_port nodes && is_up_to (pos 1000000) draft.tick_ms && is_up_to (pos 1000000) draft.node_timeout) (is_up_to (pos 16777216) draft.backlog) within.0 in
    let times = and_parts (list_all has_port nodes && is_up_to (pos 1000000) draft.tick_ms) (is_up_to (pos 1000000) draft.node_timeout) numbers.0 in
    let ports = and_parts (list_all has_port nodes) (is_up_to (pos 1000000) draft.tick_ms) times.0 in
    record {
      ids = ids.0;
      rise = ids.1;
      slots = slots.0;
      masters = masters.0;
      known = known.0;
      votes = ltb-true 0 (length draft.voters) known.1;
      once = votes.1;
      most = leb-true (length nodes) 16 most.0;
      addresses = addresses.0;
      ports = ports.0;
      tick_ms = ports.1;
      node_timeout = times.1;
      backlog = numbers.1;
    }

-- a number that is up to the last
pub up_to : (last : ℕ) (z : ℤ) → is_up_to (pos last) z ≡ true → IsUpTo last (nat_abs z)
up_to last (pos n) is = let parts = and_parts (leb 1 n) (leb n last) is in (leb-true 1 n parts.0, leb-true n last parts.1)
up_to last (negsuc n) is = absurd (true≢false (sym is))

pos-nat_abs : (last z : ℤ) → is_up_to last z ≡ true → pos (nat_abs z) ≡ z
pos-nat_abs last (pos n) is = refl
pos-nat_abs last (negsuc n) is = absurd (true≢false (sym is))

same_port : (x y : ℤ) → is_up_to (pos 65535) x ≡ true → is_up_to (pos 65535) y ≡ true → (nat_abs x == nat_abs y) ≡ true → int_eq x y ≡ true
same_port x y port other same =
    let eq : x ≡ y = sym (pos-nat_abs (pos 65535) x port) ∙ ap pos (eqb-true (nat_abs x) (nat_abs y) same) ∙ pos-nat_abs (pos 65535) y other in
    ap (λ (z : ℤ). int_eq z y) eq ∙ int_eq_equiv.refl y

-- what is known of each node
pub all_sound : (draft : Draft) → IsFaultless draft → All (IsSound draft.nodes) draft.nodes
all_sound draft holds k d lt = record {
  id = AllPass-from_list_all has_id draft.nodes holds.ids k d lt;
  port = AllPass-from_list_all has_port draft.nodes holds.ports k d lt;
  master = AllPass-from_list_all (has_master draft.nodes) draft.nodes holds.masters k d lt;
}

-- each voter is a node
pub all_known : (draft : Draft) → IsFaultless draft → All (λ voter. number_of draft.nodes voter < length draft.nodes) draft.voters
all_known draft holds k d lt =
    ltb-true (number_of draft.nodes (get_or draft.voters k d)) (length draft.nodes) (AllPass-from_list_all (is_known draft.nodes) draft.voters holds.known k d lt)

-- the same of the nodes and the voters as the code has them
pub all_known_in : (draft : Draft) → IsFaultless draft → (nodes : List NodeDraft) (voters : List (List ℕ)) → nodes ≡ draft.nodes → voters ≡ draft.voters → All (λ voter. number_of nodes voter < length nodes) voters
all_known_in draft holds nodes voters same_nodes same_voters = rw (same_nodes, same_voters) (all_known draft holds)

-- two addresses stay two
with_port : (same_host same_port : Bool) (x y : ℤ) → (same_port ≡ true → int_eq x y ≡ true) → not (same_host && int_eq x y) ≡ true → not (same_host && same_port) ≡ true
with_port false same_port x y same two = refl
with_port true false x y same two = refl
with_port true true x y same two = ap not (sym (same refl)) ∙ two

-- a range that is read has a slot
abs_le : (x y : ℤ) → int_le (pos 0) x ≡ true → int_le x y ≡ true → leb (nat_abs x) (nat_abs y) ≡ true
abs_le (pos m) (pos n) from to = to
abs_le (pos m) (negsuc n) from to = absurd (true≢false (sym to))
abs_le (negsuc m) y from to = absurd (true≢false (sym from))

read_range : (pair : ℤ × ℤ) → option_map_or has_slot (range_from pair) true ≡ true
read_range pair =
    let tested = λ (is : Bool). option_map_or has_slot (cond is (Some (record { first = nat_abs pair.0; last = nat_abs pair.1 })) None) true in
    elim (cases_Bool (int_le (pos 0) pair.0 && int_le pair.0 pair.1 && int_le pair.1 (pos 16383))) [
      | inl is ↦
          let within = and_parts (int_le (pos 0) pair.0 && int_le pair.0 pair.1) (int_le pair.1 (pos 16383)) is in
          let rises = and_parts (int_le (pos 0) pair.0) (int_le pair.0 pair.1) within.0 in
          ap tested is ∙ abs_le pair.0 pair.1 rises.0 rises.1
      | inr isnt ↦ ap tested isnt
    ]

one_more : (range : Option SlotRange) (ranges : List SlotRange) → option_map_or has_slot range true ≡ true → list_all has_slot ranges ≡ true → list_all has_slot (cons_option range ranges) ≡ true
one_more None ranges is all = all
one_more (Some range) ranges is all = ap₂ (λ (a : Bool) (b : Bool). a && b) is all

read_ranges : (pairs : List (ℤ × ℤ)) → list_all has_slot (filter_map range_from pairs) ≡ true
read_ranges [] = refl
read_ranges (pair ∷ pairs) = one_more (range_from pair) (filter_map range_from pairs) (read_range pair) (read_ranges pairs)

-- the ranges of the cluster are those of the nodes
role_ranges : (nodes : List NodeDraft) (role : RoleDraft) → config.ranges_in (role_of nodes role) ≡ filter_map range_from (slots_in role)
role_ranges nodes (Slots slots) = refl
role_ranges nodes (ReplicaOf id) = refl

built_ranges : (all nodes : List NodeDraft) → config.ranges_of (map (node_of all) nodes) ≡ filter_map range_from (pairs_in nodes)
built_ranges all [] = refl
built_ranges all (node ∷ nodes) = ap₂ (λ (a : List SlotRange) (b : List SlotRange). a ++ b) (role_ranges all node.role) (built_ranges all nodes) ∙ sym (filter_map-append range_from (slots_in node.role) (pairs_in nodes))

-- where each pair is a range, none is left out
one_kept : (range : Option SlotRange) (ranges : Option (List SlotRange)) (kept all : List SlotRange) → ((rs : List SlotRange) → ranges ≡ Some rs → kept ≡ rs) → option_and_then (λ r. option_map (λ rs. r ∷ rs) ranges) range ≡ Some all
    → cons_option range kept ≡ all
one_kept None ranges kept all rest is = absurd (cc is)
one_kept (Some range) None kept all rest is = absurd (cc is)
one_kept (Some range) (Some ranges) kept all rest is = let same = rest ranges refl in cc

all_kept : (pairs : List (ℤ × ℤ)) (ranges : List SlotRange) → ranges_from pairs ≡ Some ranges → filter_map range_from pairs ≡ ranges
all_kept [] ranges is = cc
all_kept (pair ∷ pairs) ranges is = one_kept (range_from pair) (ranges_from pairs) (filter_map range_from pairs) ranges (all_kept pairs) is

apart : (pairs : List (ℤ × ℤ)) (ranges : Option (List SlotRange)) → ranges_from pairs ≡ ranges → option_map_or (all_pairs are_apart) ranges false ≡ true → all_pairs are_apart (filter_map range_from pairs) ≡ true
apart pairs None is are = absurd (true≢false (sym are))
apart pairs (Some ranges) is are = ap (all_pairs are_apart) (all_kept pairs ranges is) ∙ are

-- a replica follows a master of the cluster
built_master : (nodes : List NodeDraft) (node : Option NodeDraft) → option_map_or (λ (n : NodeDraft). is_master n.role) node false ≡ true → IsMaster (option_map (node_of nodes) node)
built_master nodes None is = absurd (true≢false (sym is))
built_master nodes (Some node) is = master_role node.role is where
  master_role : (role : RoleDraft) → is_master role ≡ true → config.IsMasterRole (role_of nodes role)
  master_role (Slots slots) is = tt
  master_role (ReplicaOf id) is = absurd (true≢false (sym is))

follows : (nodes : List NodeDraft) (role : RoleDraft) → follows_master nodes role ≡ true → FollowsMaster (map (node_of nodes) nodes) (role_of nodes role)
follows nodes (Slots slots) is = tt
follows nodes (ReplicaOf id) is = subst IsMaster (sym (slice_get-map (node_of nodes) nodes (number_of nodes id))) (built_master nodes (slice_get nodes (number_of nodes id)) is)

-- two texts are those of two nodes
known_id : (nodes : List NodeDraft) (id : List ℕ) (d : NodeDraft) → is_known nodes id ≡ true → (get_or nodes (number_of nodes id) d).id ≡ id
known_id nodes id d known =
    let test = λ (node : NodeDraft). bytes_eq node.id id in
    (bytes_eq-Decides (get_or nodes (number_of nodes id) d).id id).0 (passes_at_first test nodes d (ltb-true (number_of nodes id) (length nodes) known))

two_nodes : (nodes : List NodeDraft) (text other : List ℕ) (d : NodeDraft) → is_known nodes text ≡ true → is_known nodes other ≡ true → differ text other ≡ true → config.differ (number_of nodes text) (number_of nodes other) ≡ true
two_nodes nodes text other d known too two =
    elim (cases_Bool (number_of nodes text == number_of nodes other)) [
      | inl same ↦
          let place = eqb-true (number_of nodes text) (number_of nodes other) same in
          let texts : text ≡ other = sym (known_id nodes text d known) ∙ ap (λ (n : ℕ). (get_or nodes n d).id) place ∙ known_id nodes other d too in
          absurd (true≢false (sym two ∙ ap not ((bytes_eq-Decides text other).1 texts)))
      | inr differs ↦ ap not differs
    ]

built_cluster : (draft : Draft) → IsFaultless draft → All (λ (node : NodeConfig). IsTrue (is_host node.host)) (config_of draft).nodes → IsCluster (config_of draft)
unfolding config_of
built_cluster draft holds hosts =
    let nodes = draft.nodes in
    let built = map (node_of nodes) nodes in
    let whole : length built ≡ length nodes = length-map nodes (node_of nodes) in
    let votes : length (map (number_of nodes) draft.voters) ≡ length draft.voters = length-map draft.voters (number_of nodes) in
    let most = holds.most in
    let voting = holds.votes in
    let first : number_of nodes (get_or draft.voters 0 []) < length nodes = all_known draft holds 0 [] voting in
    record {
      tick_ms = up_to 1000000 draft.tick_ms holds.tick_ms;
      node_timeout = up_to 1000000 draft.node_timeout holds.node_timeout;
      backlog = up_to 16777216 draft.backlog holds.backlog;
      some = omega arith;
      most = omega arith;
      ids = all_pairs-map (λ (a b : NodeConfig). is_below a.id b.id) (node_of nodes) nodes ∙ holds.rise;
      hosts = hosts;
      ports = All-map (λ (node : NodeConfig). IsUpTo 65535 node.port) (node_of nodes) nodes (λ k d lt. up_to 65535 (get_or nodes k d).port (AllPass-from_list_all has_port nodes holds.ports k d lt));
      addresses =
          all_pairs-map config.is_elsewhere (node_of nodes) nodes
          ∙ all_pairs-again is_elsewhere has_port (λ (a b : NodeDraft). config.is_elsewhere (node_of nodes a) (node_of nodes b))
          (λ a b port other two. with_port (bytes_eq a.host b.host) (nat_abs a.port == nat_abs b.port) a.port b.port (same_port a.port b.port port other) two)
          nodes holds.ports holds.addresses;
      ranges = ap (λ (rs : List SlotRange). list_all has_slot rs) (built_ranges nodes nodes) ∙ read_ranges (pairs_in nodes);
      slots = ap (λ (rs : List SlotRange). all_pairs are_apart rs) (built_ranges nodes nodes) ∙ apart (pairs_in nodes) (ranges_from (pairs_in nodes)) refl holds.slots;
      masters = All-map (λ (node : NodeConfig). FollowsMaster built node.role) (node_of nodes) nodes
          (λ k d lt. follows nodes (get_or nodes k d).role (AllPass-from_list_all (has_master nodes) nodes holds.masters k d lt));
      votes = omega arith;
      voters = All-map (λ (number : ℕ). number < length built) (number_of nodes) draft.voters (λ k d lt. let below = all_known draft holds k d lt in omega arith);
      once =
          all_pairs-map config.differ (number_of nodes) draft.voters
          ∙ all_pairs-again differ (is_known nodes) (λ (a b : List ℕ). config.differ (number_of nodes a) (number_of nodes b))
          (λ a b known too two. two_nodes nodes a b (record { id = []; host = []; port = pos 0; role = ReplicaOf [] }) known too two)
          draft.voters holds.known holds.once;
    }

pub cluster_of : (draft : Draft) → IsFaultless draft → (tick_ms node_timeout backlog : ℕ) (nodes : List NodeConfig) (voters : List ℕ) → tick_ms ≡ nat_abs draft.tick_ms → node_timeout ≡ nat_abs draft.node_timeout
    → backlog ≡ nat_abs draft.backlog → nodes ≡ map (node_of draft.nodes) draft.nodes → voters ≡ map (number_of draft.nodes) draft.voters → All (λ (node : NodeConfig). IsTrue (is_host node.host)) nodes → IsCluster (record { tick_ms = tick_ms; node_timeout = node_timeout; backlog = backlog; nodes = nodes; voters = voters })
unfolding config_of
cluster_of draft holds tick_ms node_timeout backlog nodes voters tick timeout kept built votes hosts =
    rw (tick, timeout, kept, votes, built) (built_cluster draft holds (subst (All (λ (node : NodeConfig). IsTrue (is_host node.host))) built hosts))
