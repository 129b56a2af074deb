-- The definitions at values that the format's table gives.
use Rattle.std.proofs.Common.{◌≡◌, ◌++◌, [], ◌∷◌, List, ℕ, Some, None, true, false, refl}
use Rattle.std.specs.Prelude.{codes, pos, negsuc, Ok, Err, replicate}
use Rattle.serde_json.specs.Data.{Data, Members, number, unsigned, string, array, object, no_items, item, no_members, member}
use Rattle.config_text.specs.Faults.{fault_of, range_from}
use Rattle.config_text.specs.Form.{draft_in, node_in}
use Rattle.config_text.specs.Reading.{config_of, read_draft}
use Rattle.cluster_config.specs.Texts.{is_id, is_host}
use Rattle.cluster_config.specs.declared.config.Role.TheVariants.{Master, Replica}
use Rattle.config_text.specs.declared.fault.ConfigFault.TheVariants as fault

an_address : is_host (codes "127.0.0.1") ≡ true
an_address = refl

with_colons : is_host (codes "::1") ≡ false
with_colons = refl

a_capital : is_id (replicate 39 48 ++ codes "F") ≡ false
a_capital = refl

all_slots : range_from (pos 0, pos 16383) ≡ Some (record { first = 0; last = 16383 })
all_slots = refl

a_slot_too_many : range_from (pos 0, pos 16384) ≡ None
a_slot_too_many = refl

below_all_slots : range_from (negsuc 0, pos 5) ≡ None
below_all_slots = refl

id_1 : List ℕ
id_1 = replicate 39 48 ++ codes "1"

-- a master that has the slots from 0 on and votes alone, and its replica
slots_to : ℕ → Data
slots_to last = array (item (array (item (number (unsigned 0)) (item (number (unsigned last)) no_items))) no_items)

node_with : List ℕ → ℕ → Members → Data
node_with id port role = object (member (codes "host") (string (codes "a")) (member (codes "id") (string id) (member (codes "port") (number (unsigned port)) role)))

pair : ℕ → ℕ → Data
pair last port =
    let nodes = item (node_with id_1 7000 (member (codes "slots") (slots_to last) no_members))
    (item (node_with (replicate 39 48 ++ codes "2") port (member (codes "replica_of") (string id_1) no_members)) no_items) in
    object (member (codes "node_timeout") (number (unsigned 20)) (member (codes "nodes") (array nodes) (member (codes "tick_ms") (number (unsigned 100))
    (member (codes "voters") (array (item (string id_1) no_items)) no_members))))

a_pair_is_read : read_draft (draft_in (pair 16383 7001)) ≡ Ok (record {
  tick_ms = 100;
  node_timeout = 20;
  backlog = 1048576;
  nodes = record { id = replicate 39 48 ++ codes "1"; host = codes "a"; port = 7000; role = Master (record { first = 0; last = 16383 } ∷ []) }
      ∷ record { id = replicate 39 48 ++ codes "2"; host = codes "a"; port = 7001; role = Replica 0 }
      ∷ [];
  voters = 0 ∷ [];
})
unfolding id_1 slots_to node_with pair draft_in node_in fault_of config_of
a_pair_is_read = refl

an_address_twice : read_draft (draft_in (pair 16383 7000)) ≡ Err fault.Address
unfolding id_1 slots_to node_with pair draft_in node_in fault_of config_of
an_address_twice = refl

slots_before_address : read_draft (draft_in (pair 16384 7000)) ≡ Err fault.Slots
unfolding id_1 slots_to node_with pair draft_in node_in fault_of config_of
slots_before_address = refl
