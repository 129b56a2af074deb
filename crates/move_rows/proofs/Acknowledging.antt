-- An acknowledgement, as a node takes it.
use Rattle.std.proofs.Common.{◌≡◌, ◌<◌, ◌&&◌, ◌||◌, ℕ, arith, List, [], ◌∷◌, Bool, true, false, not, cond, map, Option, eq-eqb, nat_eq, refl, sym, ap, subst, ◌∙◌}
use Rattle.std.proofs.lemmas.Bool.{and_parts, true≢false}
use Rattle.std.proofs.lemmas.Cmp.{nat_list_cmp_total}
use Rattle.std.specs.Borrow.{Bor}
use Rattle.std.specs.Cmp.{eq_by_cmp_equiv, nat_cmp_total, unsigned_tied}
use Rattle.std.specs.FinMap as fin_map
use Rattle.std.specs.Ordering.{nat_cmp}
use Rattle.std.specs.Option.{option_copied}
use Rattle.std.specs.Cmp.Lexicographic.{pointwise}
use Rattle.std.specs.List.{list_all, list_any}
use Rattle.std.specs.Prelude.{Some, None, is_some, nat_lt}
use Rattle.keyspace.proofs.Applied.{get_changed, is_key, is_key-same, same}
use Rattle.keyspace.proofs.FirstChange.{key_test}
use Rattle.keyspace.proofs.KeysLeft.{has_key, no_key}
use Rattle.keyspace.proofs.Parts.{get_part}
use Rattle.keyspace.specs.Keyspace.{Keyspace}
use Rattle.slot_state.specs.Moves.{Moves, move_of}
use Rattle.slot_state.specs.declared.running.Move.{Move}
use Rattle.slot_state.specs.declared.running.Move.TheVariants.{Leaves, Comes}
use Rattle.slot_state.specs.declared.copy_id.CopyId.{CopyId}
use Rattle.migrate.proofs.Verdicts.{acknowledged_is_frozen}
use Rattle.migrate.specs.Acknowledging.{acknowledged_keys, after_ack, frozen_keys, unfrozen}
use Rattle.migrate.specs.Arriving.{changed_at}
use Rattle.bus.specs.declared.message.Body.{Body}
use Rattle.resp_values.specs.declared.reply.Reply.{Reply}
use Rattle.connections.specs.Connections.{waiting}
use Rattle.connections.specs.Waiting.{is_for}
use Rattle.node_parts.specs.Becomes.{freed}
use Rattle.node_parts.specs.Drafts.{Drafts}
use Rattle.migrate.specs.Sending.{is_among}
use Rattle.move_rows.specs.LastKeys.{are_last, drained_by_ack}
use Rattle.node_parts.specs.declared.draft.Draft.{Draft}
use Rattle.node_step.specs.Copies.{acknowledged, acknowledgement, without, without_keys}
use Rattle.node_step.specs.Orders.{done}
use Rattle.node_step.specs.Outcome.{release, silent}
use Rattle.node_step.specs.Slots.{drained, drained_by, drained_since, has_keys, keys_in, slot_epoch}
use Rattle.node_step.specs.State.{NodeState}
use Rattle.node_step.specs.declared.outputs.Release.{Release}
use Rattle.slot_store.specs.InSlot.{has_only, in_slot, is_in_slot}

-- the slot has what was put there
get-inserted : (m : fin_map.FinMap nat_cmp Move) (slot : ℕ) (move : Move) → fin_map.get (fin_map.insert m slot move) slot ≡ Some move
get-inserted m slot move =
    fin_map.get-insert nat_cmp_total m slot move slot ∙ ap (λ b. cond b (Some move) (fin_map.get m slot)) (unsigned_tied slot slot ∙ eq-eqb slot slot refl)

-- a move that is unfrozen goes to the same node
drained-unfrozen : (slot epoch : ℕ) (move : Move) → drained_by slot epoch (Some (unfrozen move)) ≡ drained_by slot epoch (Some move)
drained-unfrozen slot epoch (Leaves to number copies frozen) = refl
drained-unfrozen slot epoch (Comes from number last drained) = refl

drained-changed : (slot epoch : ℕ) (moves : Moves) (was : Option Move) → move_of moves slot ≡ was
    → drained_by slot epoch (move_of (changed_at moves slot unfrozen was) slot) ≡ drained_by slot epoch (move_of moves slot)
drained-changed slot epoch moves None is = refl
drained-changed slot epoch moves (Some move) is =
    ap (drained_by slot epoch) (get-inserted moves.running slot (unfrozen move)) ∙ drained-unfrozen slot epoch move ∙ ap (drained_by slot epoch) (sym is)

drained-after_ack : (slot epoch : ℕ) (moves : Moves) → drained_by slot epoch (move_of (after_ack moves slot) slot) ≡ drained_by slot epoch (move_of moves slot)
drained-after_ack slot epoch moves = drained-changed slot epoch moves (move_of moves slot) refl

-- ---- the last keys of a slot

either_way : {A : Type 0} (a b : Bool) (v : Option A) → cond a (cond b None v) None ≡ cond b None (cond a v None)
either_way true true v = refl
either_way true false v = refl
either_way false true v = refl
either_way false false v = refl

in_slot-remove : (slot : ℕ) (m : Keyspace) (key : List ℕ) → in_slot slot (fin_map.remove m key) ≡ fin_map.remove (in_slot slot m) key
in_slot-remove slot m key =
    same _ _
    (λ q.
    get_part (is_in_slot slot) (fin_map.remove m key) q ∙ ap (λ v. cond (is_in_slot slot q) v None) (get_changed m key None q) ∙ either_way (is_in_slot slot q) (is_key q key) (fin_map.get m q)
    ∙ sym (get_changed (in_slot slot m) key None q ∙ ap (λ v. cond (is_key q key) None v) (get_part (is_in_slot slot) m q)))

-- the keys that go, one after another
in_slot-without : (slot : ℕ) (m : Keyspace) (keys : List (List ℕ)) → in_slot slot (without m keys) ≡ without (in_slot slot m) keys
in_slot-without slot m [] = refl
in_slot-without slot m (key ∷ keys) = in_slot-without slot (fin_map.remove m key) keys ∙ ap (λ (n : Keyspace). without n keys) (in_slot-remove slot m key)

none_or : {A : Type 0} (a b : Bool) (v : Option A) → cond a None (cond b None v) ≡ cond (b || a) None v
none_or true true v = refl
none_or true false v = refl
none_or false true v = refl
none_or false false v = refl

get-without : (m : Keyspace) (keys : List (List ℕ)) (q : List ℕ) → fin_map.get (without m keys) q ≡ cond (list_any (is_key q) keys) None (fin_map.get m q)
get-without m [] q = refl
get-without m (key ∷ keys) q =
    get-without (fin_map.remove m key) keys q ∙ ap (λ v. cond (list_any (is_key q) keys) None v) (get_changed m key None q) ∙ none_or (list_any (is_key q) keys) (is_key q key) (fin_map.get m q)

among_is_key : (keys : List (List ℕ)) (q : List ℕ) → is_among keys q ≡ list_any (is_key q) keys
among_is_key [] q = refl
among_is_key (key ∷ keys) q =
    ap (λ (b : Bool). b || is_among keys q) (sym (key_test key q (pointwise nat_eq key q) refl)) ∙ ap (λ (b : Bool). is_key q key || b) (among_is_key keys q)

-- a key that is not among these is none of those that are
none_of : (keys all : List (List ℕ)) (k : List ℕ) → list_all (is_among keys) all ≡ true → is_among keys k ≡ false → list_any (is_key k) all ≡ false
none_of keys [] k are apart = refl
none_of keys (q ∷ all) k are apart =
    let parts = and_parts (is_among keys q) (list_all (is_among keys) all) are in
    ap (λ (b : Bool). b || list_any (is_key k) all) (other (is_key k q) refl parts.0) ∙ none_of keys all k parts.1 apart
  where
    other : (b : Bool) → is_key k q ≡ b → is_among keys q ≡ true → is_key k q ≡ false
    other false is among = is
    other true is among = absurd (true≢false (sym among ∙ ap (is_among keys) (sym (is_key-same k q is)) ∙ apart))

-- where not all are among these, one isn't
record IsLeft (keys all : List (List ℕ)) : Type 0 where
  key : List ℕ
  there : list_any (is_key key) all ≡ true
  apart : is_among keys key ≡ false

one_left : (keys all : List (List ℕ)) → list_all (is_among keys) all ≡ false → IsLeft keys all
one_left keys [] are = absurd (true≢false are)
one_left keys (q ∷ all) are = by_first (is_among keys q) refl are (one_left keys all)
  where
    more : (b : Bool) {other : Bool} → other ≡ true → (b || other) ≡ true
    more true is = refl
    more false is = is

    by_first : (b : Bool) → is_among keys q ≡ b → (b && list_all (is_among keys) all) ≡ false → (list_all (is_among keys) all ≡ false → IsLeft keys all) → IsLeft keys (q ∷ all)
    by_first false is rest others = record { key = q; there = ap (λ (b : Bool). b || list_any (is_key q) all) ((eq_by_cmp_equiv nat_list_cmp_total).refl q); apart = is }
    by_first true is rest others =
        let left = others rest in
        record { key = left.key; there = more (is_key left.key q) left.there; apart = left.apart }

-- what is left of a keyspace without these keys
has_left : (m : Keyspace) (keys : List (List ℕ)) → nat_lt 0 (fin_map.len (without m keys)) ≡ not (list_all (is_among keys) (fin_map.keys m))
has_left m keys = by_all (list_all (is_among keys) (fin_map.keys m)) refl
  where
    gone : list_all (is_among keys) (fin_map.keys m) ≡ true → (k : List ℕ) (b : Bool) → is_among keys k ≡ b → is_some (fin_map.get (without m keys) k) ≡ false
    gone are k true among = ap is_some (get-without m keys k) ∙ ap (λ (b : Bool). is_some (cond b None (fin_map.get m k))) (sym (among_is_key keys k) ∙ among)
    gone are k false among =
        ap is_some (get-without m keys k) ∙ ap (λ (b : Bool). is_some (cond b None (fin_map.get m k))) (sym (among_is_key keys k) ∙ among)
        ∙ fin_map.contains_key-keys m k ∙ none_of keys (fin_map.keys m) k are among

    by_all : (b : Bool) → list_all (is_among keys) (fin_map.keys m) ≡ b → nat_lt 0 (fin_map.len (without m keys)) ≡ not b
    by_all true are = no_key (without m keys) (λ k. gone are k (is_among keys k) refl)
    by_all false are =
        let left = one_left keys (fin_map.keys m) are in
        has_key (without m keys) left.key
        (ap is_some (get-without m keys left.key) ∙ ap (λ (b : Bool). is_some (cond b None (fin_map.get m left.key))) (sym (among_is_key keys left.key) ∙ left.apart)
        ∙ fin_map.contains_key-keys m left.key ∙ left.there)

said_if : {A : Type 0} (has all : Bool) (words : List A) → cond has (cond (not all) [] words) [] ≡ cond (has && all) words []
said_if true true words = refl
said_if true false words = refl
said_if false true words = refl
said_if false false words = refl

-- ---- the last keys, as a store tells them

some_there : (count : ℕ) → 0 < count → nat_lt 0 count ≡ true
some_there count above = grind arith

-- some keys are there, and all are among these
pub last_if : (part : Keyspace) (slot count : ℕ) (m : Keyspace) (among : List (List ℕ)) (all : Bool) → count ≡ fin_map.len (in_slot slot m) → 0 < count
    → part ≡ in_slot slot m → all ≡ has_only among part → all ≡ are_last m slot among
last_if part slot count m among all counted some is so =
    so ∙ ap (has_only among) is
    ∙ ap (λ (b : Bool). b && list_all (is_among among) (keys_in m slot)) (sym (ap (nat_lt 0) (sym counted) ∙ some_there count some))

-- the word is said exactly if the keys are the last ones
said_of_last : (slot : ℕ) (m : Keyspace) (keys : List (List ℕ)) (words : List (ℕ × Body))
    → cond (has_keys m slot) (cond (has_keys (without m keys) slot) [] words) [] ≡ cond (are_last m slot keys) words []
said_of_last slot m keys words =
    ap (λ (left : Bool). cond (has_keys m slot) (cond left [] words) []) (ap (λ (n : Keyspace). nat_lt 0 (fin_map.len n)) (in_slot-without slot m keys) ∙ has_left (in_slot slot m) keys)
    ∙ said_if (has_keys m slot) (list_all (is_among keys) (keys_in m slot)) words

-- what an acknowledgement says of the slot
said : (id : CopyId) (old : NodeState) (keys : List (List ℕ))
    → drained_since old.keyspace (without_keys old id keys) id.slot ≡ drained_by_ack old id.slot keys
said id old keys =
    ap (λ words. cond (has_keys old.keyspace id.slot) (cond (has_keys (without old.keyspace keys) id.slot) [] words) []) (drained-after_ack id.slot (slot_epoch old id.slot) old.moves)
    ∙ said_of_last id.slot old.keyspace keys (drained old id.slot)

-- ---- drafts

-- keys as they are lent
abbrev Lent : Type 0
Lent = Bor (List (List ℕ))

-- where no copy is outstanding
pub nothing_acknowledged : (old : NodeState) (from : ℕ) (id : CopyId) (draft : Draft) (lent : Option Lent) → lent ≡ None
    → option_copied lent ≡ acknowledged_keys (move_of old.moves id.slot) from id.number id.copy → Drafts old (silent old) draft
    → Drafts old (acknowledgement old from id) draft
nothing_acknowledged old from id draft lent none is drafts =
    subst (λ found. Drafts old (acknowledged old id found) draft) (ap option_copied (sym none) ∙ is) drafts

-- and where one is
pub acknowledges : (old : NodeState) (from : ℕ) (id : CopyId) (draft : Draft) (lent : Option Lent) (keys : Lent) (reply : Reply) (released : List Release) (bodies : List (ℕ × Body))
    → lent ≡ Some keys → option_copied lent ≡ acknowledged_keys (move_of old.moves id.slot) from id.number id.copy → bodies ≡ drained_by_ack old id.slot keys.now
    → released ≡ map (release reply) (waiting old.connections (is_for id)) → reply ≡ done
    → ((after : NodeState) → after ≡ freed old id (frozen_keys (move_of old.moves id.slot)) → Drafts old (record (silent after) { released = released; sent = bodies }) draft)
    → Drafts old (acknowledgement old from id) draft
acknowledges old from id draft lent keys reply released bodies some is words gives replies drafts =
    let found : Some keys.now ≡ acknowledged_keys (move_of old.moves id.slot) from id.number id.copy = ap option_copied (sym some) ∙ is in
    let named : released ≡ map (release done) (waiting old.connections (is_for id)) = gives ∙ ap (λ r. map (release r) (waiting old.connections (is_for id))) replies in
    let after = without_keys old id keys.now in
    subst (λ found. Drafts old (acknowledged old id found) draft) found
    (subst (λ (sent : List (ℕ × Body)). Drafts old (record (silent after) { released = map (release done) (waiting old.connections (is_for id)); sent = sent }) draft)
    (words ∙ sym (said id old keys.now))
    (subst (λ (r : List Release). Drafts old (record (silent after) { released = r; sent = bodies }) draft) named
    (drafts after (ap (freed old id) (sym (acknowledged_is_frozen (move_of old.moves id.slot) from id.number id.copy keys.now (sym found)))))))
