-- Worked values: keys of slot 12182 are moved from the third of three masters to the second, how many long keys one request can name, and
-- a run that finds the slot there already.
use Rattle.std.proofs.Common.{◌≡◌, ◌≤◌, ◌+◌, ◌∙◌, refl, sym, ap, inl, inr, arith, ℕ, Bool, true, ◌&&◌, List, [], ◌∷◌, length, length-append, Some}
use Rattle.std.proofs.lemmas.Bool.{and_from, le-leb}
use Rattle.std.specs.List.{list_all}
use Rattle.std.specs.Prelude.{codes, decimal, map, nat_le, pos}
use Rattle.std.specs.Fmt.{digits}
use Rattle.redirection.specs.Address.{Place}
use Rattle.resp_values.specs.Reply.{array_of}
use Rattle.resp_values.specs.declared.reply.Reply.{Reply as Answer}
use Rattle.resp_values.specs.declared.reply.Reply.TheVariants.{Simple, Error, Integer, Bulk, Array}
use Rattle.resp_values.proofs.Spellings.{bulk_len, bulks_len-append}
use Rattle.resp_values.specs.Request.{bulk_spelling, bulks_spelling, crlf, header_spelling}
use Rattle.resharder.proofs.MigrationLemmas.{are_within, at_once, bytes_of, is_short}
use Rattle.resharder.proofs.RequestLemmas.{short_number}
use Rattle.resharder.specs.Migration.{keep_limits, keys_at_once}
use Rattle.resharder.specs.Orders.{migrate_words}
use Rattle.resharder.specs.Step.{Turn, turn}
use Rattle.resharder.specs.Step.Turn.{Goes, Ends, Reads}
use Rattle.resharder.specs.declared.action.Action.{Action}
use Rattle.resharder.specs.declared.action.Action.TheVariants.{Ask, Line, Fault, End}
use Rattle.resharder.specs.declared.action.Event.{Event}
use Rattle.resharder.specs.declared.action.Event.TheVariants.{Start, Reply}
use Rattle.resharder.specs.declared.fault.ReshardFault.TheVariants.{TooOften}
use Rattle.resharder.specs.declared.plan.Plan.{Plan}
use Rattle.resharder.specs.declared.stage.Stage.{Stage}
use Rattle.resharder.specs.declared.stage.Stage.TheVariants.{Begins, Over}

-- ---- a run, event by event

abbrev action_of : Turn → Action
action_of (Goes stage action) = action
action_of (Ends fault) = Fault fault
action_of (Reads made) = action_of made

abbrev stage_of : Turn → Stage
stage_of (Goes stage action) = stage
stage_of (Ends fault) = Over
stage_of (Reads made) = stage_of made

abbrev actions : Plan → Stage → List Event → List Action
actions plan stage [] = []
actions plan stage (event ∷ events) = action_of (turn plan stage event) ∷ actions plan (stage_of (turn plan stage event)) events

-- ---- three masters, of which the ids are short here

abbrev at : ℕ → Place
at port = record { host = codes "127.0.0.1"; port = port }

abbrev master : ℕ → ℕ → ℕ → List ℕ → Answer
master first last port id = Array (array_of (Integer (pos first) ∷ Integer (pos last) ∷ Array (array_of (Bulk (codes "127.0.0.1") ∷ Integer (pos port) ∷ Bulk id ∷ [])) ∷ []))

abbrev masters : Event
masters = Reply (Array (array_of (master 0 5460 7000 (codes "id0") ∷ master 5461 10922 7001 (codes "id1") ∷ master 10923 16383 7002 (codes "id2") ∷ [])))

abbrev state : List ℕ → List ℕ → ℕ → ℕ → ℕ → ℕ → Event
state word id number last keys drained =
    Reply (Array (array_of (Bulk word ∷ Bulk id ∷ Integer (pos number) ∷ Integer (pos last) ∷ Integer (pos keys) ∷ Integer (pos drained) ∷ [])))

abbrev ok : Event
ok = Reply (Simple (codes "OK"))

abbrev no_key : Event
no_key = Reply (Simple (codes "NOKEY"))

abbrev not_acknowledged : Event
not_acknowledged = Reply (Error (codes "IOERR copy not acknowledged"))

abbrev keys : List (List ℕ) → Event
keys some = Reply (Array (array_of (map Bulk some)))

abbrev plan : ℕ → Plan
plan limit = record { start = at 7000; from = codes "id2"; to = codes "id1"; slots = record { first = 12182; last = 12182 }; limit = limit }

abbrev cluster : List (List ℕ) → List (List ℕ)
cluster words = codes "CLUSTER" ∷ words

abbrev migrate : List (List ℕ) → List (List ℕ)
migrate some = codes "MIGRATE" ∷ codes "127.0.0.1" ∷ codes "7001" ∷ [] ∷ codes "0" ∷ codes "100" ∷ codes "KEYS" ∷ some

-- the key `foo` is moved under number 1
moves : actions (plan 1000) Begins
    (Start ∷ masters ∷ state (codes "owned") (codes "id2") 0 0 1 0 ∷ state (codes "foreign") (codes "id2") 0 0 0 0 ∷ ok ∷ ok ∷ keys (codes "foo" ∷ []) ∷ ok ∷ keys [] ∷ ok ∷ ok ∷ ok ∷ Start ∷ [])
    ≡ Ask (at 7000) (cluster (codes "SLOTS" ∷ []))
    ∷ Ask (at 7002) (cluster (codes "SLOTSTATE" ∷ codes "12182" ∷ []))
    ∷ Ask (at 7001) (cluster (codes "SLOTSTATE" ∷ codes "12182" ∷ []))
    ∷ Ask (at 7001) (cluster (codes "SETSLOT" ∷ codes "12182" ∷ codes "IMPORTING" ∷ codes "id2" ∷ codes "1" ∷ []))
    ∷ Ask (at 7002) (cluster (codes "SETSLOT" ∷ codes "12182" ∷ codes "MIGRATING" ∷ codes "id1" ∷ codes "1" ∷ []))
    ∷ Ask (at 7002) (cluster (codes "GETKEYSINSLOT" ∷ codes "12182" ∷ codes "16" ∷ []))
    ∷ Ask (at 7002) (migrate (codes "foo" ∷ []))
    ∷ Ask (at 7002) (cluster (codes "GETKEYSINSLOT" ∷ codes "12182" ∷ codes "16" ∷ []))
    ∷ Ask (at 7001) (cluster (codes "SETSLOT" ∷ codes "12182" ∷ codes "NODE" ∷ codes "id1" ∷ codes "1" ∷ []))
    ∷ Ask (at 7002) (cluster (codes "SETSLOT" ∷ codes "12182" ∷ codes "NODE" ∷ codes "id1" ∷ codes "1" ∷ []))
    ∷ Ask (at 7000) (cluster (codes "SETSLOT" ∷ codes "12182" ∷ codes "NODE" ∷ codes "id1" ∷ codes "1" ∷ []))
    ∷ Line 12182 (Some 1) 1 ∷ End ∷ []
unfolding digits keys_at_once
moves = refl

-- keys that are listed together are moved together, and asked for together again. Those that were moved count, and those that were gone don't
moves_many : actions (plan 1000) Begins
    (Start ∷ masters ∷ state (codes "owned") (codes "id2") 0 0 4 0 ∷ state (codes "foreign") (codes "id2") 0 0 0 0 ∷ ok ∷ ok ∷ keys (codes "a" ∷ codes "b" ∷ codes "c" ∷ []) ∷ not_acknowledged ∷ ok ∷ keys (codes "d" ∷ []) ∷ no_key ∷ keys [] ∷ ok ∷ ok ∷ ok ∷ [])
    ≡ Ask (at 7000) (cluster (codes "SLOTS" ∷ []))
    ∷ Ask (at 7002) (cluster (codes "SLOTSTATE" ∷ codes "12182" ∷ []))
    ∷ Ask (at 7001) (cluster (codes "SLOTSTATE" ∷ codes "12182" ∷ []))
    ∷ Ask (at 7001) (cluster (codes "SETSLOT" ∷ codes "12182" ∷ codes "IMPORTING" ∷ codes "id2" ∷ codes "1" ∷ []))
    ∷ Ask (at 7002) (cluster (codes "SETSLOT" ∷ codes "12182" ∷ codes "MIGRATING" ∷ codes "id1" ∷ codes "1" ∷ []))
    ∷ Ask (at 7002) (cluster (codes "GETKEYSINSLOT" ∷ codes "12182" ∷ codes "16" ∷ []))
    ∷ Ask (at 7002) (migrate (codes "a" ∷ codes "b" ∷ codes "c" ∷ []))
    ∷ Ask (at 7002) (migrate (codes "a" ∷ codes "b" ∷ codes "c" ∷ []))
    ∷ Ask (at 7002) (cluster (codes "GETKEYSINSLOT" ∷ codes "12182" ∷ codes "16" ∷ []))
    ∷ Ask (at 7002) (migrate (codes "d" ∷ []))
    ∷ Ask (at 7002) (cluster (codes "GETKEYSINSLOT" ∷ codes "12182" ∷ codes "16" ∷ []))
    ∷ Ask (at 7001) (cluster (codes "SETSLOT" ∷ codes "12182" ∷ codes "NODE" ∷ codes "id1" ∷ codes "1" ∷ []))
    ∷ Ask (at 7002) (cluster (codes "SETSLOT" ∷ codes "12182" ∷ codes "NODE" ∷ codes "id1" ∷ codes "1" ∷ []))
    ∷ Ask (at 7000) (cluster (codes "SETSLOT" ∷ codes "12182" ∷ codes "NODE" ∷ codes "id1" ∷ codes "1" ∷ []))
    ∷ Line 12182 (Some 1) 3 ∷ []
unfolding digits keys_at_once
moves_many = refl

-- ---- keys that are long

abbrev keeps : List (List ℕ) → Bool
keeps some = keep_limits (migrate_words (at 7001) some)

by_bytes : (some : List (List ℕ)) (count size : ℕ) → list_all is_short some ≡ true → count ≡ length some + 7 → length (header_spelling 42 count) + bytes_of (at 7001) some ≡ size → keeps some ≡ (nat_le count 65536 && nat_le size 16777216)
by_bytes some count size short counted is =
    sym (are_within (at 7001) some count (bytes_of (at 7001) some) (omega arith) (short_number 7001 (omega arith)) short counted refl) ∙ ap (λ n. nat_le count 65536 && nat_le n 16777216) is

one_bytes : (key : List ℕ) → length key ≡ 8388608 → length (header_spelling 42 8) + bytes_of (at 7001) (key ∷ []) ≡ 8388694
unfolding digits
one_bytes key long = omega (
  arith,
  long,
  bulks_len-append (migrate_words (at 7001) []) (key ∷ []),
  length-append {A = ℕ} (bulk_spelling key) [],
  bulk_len key,
  ap (λ (n : ℕ). length (header_spelling 36 n)) long,
)

two_bytes : (first second : List ℕ) (count : ℕ) → length first ≡ 8388608 → length second ≡ count → length (decimal count) ≡ 7 → length (header_spelling 42 9) + bytes_of (at 7001) (first ∷ second ∷ []) ≡ count + 8388706
unfolding digits
two_bytes first second count long counted seven = omega (
  arith,
  long,
  counted,
  seven,
  bulks_len-append (migrate_words (at 7001) []) (first ∷ second ∷ []),
  length-append (bulk_spelling first) (bulks_spelling (second ∷ [])),
  length-append {A = ℕ} (bulk_spelling second) [],
  bulk_len first,
  bulk_len second,
  length-append (decimal count) crlf,
  ap (λ (n : ℕ). length (header_spelling 36 n)) long,
  ap (λ (n : ℕ). length (header_spelling 36 n)) counted,
)

keeps_one : (key : List ℕ) → length key ≡ 8388608 → keeps (key ∷ []) ≡ true
keeps_one key long = by_bytes (key ∷ []) 8 8388694 (and_from _ _ (le-leb (length key) 8388608 (omega (arith, long))) refl) refl (one_bytes key long)

keeps_two : (first second : List ℕ) (count : ℕ) → length first ≡ 8388608 → length second ≡ count → count ≤ 8388608 → length (decimal count) ≡ 7 → keeps (first ∷ second ∷ []) ≡ nat_le (count + 8388706) 16777216
keeps_two first second count long counted short seven =
    by_bytes (first ∷ second ∷ []) 9 (count + 8388706) (and_from _ _ (le-leb (length first) 8388608 (omega (arith, long))) (and_from _ _ (le-leb (length second) 8388608 (omega (arith, counted, short))) refl)) refl
    (two_bytes first second count long counted seven)

-- one request can name a key that is as long as a word may be
one_alone : (key : List ℕ) → length key ≡ 8388608 → keys_at_once (at 7001) (key ∷ []) ≡ key ∷ []
one_alone key long = sym (at_once (at 7001) (key ∷ []) 1 (keeps_one key long) (inr (omega arith)))

-- and behind it a key of 8,388,510 bytes
both : (first second : List ℕ) → length first ≡ 8388608 → length second ≡ 8388510 → keys_at_once (at 7001) (first ∷ second ∷ []) ≡ first ∷ second ∷ []
unfolding digits
both first second long counted = sym (at_once (at 7001) (first ∷ second ∷ []) 2 (keeps_two first second 8388510 long counted (omega arith) refl) (inr (omega arith)))

-- but none that is longer
first_alone : (first second : List ℕ) → length first ≡ 8388608 → length second ≡ 8388511 → keys_at_once (at 7001) (first ∷ second ∷ []) ≡ first ∷ []
unfolding digits
first_alone first second long counted = sym (at_once (at 7001) (first ∷ second ∷ []) 1 (keeps_one first long) (inl (keeps_two first second 8388511 long counted (omega arith) refl)))

-- ---- other runs

-- the destination owns the slot already, since the move 1: the source is told so, until it knows
goes_on : actions (plan 1) Begins
    (Start ∷ masters ∷ state (codes "migrating") (codes "id1") 1 1 0 0 ∷ state (codes "owned") (codes "id1") 0 1 1 0 ∷ Reply (Error (codes "TRYAGAIN Slot table not yet updated")) ∷ ok ∷ ok ∷ [])
    ≡ Ask (at 7000) (cluster (codes "SLOTS" ∷ []))
    ∷ Ask (at 7002) (cluster (codes "SLOTSTATE" ∷ codes "12182" ∷ []))
    ∷ Ask (at 7001) (cluster (codes "SLOTSTATE" ∷ codes "12182" ∷ []))
    ∷ Ask (at 7002) (cluster (codes "SETSLOT" ∷ codes "12182" ∷ codes "NODE" ∷ codes "id1" ∷ codes "1" ∷ []))
    ∷ Ask (at 7002) (cluster (codes "SETSLOT" ∷ codes "12182" ∷ codes "NODE" ∷ codes "id1" ∷ codes "1" ∷ []))
    ∷ Ask (at 7000) (cluster (codes "SETSLOT" ∷ codes "12182" ∷ codes "NODE" ∷ codes "id1" ∷ codes "1" ∷ []))
    ∷ Line 12182 (Some 1) 0 ∷ []
unfolding digits
goes_on = refl

-- a stopped move keeps its number, and the limit bounds what is asked again
stops : actions (plan 1) Begins
    (Start ∷ masters ∷ state (codes "migrating") (codes "id1") 7 7 1 0 ∷ state (codes "importing") (codes "id2") 7 7 0 0 ∷ ok ∷ ok ∷ keys [] ∷ Reply (Error (codes "ERR slot is not drained")) ∷ Reply (Error (codes "ERR slot is not drained")) ∷ [])
    ≡ Ask (at 7000) (cluster (codes "SLOTS" ∷ []))
    ∷ Ask (at 7002) (cluster (codes "SLOTSTATE" ∷ codes "12182" ∷ []))
    ∷ Ask (at 7001) (cluster (codes "SLOTSTATE" ∷ codes "12182" ∷ []))
    ∷ Ask (at 7001) (cluster (codes "SETSLOT" ∷ codes "12182" ∷ codes "IMPORTING" ∷ codes "id2" ∷ codes "7" ∷ []))
    ∷ Ask (at 7002) (cluster (codes "SETSLOT" ∷ codes "12182" ∷ codes "MIGRATING" ∷ codes "id1" ∷ codes "7" ∷ []))
    ∷ Ask (at 7002) (cluster (codes "GETKEYSINSLOT" ∷ codes "12182" ∷ codes "16" ∷ []))
    ∷ Ask (at 7001) (cluster (codes "SETSLOT" ∷ codes "12182" ∷ codes "NODE" ∷ codes "id1" ∷ codes "7" ∷ []))
    ∷ Ask (at 7001) (cluster (codes "SETSLOT" ∷ codes "12182" ∷ codes "NODE" ∷ codes "id1" ∷ codes "7" ∷ []))
    ∷ Fault TooOften ∷ []
unfolding digits
stops = refl
