-- What the replies tell that a run gets (Redis command reference, "CLUSTER SLOTS", "CLUSTER GETKEYSINSLOT", "MIGRATE"; RESP protocol,
-- "Simple errors": the first word is the kind of error; SLOTSTATE and the errors are ours).
use Rattle.std.specs.Prelude.{ℕ, ◌+◌, ◌-◌, ◌^◌, ◌==◌, ◌&&◌, nat_le, Bool, true, false, List, [], ◌∷◌, length, option_and_then, ◌++◌, Option, Some, None, Result, Ok, Err, codes, if◌then◌else◌, ℤ, pos, negsuc}
use Rattle.std.specs.BTreeMap.{insert_entry, is_at}
use Rattle.std.specs.Map.{lookup, remove_entry, values_of}
use Rattle.std.specs.Ordering.{nat_cmp}
use Rattle.std.specs.Cmp.Lexicographic.{slice_cmp}
use Rattle.std.specs.Str.{bytes_eq}
use Rattle.resp_values.specs.declared.array.Element.{Element}
use Rattle.resp_values.specs.declared.array.Element.TheVariants as element
use Rattle.resp_values.specs.Limits.{most_word_bytes}
use Rattle.resp_values.specs.declared.reply.Reply.{Reply}
use Rattle.resp_values.specs.declared.reply.Reply.TheVariants.{Simple, Error, Array}
use Rattle.command_table.specs.ErrorLine.{error_text}
use Rattle.command_table.specs.Numbers.{natural, from_to}
use Rattle.command_table.specs.declared.error_line.ErrorLine.TheVariants as line
use Rattle.cluster_config.specs.Texts.{is_host}
use Rattle.redirection.specs.Address.{Place}
use Rattle.redirection.specs.ErrorWord.{first_word}
use Rattle.resharder.specs.declared.answer.Answer.{Answer}
use Rattle.resharder.specs.declared.answer.Answer.TheVariants.{Done, NoKey, TryAgain, NotAcknowledged, NotDrained, Other}
use Rattle.resharder.specs.Nodes.{KnownNodes}
use Rattle.resharder.specs.declared.fault.ReshardFault.{ReshardFault}
use Rattle.resharder.specs.declared.fault.ReshardFault.TheVariants.{BadReply, NotListed}
use Rattle.resharder.specs.declared.report.Report.{Report}
use Rattle.resharder.specs.declared.report.Standing.{Standing}
use Rattle.resharder.specs.declared.report.Standing.TheVariants.{Owned, Migrating, Importing, Foreign}

-- ---- replies to orders

abbrev pub simple_kind : List ℕ → Answer
simple_kind text = if bytes_eq text (codes "OK") then Done else (if bytes_eq text (codes "NOKEY") then NoKey else Other)

abbrev pub error_kind : List ℕ → Answer
error_kind text =
    if bytes_eq text (error_text line.NotDrained) then NotDrained
    else (if bytes_eq (first_word text) (codes "TRYAGAIN") then TryAgain
    else (if bytes_eq (first_word text) (codes "IOERR") then NotAcknowledged else Other))

abbrev pub answer_of : Reply → Answer
answer_of (Simple text) = simple_kind text
answer_of (Error text) = error_kind text
answer_of _ = Other

-- ---- CLUSTER SLOTSTATE

abbrev pub standing_of : List ℕ → Option Standing
standing_of word =
    if bytes_eq word (codes "owned") then Some Owned
    else (if bytes_eq word (codes "migrating") then Some Migrating
    else (if bytes_eq word (codes "importing") then Some Importing
    else (if bytes_eq word (codes "foreign") then Some Foreign else None)))

-- the element names that node, or another one, or none
abbrev pub names : List ℕ → Element → Option Bool
names node (element.Bulk id) = Some (bytes_eq id node)
names node element.Null = Some false
names node _ = None

-- a number that a move can have
abbrev pub positive : ℕ → Option ℕ
positive number = from_to 1 (2 ^ 63 - 1) number

abbrev pub peer_number : Bool → ℕ → Option ℕ
peer_number with_peer number = if with_peer then positive number else None

abbrev pub report_of : Option Standing → Option Bool → Option ℕ → Option ℕ → Option Report
report_of (Some standing) (Some with_peer) (Some number) (Some last) = Some (record { standing = standing; number = peer_number with_peer number; last = last })
report_of _ _ _ _ = None

-- what the node does with the slot, the node that this is about, the number of the move, and the greatest one; then the keys that are
-- there, and whether an import is drained
abbrev pub reported : List ℕ → List Element → Option Report
reported peer (element.Array len ∷ element.Bulk word ∷ node ∷ element.Integer number ∷ element.Integer last ∷ element.Integer keys ∷ element.Integer drained ∷ []) =
    report_of (standing_of word) (names peer node) (natural number) (natural last)
reported peer _ = None

-- the report of a node on its move with that other node
abbrev pub report_in : List ℕ → Reply → Option Report
report_in peer (Array elements) = reported peer elements
report_in peer _ = None

abbrev pub owns : Standing → Bool
owns Owned = true
owns Migrating = true
owns _ = false

-- the number under which the slot leaves the node for the other one
abbrev pub leaves : Standing → Option ℕ → Option ℕ
leaves Migrating number = number
leaves _ number = None

-- the number under which it comes to the node from the other one
abbrev pub comes : Standing → Option ℕ → Option ℕ
comes Importing number = number
comes _ number = None

-- the next number of a move
abbrev pub next_number : ℕ → Option ℕ
next_number last = positive (last + 1)

-- ---- CLUSTER GETKEYSINSLOT

-- a key: a word of a request can be that long
abbrev pub is_key : List ℕ → Bool
is_key key = nat_le (length key) most_word_bytes

abbrev pub key_of : Element → Option (List ℕ)
key_of (element.Bulk key) = if is_key key then Some key else None
key_of _ = None

-- keys behind those that were read before
abbrev pub keys_onto : List (List ℕ) → List Element → Option (List (List ℕ))
keys_onto keys [] = Some keys
keys_onto keys (one ∷ others) = option_and_then (λ key. keys_onto (keys ++ key ∷ []) others) (key_of one)

-- the keys that the reply lists
abbrev pub keys_in : Reply → Option (List (List ℕ))
keys_in (Array (element.Array len ∷ elements)) = keys_onto [] elements
keys_in _ = None

-- ---- CLUSTER SLOTS

-- where the masters are, by rising id
abbrev pub Masters : Type 0
Masters = List (List ℕ × Place)

-- a master; of two with one id the later one counts
abbrev pub with_master : Masters → List ℕ → Place → Masters
with_master masters id place = insert_entry (slice_cmp nat_cmp) masters id place

abbrev pub master_with : Masters → List ℕ → Option Place
master_with masters id = lookup (is_at (slice_cmp nat_cmp id)) masters

abbrev pub without : Masters → List ℕ → Masters
without masters id = remove_entry (is_at (slice_cmp nat_cmp id)) masters

-- a host and a port are an address
abbrev pub place_at : List ℕ → ℤ → Option Place
place_at host (pos port) = if is_host host && (nat_le 1 port && nat_le port 65535) then Some (record { host = host; port = port }) else None
place_at host (negsuc port) = None

-- the id of a master, and where it is
abbrev pub master_of : List ℕ → Option Place → Option (List ℕ × Place)
master_of id None = None
master_of id (Some place) = Some (id, place)

-- an entry: its first and its last slot, and of its master the host, the port and the id. No other node stands in it
abbrev pub master_in : List Element → Option (List ℕ × Place)
master_in (element.Array len ∷ element.Integer first ∷ element.Integer last ∷ element.Array parts ∷ element.Bulk host ∷ element.Integer port ∷ element.Bulk id ∷ []) =
    master_of id (if len == 3 && parts == 3 then place_at host port else None)
master_in _ = None

-- entries behind the masters that were read before; each has seven elements, the headers of its two arrays among them
abbrev pub masters_onto : Masters → List Element → Option Masters
masters_onto masters [] = Some masters
masters_onto masters (a ∷ b ∷ c ∷ d ∷ e ∷ f ∷ g ∷ others) =
    option_and_then (λ master. masters_onto (with_master masters master.0 master.1) others) (master_in (a ∷ b ∷ c ∷ d ∷ e ∷ f ∷ g ∷ []))
masters_onto masters _ = None

-- the masters that the reply lists
abbrev pub masters_in : Reply → Option Masters
masters_in (Array (element.Array len ∷ elements)) = masters_onto [] elements
masters_in _ = None

-- the two masters of these ids, and the others by rising id
abbrev pub nodes_at : Option Place → Option Place → List Place → Result KnownNodes ReshardFault
nodes_at (Some source) (Some destination) others = Ok (record { source = source; destination = destination; others = others })
nodes_at _ _ others = Err NotListed

abbrev pub nodes_of : List ℕ → List ℕ → Option Masters → Result KnownNodes ReshardFault
nodes_of from to None = Err BadReply
nodes_of from to (Some masters) = nodes_at (master_with masters from) (master_with masters to) (values_of (without (without masters from) to))

abbrev pub nodes_in : List ℕ → List ℕ → Reply → Result KnownNodes ReshardFault
nodes_in from to reply = nodes_of from to (masters_in reply)
