-- The form of the JSON text (ours): which members its objects have, of which kind their values are, and what it says of the cluster.
use Rattle.std.specs.Prelude.{◌≡◌, ℕ, ◌+◌, ◌==◌, ◌⊎◌, Bool, false, List, [], ◌∷◌, Option, Some, None, Result, Ok, Err, option_map, option_and_then, is_some, is_none, if◌then◌else◌, ℤ, pos, codes}
use Rattle.std.specs.Option.{option_map_or}
use Rattle.serde_json.specs.Data.{Data, Items, no_items, item, Members, no_members, member}
use Rattle.serde_json.specs.Find.{get, at, as_str, as_number, as_array, as_object, as_integer}
use Rattle.cluster_config.specs.Texts.{is_host}
use Rattle.config_text.specs.declared.fault.ConfigFault.{ConfigFault}
use Rattle.config_text.specs.declared.fault.ConfigFault.TheVariants.{Memory, Syntax}
use Rattle.config_text.specs.declared.form.Draft.{Draft}
use Rattle.config_text.specs.declared.form.NodeDraft.{NodeDraft}
use Rattle.config_text.specs.declared.form.RoleDraft.{RoleDraft}
use Rattle.config_text.specs.declared.form.RoleDraft.TheVariants.{Slots, ReplicaOf}

-- what has the form is read, and what hasn't is no configuration; or memory was refused
abbrev pub IsReadAs : {A : Type 0} → Option A → Result A ConfigFault → Type 0
IsReadAs meant (Ok read) = meant ≡ Some read
IsReadAs meant (Err fault) = (fault ≡ Memory) ⊎ ((fault ≡ Syntax) × (meant ≡ None))

-- how many members there are
abbrev pub count_of : Members → ℕ
count_of no_members = 0
count_of (member name value members) = count_of members + 1

-- an object of so many members. If as many names are found in it, it has no other
abbrev pub has_members : ℕ → Data → Bool
has_members count value = option_map_or (λ members. count_of members == count) (as_object value) false

-- what the four give, if all are there
abbrev pub all_four : {A B C D R : Type 0} → (A → B → C → D → R) → Option A → Option B → Option C → Option D → Option R
all_four make (Some a) (Some b) (Some c) (Some d) = Some (make a b c d)
all_four make _ _ _ _ = None

-- the same of five
abbrev pub all_five : {A B C D E R : Type 0} → (A → B → C → D → E → R) → Option A → Option B → Option C → Option D → Option E → Option R
all_five make (Some a) (Some b) (Some c) (Some d) (Some e) = Some (make a b c d e)
all_five make _ _ _ _ _ = None

-- the two, if both are there
abbrev pub both : {A B : Type 0} → Option A → Option B → Option (A × B)
both (Some a) (Some b) = Some (a, b)
both _ _ = None

-- an integer. A number with a fraction or an exponent is none, nor is -0 or one that 64 bits don't hold
abbrev pub integer_in : Data → Option ℤ
integer_in value = option_and_then as_integer (as_number value)

-- a text that is a host
abbrev pub host_in : Data → Option (List ℕ)
host_in value = option_and_then (λ text. if is_host text then Some text else None) (as_str value)

-- a value of that form, where there is one
abbrev pub form_at : {A : Type 0} → (Data → Option A) → Option Data → Option A
form_at form value = option_and_then form value

-- an array of two integers
abbrev pub pair_in : Data → Option (ℤ × ℤ)
pair_in value = if is_none (at 2 value) then both (form_at integer_in (at 0 value)) (form_at integer_in (at 1 value)) else None

-- items that all have the form
abbrev pub each : {A : Type 0} → (Data → Option A) → Items → Option (List A)
each form no_items = Some []
each form (item value items) = option_and_then (λ first. option_map (λ rest. first ∷ rest) (each form items)) (form value)

-- an array of such items
abbrev pub items_in : {A : Type 0} → (Data → Option A) → Data → Option (List A)
items_in form value = option_and_then (each form) (as_array value)

-- a master has slots, a replica the id of its master
abbrev pub role_in : Data → Option RoleDraft
role_in node =
    if is_some (get (codes "slots") node) then option_map (λ slots. Slots slots) (form_at (items_in pair_in) (get (codes "slots") node))
    else option_map (λ id. ReplicaOf id) (form_at as_str (get (codes "replica_of") node))

-- an object of an id, a host, a port and a role
unfoldable pub node_in : Data → Option NodeDraft
node_in node =
    if has_members 4 node then
    all_four (λ id host port role. record { id = id; host = host; port = port; role = role })
    (form_at as_str (get (codes "id") node)) (form_at host_in (get (codes "host") node)) (form_at integer_in (get (codes "port") node)) (role_in node)
    else None

-- the backlog, which the text may leave out
abbrev pub has_backlog : Data → Bool
has_backlog value = is_some (get (codes "backlog") value)

abbrev pub has_all_members : Data → Bool
has_all_members value = if has_backlog value then has_members 5 value else has_members 4 value

abbrev pub backlog_in : Data → Option ℤ
backlog_in value = if has_backlog value then form_at integer_in (get (codes "backlog") value) else Some (pos 1048576)

-- an object of two times, the nodes, the ids of the voters, and perhaps a backlog
unfoldable pub draft_in : Data → Option Draft
draft_in value =
    if has_all_members value then
    all_five (λ tick_ms node_timeout nodes voters backlog. record { tick_ms = tick_ms; node_timeout = node_timeout; nodes = nodes; voters = voters; backlog = backlog })
    (form_at integer_in (get (codes "tick_ms") value)) (form_at integer_in (get (codes "node_timeout") value))
    (form_at (items_in node_in) (get (codes "nodes") value)) (form_at (items_in as_str) (get (codes "voters") value)) (backlog_in value)
    else None
