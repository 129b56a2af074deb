-- What comes of the steps of nodes (ours).
use Rattle.std.specs.Prelude.{◌≡◌, ◌⊎◌, ◌++◌, ◌&&◌, ◌||◌, ◌∷◌, ℕ, zero, suc, Bool, false, List, [], map, Option, Some, None, MatchBool, slice_get, drop, codes, ⊤}
use Rattle.std.specs.Str.{str_eq_ignore_ascii_case}
use Rattle.bus.specs.declared.message.Message.{Message}
use Rattle.command_table.specs.declared.error_line.ErrorLine.TheVariants.{Exhausted}
use Rattle.connections.specs.declared.conn.Conn.{Conn}
use Rattle.node_step.specs.Numbers.{NoNumberLeft}
use Rattle.node_step.specs.Outcome.{error}
use Rattle.node_step.specs.declared.event.Event.{Event}
use Rattle.node_step.specs.declared.event.Event.TheVariants.{Open, Close, Request, Deliver, Tick}
use Rattle.node_step.specs.declared.outputs.Outputs.{Outputs}
use Rattle.node_step.specs.declared.outputs.Release.{Release}
use Rattle.node_step.specs.declared.response.Response.{Response}
use Rattle.node_step.specs.declared.response.Response.TheVariants.{Nothing, Opened, Replied, Parked}
use Rattle.world_run.specs.Run.{Deed, sent_in}
use Rattle.world_run.specs.Run.Deed.{Made, Skipped}
use Rattle.world_nodes.specs.Entered.{EntersAt}
use Rattle.world_nodes.specs.Nodes.{RunView, is_up}
use Rattle.world_nodes.specs.Outputs.{beside_from, shown, shown_from}
use Rattle.world_nodes.specs.declared.output.Output.{Output}
use Rattle.world_nodes.specs.declared.output.Output.TheVariants as output

-- ---- steps of nodes

-- a node did so, which was entered, and its messages were remembered
pub record Enters (old : RunView) (node : ℕ) (deed : Deed) (new : RunView) : Type 0 where
  pub enters : EntersAt old.entries old.nodes node deed new.entries new.nodes
  pub is : new ≡ record old { nodes = new.nodes; sent = old.sent ++ sent_in deed; entries = new.entries }

-- a node made a step for the event, of which this came out
abbrev pub Makes : RunView → ℕ → Event → Outputs → RunView → Type 0
Makes old node event outputs new = Enters old node (Made event outputs) new

-- a node skips the event, which was entered: it needs a number that has no next one
pub record Skips (old : RunView) (node : ℕ) (event : Event) (new : RunView) : Type 0 where
  pub enters : Enters old node Skipped new
  pub why : NoNumberLeft enters.enters.step.before event

-- a node closed these connections, one after another
abbrev pub Closes : RunView → ℕ → List Conn → RunView → Type 0
Closes old node [] new = new ≡ old
Closes old node (conn ∷ conns) new = (next : RunView) × (outputs : Outputs) × Makes old node (Close conn) outputs next × Closes next node conns new

-- ---- what comes out of a step, where the messages of the run from that place on are those of the step

abbrev pub shown_of_step : ℕ → ℕ → RunView → Outputs → List Output
shown_of_step node first run outputs = shown_from node first (drop first run.sent) outputs

-- without the reply to the request that it was made for
abbrev pub beside_of_step : ℕ → ℕ → RunView → Outputs → List Output
beside_of_step node first run outputs = beside_from node first (drop first run.sent) outputs

-- ---- connections that got their replies

-- the connection of the request that the step was made for, if its reply came
abbrev pub answered_conn : Conn → Response → List Conn
answered_conn conn (Replied answer) = conn ∷ []
answered_conn conn Nothing = []
answered_conn conn (Opened other) = []
answered_conn conn Parked = []

abbrev pub released_conns : List Release → List Conn
released_conns releases = map (λ (release : Release). release.conn) releases

-- the connections that got their replies by a step for a request on that one
abbrev pub replied_conns : Conn → Outputs → List Conn
replied_conns conn outputs = answered_conn conn outputs.response ++ released_conns outputs.released

-- all those that got their replies by a step
abbrev pub served_conns : Event → Outputs → List Conn
served_conns (Request conn words) outputs = answered_conn conn outputs.response ++ released_conns outputs.released
served_conns Open outputs = released_conns outputs.released
served_conns (Close conn) outputs = released_conns outputs.released
served_conns (Deliver message) outputs = released_conns outputs.released
served_conns Tick outputs = released_conns outputs.released

-- a node made a step for the event, and closed the connections that got their replies by it
pub record Turns (old : RunView) (node : ℕ) (event : Event) (outputs : List Output) (new : RunView) : Type 0 where
  pub made : Outputs
  pub after : RunView
  pub makes : Makes old node event made after
  pub closes : Closes after node (served_conns event made) new
  pub shows : outputs ≡ shown node old.sent made

-- the node skips the event, and nothing comes out
pub record IsPassedOver (old : RunView) (node : ℕ) (event : Event) (outputs : List Output) (new : RunView) : Type 0 where
  pub skips : Skips old node event new
  pub shows : outputs ≡ []

-- an event for which no connection asked reaches a node
abbrev pub Reaches : RunView → ℕ → Event → List Output → RunView → Type 0
Reaches old node event outputs new = Turns old node event outputs new ⊎ IsPassedOver old node event outputs new

-- time passes, or a message arrives
abbrev pub IsUnasked : Event → Type 0
IsUnasked Tick = ⊤
IsUnasked (Deliver message) = ⊤
IsUnasked Open = ⊥
IsUnasked (Close conn) = ⊥
IsUnasked (Request conn words) = ⊥

-- ---- requests of an administrator

-- the first word is CLUSTER or MIGRATE, in letters of any case
abbrev pub is_admin_name : List ℕ → Bool
is_admin_name name = str_eq_ignore_ascii_case name (codes "cluster") || str_eq_ignore_ascii_case name (codes "migrate")

abbrev pub is_admin : List (List ℕ) → Bool
is_admin [] = false
is_admin (name ∷ words) = is_admin_name name

-- the node needs a number that has no next one, and says so
abbrev pub exhausted : ℕ → List Output
exhausted node = output.Admin node (error Exhausted) ∷ []

-- no connection was opened
pub record IsTurnedAway (old : RunView) (node : ℕ) (outputs : List Output) (new : RunView) : Type 0 where
  pub skips : Skips old node Open new
  pub shows : outputs ≡ exhausted node

-- the request was skipped, and its connection closed
pub record IsRefused (old : RunView) (node : ℕ) (conn : Conn) (words : List (List ℕ)) (outputs : List Output) (new : RunView) : Type 0 where
  pub after : RunView
  pub skips : Skips old node (Request conn words) after
  pub closes : Closes after node (conn ∷ []) new
  pub shows : outputs ≡ exhausted node

abbrev pub IsHeard : RunView → ℕ → Conn → List (List ℕ) → List Output → RunView → Type 0
IsHeard old node conn words outputs new = Turns old node (Request conn words) outputs new ⊎ IsRefused old node conn words outputs new

-- the node was asked on a connection of its own
pub record IsAsked (old : RunView) (node : ℕ) (words : List (List ℕ)) (outputs : List Output) (new : RunView) : Type 0 where
  pub conn : Conn
  pub opening : Outputs
  pub opened : RunView
  pub opens : Makes old node Open opening opened
  pub named : opening.response ≡ Opened conn
  pub hears : IsHeard opened node conn words outputs new

abbrev pub IsAdministered : RunView → ℕ → List (List ℕ) → List Output → RunView → Type 0
IsAdministered old node words outputs new = IsAsked old node words outputs new ⊎ IsTurnedAway old node outputs new

-- ---- messages

-- there was nothing to do
pub record IsIdle (old : RunView) (outputs : List Output) (new : RunView) : Type 0 where
  pub unchanged : new ≡ old
  pub shows : outputs ≡ output.Nothing ∷ []

-- the message of that number, from 1 on in the order of sending
abbrev pub message_at : List Message → ℕ → Option Message
message_at sent zero = None
message_at sent (suc before) = slice_get sent before

-- the message reaches the node that it is for
abbrev pub IsDelivered : RunView → Option Message → List Output → RunView → Type 0
IsDelivered old None outputs new = IsIdle old outputs new
IsDelivered old (Some message) outputs new =
    MatchBool (is_up old message.to) (Reaches old message.to (Deliver message) outputs new) (IsIdle old outputs new)

-- ---- steps that no client makes

abbrev pub Administers : RunView → ℕ → List (List ℕ) → List Output → RunView → Type 0
Administers old node words outputs new =
    MatchBool (is_up old node && is_admin words) (IsAdministered old node words outputs new) (IsIdle old outputs new)

abbrev pub Ticks : RunView → ℕ → List Output → RunView → Type 0
Ticks old node outputs new = MatchBool (is_up old node) (Reaches old node Tick outputs new) (IsIdle old outputs new)

abbrev pub Delivers : RunView → ℕ → List Output → RunView → Type 0
Delivers old number outputs new = IsDelivered old (message_at old.sent number) outputs new
