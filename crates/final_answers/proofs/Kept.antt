-- What all steps of a world's nodes keep: connections stay introduced, and a redirection can name each move.
use Rattle.std.proofs.Common.{◌≡◌, ◌<◌, ◌∙◌, ◌&&◌, ◌∷◌, ℕ, Bool, true, false, List, [], Option, None, Some, sym, ap, subst, inl, inr}
use Rattle.std.proofs.lemmas.Bool.{cases_eq}
use Rattle.std.specs.Prelude.{MatchBool, slice_get}
use Rattle.bus.specs.declared.message.Message.{Message}
use Rattle.connections.specs.declared.conn.Conn.{Conn}
use Rattle.node_step.specs.State.{NodeState}
use Rattle.node_step.specs.declared.event.Event.{Event}
use Rattle.node_step.specs.declared.event.Event.TheVariants.{Open, Close, Request, Deliver, Tick}
use Rattle.resp_values.specs.declared.reply.Reply.{Reply}
use Rattle.single_keyspace.proofs.Seen.{same_some}
use Rattle.world_run.specs.Run.{Deed, Entry, Leads}
use Rattle.world_run.specs.Run.Deed.{Made, Skipped}
use Rattle.world_nodes.specs.Allowed.{IsKnown, opens_in, past_of}
use Rattle.world_nodes.specs.NodeSteps.{Administers, Closes, Delivers, Enters, IsAdministered, IsDelivered, IsHeard, IsIdle, Reaches, Ticks, Turns, is_admin, message_at, released_conns, served_conns}
use Rattle.world_nodes.specs.Nodes.{RunView, is_up}
use Rattle.world_nodes.specs.Serving.{IsOpened, Serves}
use Rattle.world_nodes.specs.declared.link.Link.{Link}
use Rattle.world_nodes.specs.declared.output.Output.{Output}
use Rattle.world_nodes.proofs.Leaving.{after_is, apart_is, before_is, enters_leaves}
use Rattle.world.specs.Calls.{IsConnected, IsShut, IsUsed}
use Rattle.final_answers.proofs.MoveNumbers.{HasNameable, step_nameable}
use Rattle.final_answers.proofs.NumberedConns.{introduced_at, step_keeps}

abbrev pub introduced_in : Option NodeState → Conn → Bool
introduced_in None conn = true
introduced_in (Some node) conn = introduced_at node.connections conn

-- the connection was opened at its node, and its client said CLUSTER NUMBERED there, if it is still open
pub record IsIntroduced (run : RunView) (link : Link) : Type 0 where
  pub known : IsKnown run link
  pub introduced : introduced_in (slice_get run.nodes link.node) link.conn ≡ true

abbrev pub AllNameable : List NodeState → Type 0
AllNameable nodes = (number : ℕ) (node : NodeState) → slice_get nodes number ≡ Some node → HasNameable node

pub record Keeps (old new : RunView) : Type 0 where
  pub introduced : (link : Link) → IsIntroduced old link → IsIntroduced new link
  pub nameable : AllNameable old.nodes → AllNameable new.nodes

pub keeps_same : (run : RunView) → Keeps run run
keeps_same run = record { introduced = λ link is. is; nameable = λ all. all }

pub keeps_further : (old mid new : RunView) → Keeps old mid → Keeps mid new → Keeps old new
keeps_further old mid new first more = record { introduced = λ link is. more.introduced link (first.introduced link is); nameable = λ all. more.nameable (first.nameable all) }

keeps_if_same : (old new : RunView) → new ≡ old → Keeps old new
keeps_if_same old new same = subst (Keeps old) (sym same) (keeps_same old)

-- ---- one entry

deed_introduced : (past : List Entry) (ticket : ℕ) (old new : NodeState) (deed : Deed) → Leads past ticket old deed new → (conn : Conn) → conn.generation < opens_in (Some old) conn.key → introduced_in (Some old) conn ≡ true
    → introduced_in (Some new) conn ≡ true
deed_introduced past ticket old new Skipped same conn known is = ap (λ (node : NodeState). introduced_in (Some node) conn) same ∙ is
deed_introduced past ticket old new (Made event outputs) leads conn known is = step_keeps ticket old new event outputs leads.1 conn known is

deed_nameable : (past : List Entry) (ticket : ℕ) (old new : NodeState) (deed : Deed) → Leads past ticket old deed new → HasNameable old → HasNameable new
deed_nameable past ticket old new Skipped same all = subst HasNameable (sym same) all
deed_nameable past ticket old new (Made event outputs) leads all = step_nameable ticket old new event outputs leads.1 all

pub enters_keeps : (old new : RunView) (node : ℕ) (deed : Deed) → Enters old node deed new → Keeps old new
enters_keeps old new node deed enters = record {
  introduced = λ link was. record { known = (enters_leaves old new node deed enters).known link was.known; introduced = by_node link was };
  nameable = by_number;
}
  where
    by_node : (link : Link) → IsIntroduced old link → introduced_in (slice_get new.nodes link.node) link.conn ≡ true
    by_node link was =
        let step = enters.enters.step in
        elim (cases_eq link.node node) [
          | inr apart ↦ ap (λ (s : Option NodeState). introduced_in s link.conn) (apart_is old new node deed enters link.node apart) ∙ was.introduced
          | inl same ↦
              let here = before_is old new node deed enters link.node same in
              let known : link.conn.generation < opens_in (Some step.before) link.conn.key = subst (λ (s : Option NodeState). link.conn.generation < opens_in s link.conn.key) here was.known in
              ap (λ (s : Option NodeState). introduced_in s link.conn) (after_is old new node deed enters link.node same)
              ∙ deed_introduced (past_of old) enters.enters.ticket step.before step.after deed step.leads link.conn known
              (sym (ap (λ (s : Option NodeState). introduced_in s link.conn) here) ∙ was.introduced)
        ]

    by_number : AllNameable old.nodes → AllNameable new.nodes
    by_number all number state at =
        let step = enters.enters.step in
        elim (cases_eq number node) [
          | inr apart ↦ all number state (sym (apart_is old new node deed enters number apart) ∙ at)
          | inl same ↦
              subst HasNameable (same_some (after_is old new node deed enters number same) at)
              (deed_nameable (past_of old) enters.enters.ticket step.before step.after deed step.leads (all node step.before step.was))
        ]

-- ---- steps of nodes

pub closes_keeps : (old new : RunView) (node : ℕ) (conns : List Conn) → Closes old node conns new → Keeps old new
closes_keeps old new node [] same = keeps_if_same old new same
closes_keeps old new node (conn ∷ conns) closes =
    keeps_further old closes.0 new (enters_keeps old closes.0 node (Made (Close conn) closes.1) closes.2) (closes_keeps closes.0 new node conns closes.3)

pub serves_keeps : (old new : RunView) (node : ℕ) (conn : Conn) (words : List (List ℕ)) (reply : Option Reply) (outputs : List Output) → Serves old node conn words reply outputs new → Keeps old new
serves_keeps old new node conn words reply outputs (inl served) =
    keeps_further old served.after new (enters_keeps old served.after node (Made (Request conn words) served.made) served.makes)
    (closes_keeps served.after new node (released_conns served.made.released) served.closes)
serves_keeps old new node conn words reply outputs (inr skipped) = enters_keeps old new node Skipped skipped.skips.enters

turns_keeps : (old new : RunView) (node : ℕ) (event : Event) (outputs : List Output) → Turns old node event outputs new → Keeps old new
turns_keeps old new node event outputs turns =
    keeps_further old turns.after new (enters_keeps old turns.after node (Made event turns.made) turns.makes)
    (closes_keeps turns.after new node (served_conns event turns.made) turns.closes)

reaches_keeps : (old new : RunView) (node : ℕ) (event : Event) (outputs : List Output) → Reaches old node event outputs new → Keeps old new
reaches_keeps old new node event outputs (inl turns) = turns_keeps old new node event outputs turns
reaches_keeps old new node event outputs (inr passed) = enters_keeps old new node Skipped passed.skips.enters

idle_keeps : (old new : RunView) (outputs : List Output) → IsIdle old outputs new → Keeps old new
idle_keeps old new outputs idle = keeps_if_same old new idle.unchanged

pub ticks_keeps : (old new : RunView) (node : ℕ) (outputs : List Output) → Ticks old node outputs new → Keeps old new
ticks_keeps old new node outputs = by_up (is_up old node)
  where
    by_up : (up : Bool) → MatchBool up (Reaches old node Tick outputs new) (IsIdle old outputs new) → Keeps old new
    by_up true reaches = reaches_keeps old new node Tick outputs reaches
    by_up false idle = idle_keeps old new outputs idle

pub delivers_keeps : (old new : RunView) (number : ℕ) (outputs : List Output) → Delivers old number outputs new → Keeps old new
delivers_keeps old new number outputs = by_message (message_at old.sent number)
  where
    by_up : (message : Message) (up : Bool) → MatchBool up (Reaches old message.to (Deliver message) outputs new) (IsIdle old outputs new) → Keeps old new
    by_up message true reaches = reaches_keeps old new message.to (Deliver message) outputs reaches
    by_up message false idle = idle_keeps old new outputs idle

    by_message : (message : Option Message) → IsDelivered old message outputs new → Keeps old new
    by_message None idle = idle_keeps old new outputs idle
    by_message (Some message) delivered = by_up message (is_up old message.to) delivered

pub administers_keeps : (old new : RunView) (node : ℕ) (words : List (List ℕ)) (outputs : List Output) → Administers old node words outputs new → Keeps old new
administers_keeps old new node words outputs = by_may (is_up old node && is_admin words)
  where
    heard : (opened : RunView) (conn : Conn) → IsHeard opened node conn words outputs new → Keeps opened new
    heard opened conn (inl turns) = turns_keeps opened new node (Request conn words) outputs turns
    heard opened conn (inr refused) =
        keeps_further opened refused.after new (enters_keeps opened refused.after node Skipped refused.skips.enters) (closes_keeps refused.after new node (conn ∷ []) refused.closes)

    administered : IsAdministered old node words outputs new → Keeps old new
    administered (inl asked) =
        keeps_further old asked.opened new (enters_keeps old asked.opened node (Made Open asked.opening) asked.opens) (heard asked.opened asked.conn asked.hears)
    administered (inr away) = enters_keeps old new node Skipped away.skips.enters

    by_may : (may : Bool) → MatchBool may (IsAdministered old node words outputs new) (IsIdle old outputs new) → Keeps old new
    by_may true made = administered made
    by_may false idle = idle_keeps old new outputs idle

-- which nodes were stopped changes nothing of them
pub stops_keep : (run : RunView) (stopped : List Bool) → Keeps run (record run { stopped = stopped })
stops_keep run stopped = record { introduced = λ link is. record { known = is.known; introduced = is.introduced }; nameable = λ all. all }

-- ---- connections of a client

pub shut_keeps : (old new : RunView) (link : Link) → IsShut old link new → Keeps old new
shut_keeps old new link = by_up (is_up old link.node)
  where
    by_up : (up : Bool) → MatchBool up (Closes old link.node (link.conn ∷ []) new) (new ≡ old) → Keeps old new
    by_up true closes = closes_keeps old new link.node (link.conn ∷ []) closes
    by_up false same = keeps_if_same old new same

pub connected_keeps : (old new : RunView) (node : ℕ) (before conn : Option Conn) → IsConnected old node before conn new → Keeps old new
connected_keeps old new node before conn = by_up (is_up old node)
  where
    opened : (conn : Option Conn) → IsOpened old node conn new → Keeps old new
    opened None skips = enters_keeps old new node Skipped skips.enters
    opened (Some one) opens = enters_keeps old new node (Made Open opens.0) opens.1

    used : (before : Option Conn) → IsUsed old node before conn new → Keeps old new
    used None opens = opened conn opens
    used (Some one) same = keeps_if_same old new same.0

    by_up : (up : Bool) → MatchBool up (IsUsed old node before conn new) ((new ≡ old) × (conn ≡ None)) → Keeps old new
    by_up true is = used before is
    by_up false gone = keeps_if_same old new gone.0
