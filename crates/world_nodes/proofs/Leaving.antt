-- What steps of nodes leave of the connections that clients have.
use Rattle.std.proofs.Common.{◌≡◌, ◌≢◌, ◌⊎◌, ◌<◌, ◌≤◌, ◌∙◌, ℕ, List, [], ◌∷◌, ◌++◌, Contains, Option, Some, None, length, refl, sym, ap, subst, inl, inr, append-nil, append_assoc, arith}
use Rattle.std.proofs.lemmas.Bool.{cases_eq}
use Rattle.std.proofs.lemmas.List.{length-set, reverse-append}
use Rattle.std.specs.List.{cons_option}
use Rattle.std.specs.Prelude.{reverse, slice_get, slice_set}
use Rattle.cluster_config.specs.Config.{ClusterConfig}
use Rattle.connections.specs.declared.conn.Conn.{Conn}
use Rattle.node_step.specs.State.{NodeState}
use Rattle.node_step.specs.declared.event.Event.TheVariants.{Open, Close}
use Rattle.node_step.specs.declared.outputs.Outputs.{Outputs}
use Rattle.node_step.specs.declared.response.Response.TheVariants.{Opened}
use Rattle.single_keyspace.proofs.Lists.{contains_first, contains_more}
use Rattle.single_keyspace.proofs.Seen.{same_some, set_apart, set_here}
use Rattle.redirect.specs.declared.asked.Asking.{Asking}
use Rattle.redirect.specs.declared.asked.Asking.TheVariants.{No}
use Rattle.world_run.specs.Executed.{Redirection, answered, redirection_in, redirections}
use Rattle.world_run.specs.Run.{Deed, Entry, Goes, Leads, WorldStep, first_nodes}
use Rattle.world_run.specs.Run.Deed.{Made, Skipped}
use Rattle.world_nodes.specs.Allowed.{IsKnown, IsTold, asking_at, asking_in, opens_in, past_of}
use Rattle.world_nodes.specs.NodeSteps.{Closes, Enters, Makes}
use Rattle.world_nodes.specs.Nodes.{HaveConfig, IsRunOf, RunView}
use Rattle.world_nodes.specs.declared.link.Link.{Link}
use Rattle.world_nodes.proofs.Connected.{IsAskedBy, IsCalm, IsNew, close_is_calm, open_is_new, step_leaves}
use Rattle.world_nodes.proofs.Runs.{goes-append}

-- all connections but those that are changed are as they were, or allow nothing any more; and what was told stays told, as all that
-- was entered
pub record Leaves (changed : Link → Type 0) (old new : RunView) : Type 0 where
  pub nodes : length new.nodes ≡ length old.nodes
  pub configs : (config : ClusterConfig) → HaveConfig config old.nodes → HaveConfig config new.nodes
  pub known : (link : Link) → IsKnown old link → IsKnown new link
  pub calm : (link : Link) → IsCalm (asking_at old link) (asking_at new link) ⊎ changed link
  pub told : (words : List (List ℕ)) (node number : ℕ) → IsTold (past_of old) words node number → IsTold (past_of new) words node number
  pub entered : (entry : Entry) → Contains (past_of old) entry → Contains (past_of new) entry
  pub goes : (config : ClusterConfig) → IsRunOf config old → IsRunOf config new
  pub further : (more : List Entry) × (past_of new ≡ more ++ past_of old)

abbrev pub none_changed : Link → Type 0
none_changed link = ⊥

pub leaves_all : (changed : Link → Type 0) (run : RunView) → Leaves changed run run
leaves_all changed run =
    record {
      nodes = refl;
      configs = λ config have. have;
      known = λ link known. known;
      calm = λ link. inl (inl refl);
      told = λ words node number told. told;
      entered = λ entry among. among;
      goes = λ config goes. goes;
      further = ([], refl);
    }

pub leaves_more : (changed others : Link → Type 0) (old new : RunView) → ((link : Link) → changed link → others link) → Leaves changed old new → Leaves others old new
leaves_more changed others old new more leaves = record {
  nodes = leaves.nodes;
  configs = leaves.configs;
  known = leaves.known;
  calm = λ link.
      elim (leaves.calm link) [
        | inl calm ↦ inl calm
        | inr is ↦ inr (more link is)
      ];
  told = leaves.told;
  entered = leaves.entered;
  goes = leaves.goes;
  further = leaves.further;
}

pub calm_further : (old mid new : Asking) → IsCalm old mid → IsCalm mid new → IsCalm old new
calm_further old mid new first (inr none) = inr none
calm_further old mid new (inl same) (inl still) = inl (still ∙ same)
calm_further old mid new (inr none) (inl still) = inr (still ∙ none)

pub leaves_further : (changed : Link → Type 0) (old mid new : RunView) → Leaves changed old mid → Leaves changed mid new → Leaves changed old new
leaves_further changed old mid new first more = record {
  nodes = more.nodes ∙ first.nodes;
  configs = λ config have. more.configs config (first.configs config have);
  known = λ link known. more.known link (first.known link known);
  calm = λ link.
      elim (first.calm link) [
        | inl calm ↦
            elim (more.calm link) [
              | inl still ↦ inl (calm_further (asking_at old link) (asking_at mid link) (asking_at new link) calm still)
              | inr is ↦ inr is
            ]
        | inr is ↦ inr is
      ];
  told = λ words node number told. more.told words node number (first.told words node number told);
  entered = λ entry among. more.entered entry (first.entered entry among);
  goes = λ config goes. more.goes config (first.goes config goes);
  further = (
    more.further.0 ++ first.further.0,
    more.further.1 ∙ ap (λ (past : List Entry). more.further.0 ++ past) first.further.1 ∙ sym (append_assoc more.further.0 first.further.0 (past_of old)),
  );
}

-- what is left where nothing is changed
pub leaves_none : (changed : Link → Type 0) (old new : RunView) → Leaves none_changed old new → Leaves changed old new
leaves_none changed old new = leaves_more none_changed changed old new (λ link none. absurd none)

-- ---- one entry

-- the connections that are changed by what a node did
abbrev pub ChangedBy : ℕ → Deed → Link → Type 0
ChangedBy node Skipped link = ⊥
ChangedBy node (Made event outputs) link = (link.node ≡ node) × IsAskedBy event link.conn

told_still : (told : Option Redirection) (others : List Redirection) (one : Redirection) → Contains others one → Contains (cons_option told others) one
told_still None others one among = among
told_still (Some told) others one among = contains_more told one others among

-- the newest entry stands first
pub newest_first : (entries : List Entry) (entry : Entry) → reverse (entries ++ entry ∷ []) ≡ entry ∷ reverse entries
newest_first entries entry = reverse-append entries (entry ∷ [])

-- what a node that did so leaves of its connections
pub record NodeLeaves (deed : Deed) (old new : NodeState) (node : ℕ) : Type 0 where
  pub config : new.config ≡ old.config
  pub opens : (key : ℕ) → opens_in (Some old) key ≤ opens_in (Some new) key
  pub calm : (conn : Conn) → IsCalm (asking_in (Some old) conn) (asking_in (Some new) conn) ⊎ ChangedBy node deed (record { node = node; conn = conn })

deed_leaves : (past : List Entry) (ticket node : ℕ) (old new : NodeState) (deed : Deed) → Leads past ticket old deed new → NodeLeaves deed old new node
deed_leaves past ticket node old new Skipped same =
    subst (λ (after : NodeState). NodeLeaves Skipped old after node) (sym same)
    (record { config = refl; opens = λ key. omega arith; calm = λ conn. inl (inl refl) })
deed_leaves past ticket node old new (Made event outputs) leads =
    let left = step_leaves ticket old new event outputs leads.1 in
    record {
      config = left.config;
      opens = left.opens;
      calm = λ conn.
          elim (left.calm conn) [
            | inl calm ↦ inl calm
            | inr asked ↦ inr (refl, asked)
          ];
    }

changed_here : (node : ℕ) (deed : Deed) (link : Link) → link.node ≡ node → ChangedBy node deed (record { node = node; conn = link.conn }) → ChangedBy node deed link
changed_here node Skipped link same none = none
changed_here node (Made event outputs) link same asked = (same, asked.1)

module _ (old new : RunView) (node : ℕ) (deed : Deed) (enters : Enters old node deed new) where
  abbrev step : WorldStep (past_of old) old.nodes (record { node = node; ticket = enters.enters.ticket; deed = deed }) new.nodes
  step = enters.enters.step

  left : NodeLeaves deed step.before step.after node
  left = deed_leaves (past_of old) enters.enters.ticket node step.before step.after deed step.leads

  pub before_is : (number : ℕ) → number ≡ node → slice_get old.nodes number ≡ Some step.before
  before_is number same = ap (slice_get old.nodes) same ∙ step.was

  pub after_is : (number : ℕ) → number ≡ node → slice_get new.nodes number ≡ Some step.after
  after_is number same = ap (λ (nodes : List NodeState). slice_get nodes number) step.is ∙ ap (slice_get (slice_set old.nodes node step.after)) same ∙ set_here old.nodes node step.before step.after step.was

  pub apart_is : (number : ℕ) → number ≢ node → slice_get new.nodes number ≡ slice_get old.nodes number
  apart_is number apart = ap (λ (nodes : List NodeState). slice_get nodes number) step.is ∙ set_apart old.nodes node step.after number apart

  have : (config : ClusterConfig) → HaveConfig config old.nodes → HaveConfig config new.nodes
  have config all number state is =
      elim (cases_eq number node) [
        | inl same ↦
            ap (λ (s : NodeState). s.config) (same_some is (after_is number same)) ∙ left.config ∙ all node step.before step.was
        | inr apart ↦ all number state (sym (apart_is number apart) ∙ is)
      ]

  known_after : (link : Link) → IsKnown old link → IsKnown new link
  known_after link was =
      elim (cases_eq link.node node) [
        | inl same ↦
            let before : link.conn.generation < opens_in (Some step.before) link.conn.key =
            subst (λ (s : Option NodeState). link.conn.generation < opens_in s link.conn.key) (before_is link.node same) was in
            let after : link.conn.generation < opens_in (Some step.after) link.conn.key = omega (arith, before, left.opens link.conn.key) in
            subst (λ (s : Option NodeState). link.conn.generation < opens_in s link.conn.key) (sym (after_is link.node same)) after
        | inr apart ↦ subst (λ (s : Option NodeState). link.conn.generation < opens_in s link.conn.key) (sym (apart_is link.node apart)) was
      ]

  calm_after : (link : Link) → IsCalm (asking_at old link) (asking_at new link) ⊎ ChangedBy node deed link
  calm_after link =
      elim (cases_eq link.node node) [
        | inl same ↦
            elim (left.calm link.conn) [
              | inl calm ↦
                  inl (subst (λ (s : Option NodeState). IsCalm (asking_in s link.conn) (asking_at new link)) (sym (before_is link.node same))
                  (subst (λ (s : Option NodeState). IsCalm (asking_in (Some step.before) link.conn) (asking_in s link.conn)) (sym (after_is link.node same)) calm))
              | inr asked ↦ inr (changed_here node deed link same asked)
            ]
        | inr apart ↦ inl (inl (ap (λ (s : Option NodeState). asking_in s link.conn) (apart_is link.node apart)))
      ]

  abbrev pub entry_now : Entry
  entry_now = record { node = node; ticket = enters.enters.ticket; deed = deed }

  pub past_is : past_of new ≡ entry_now ∷ past_of old
  past_is = ap reverse enters.enters.entered ∙ newest_first old.entries entry_now

  entered_after : (entry : Entry) → Contains (past_of old) entry → Contains (past_of new) entry
  entered_after entry among = subst (λ (past : List Entry). Contains past entry) (sym past_is) (contains_more entry_now entry (past_of old) among)

  -- the entry stands in the past
  pub entered_now : Contains (past_of new) entry_now
  entered_now = subst (λ (past : List Entry). Contains past entry_now) (sym past_is) (contains_first entry_now (past_of old))

  goes_after : (config : ClusterConfig) → IsRunOf config old → IsRunOf config new
  goes_after config goes =
      subst (λ (entries : List Entry). Goes [] (first_nodes config) entries new.nodes) (sym enters.enters.entered)
      (goes-append [] (first_nodes config) old.nodes new.nodes old.entries (entry_now ∷ []) goes
      (subst (λ (past : List Entry). Goes past old.nodes (entry_now ∷ []) new.nodes) (sym (append-nil (past_of old))) (new.nodes, step, refl)))

  told_after : (words : List (List ℕ)) (to number : ℕ) → IsTold (past_of old) words to number → IsTold (past_of new) words to number
  told_after words to number was =
      subst (λ (past : List Entry). IsTold past words to number) (sym past_is)
      (told_still (redirection_in (answered deed)) (redirections (past_of old)) (record { words = words; to = to; number = number }) was)

  pub enters_leaves : Leaves (ChangedBy node deed) old new
  enters_leaves = record {
    nodes = ap length step.is ∙ length-set old.nodes node step.after;
    configs = have;
    known = known_after;
    calm = calm_after;
    told = told_after;
    entered = entered_after;
    goes = goes_after;
    further = (entry_now ∷ [], past_is);
  }

  -- what the entry itself tells
  pub tells_now : (redirection : Redirection) → redirection_in (answered deed) ≡ Some redirection → Contains (redirections (past_of new)) redirection
  tells_now redirection is =
      subst (λ (past : List Entry). Contains (redirections past) redirection) (sym past_is)
      (subst (λ (told : Option Redirection). Contains (cons_option told (redirections (past_of old))) redirection) (sym is) (0, omega arith, refl))

-- ---- steps of a kind

pub skips_leaves : (old new : RunView) (node : ℕ) → Enters old node Skipped new → Leaves none_changed old new
skips_leaves old new node enters = leaves_more (ChangedBy node Skipped) none_changed old new (λ link none. none) (enters_leaves old new node Skipped enters)

pub opens_leaves : (old new : RunView) (node : ℕ) (outputs : Outputs) → Makes old node Open outputs new → Leaves none_changed old new
opens_leaves old new node outputs makes = leaves_more (ChangedBy node (Made Open outputs)) none_changed old new (λ link asked. asked.1) (enters_leaves old new node (Made Open outputs) makes)

pub close_leaves : (old new : RunView) (node : ℕ) (conn : Conn) (outputs : Outputs) → Makes old node (Close conn) outputs new → Leaves none_changed old new
close_leaves old new node conn outputs makes = leaves_more (ChangedBy node (Made (Close conn) outputs)) none_changed old new (λ link asked. asked.1) (enters_leaves old new node (Made (Close conn) outputs) makes)

pub closes_leaves : (old new : RunView) (node : ℕ) (conns : List Conn) → Closes old node conns new → Leaves none_changed old new
closes_leaves old new node [] same = subst (Leaves none_changed old) (sym same) (leaves_all none_changed old)
closes_leaves old new node (conn ∷ conns) closes =
    leaves_further none_changed old closes.0 new (close_leaves old closes.0 node conn closes.1 closes.2) (closes_leaves closes.0 new node conns closes.3)

-- the state of the node behind a step of its own
entered_is : (old new : RunView) (node : ℕ) (deed : Deed) (enters : Enters old node deed new) → slice_get new.nodes node ≡ Some enters.enters.step.after
entered_is old new node deed enters =
    ap (λ (nodes : List NodeState). slice_get nodes node) enters.enters.step.is ∙ set_here old.nodes node enters.enters.step.before enters.enters.step.after enters.enters.step.was

-- a connection that is closed allows nothing
pub closed_is_calm : (old new : RunView) (node : ℕ) (conn : Conn) → Closes old node (conn ∷ []) new → asking_at new (record { node = node; conn = conn }) ≡ No
closed_is_calm old new node conn closes =
    let made : Makes old node (Close conn) closes.1 closes.0 = closes.2 in
    let step = made.enters.step in
    let calm : asking_at closes.0 (record { node = node; conn = conn }) ≡ No =
    ap (λ (s : Option NodeState). asking_in s conn) (entered_is old closes.0 node (Made (Close conn) closes.1) made)
    ∙ close_is_calm made.enters.ticket step.before step.after conn closes.1 step.leads.1 in
    subst (λ (run : RunView). asking_at run (record { node = node; conn = conn }) ≡ No) (sym closes.3) calm

-- a connection that is opened is none that was known
pub record IsFresh (old new : RunView) (link : Link) : Type 0 where
  pub unknown : IsKnown old link → ⊥
  pub known : IsKnown new link
  pub calm : asking_at new link ≡ No

pub opened_is_fresh : (old new : RunView) (node : ℕ) (conn : Conn) (outputs : Outputs) → Makes old node Open outputs new → outputs.response ≡ Opened conn
    → IsFresh old new (record { node = node; conn = conn })
opened_is_fresh old new node conn outputs makes names =
    let step = makes.enters.step in
    let is_new : IsNew step.before step.after conn = open_is_new makes.enters.ticket step.before step.after conn outputs step.leads.1 names in
    let here = entered_is old new node (Made Open outputs) makes in
    record {
      unknown = λ known.
          let below : conn.generation < opens_in (Some step.before) conn.key = subst (λ (s : Option NodeState). conn.generation < opens_in s conn.key) step.was known in
          omega (arith, below, is_new.fresh);
      known = subst (λ (s : Option NodeState). conn.generation < opens_in s conn.key) (sym here) is_new.known;
      calm = ap (λ (s : Option NodeState). asking_in s conn) here ∙ is_new.calm;
    }
