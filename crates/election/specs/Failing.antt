-- What a node holds of the others (Redis Cluster specification, "Failure detection": PFAIL is what one node holds, FAIL what most
-- voters do; the times, how both end, and that nodes report of all others are ours).
use Rattle.std.specs.Prelude.{ℕ, ◌+◌, ◌*◌, ◌==◌, ◌&&◌, not, nat_le, nat_lt, min, Bool, false, List, length, map, Option, Some, None, option_map, slice_index_or, slice_set, if◌then◌else◌}
use Rattle.std.specs.List.{range_with_len}
use Rattle.election.specs.Health.{Health, Report}
use Rattle.election.specs.Members.{Members, most_voters}

-- ---- ages, in ticks of this node

-- a tick later; ages stop rising once they are past each time that is waited for
abbrev pub older : ℕ → ℕ
older age = min (age + 1) 2000001

abbrev pub older_report : Report → Report
older_report report = record report { age = older report.age }

abbrev pub ticked : Health → Health
ticked health = record { silent = map older health.silent; reports = map (option_map older_report) health.reports }

-- ---- what is heard

-- a report that came before names the node no longer
abbrev pub without : ℕ → Report → Report
without node report = record report { suspects = slice_set report.suspects node false }

-- any message of the node is a sign of its life
abbrev pub heard : Health → ℕ → Health
heard health node = record { silent = slice_set health.silent node 0; reports = map (option_map (without node)) health.reports }

-- its report is one too, and takes the place of the one before
abbrev pub reported : Health → ℕ → List Bool → Health
reported health from suspects = record (heard health from) {
  reports = slice_set (heard health from).reports from (Some (record { suspects = suspects; age = 0 }));
}

-- ---- PFAIL and FAIL

-- PFAIL: no message of the node came for so many ticks. No node suspects itself
abbrev pub suspects : Health → Members → ℕ → Bool
suspects health members node = not (node == members.me) && nat_le members.node_timeout (slice_index_or health.silent node 0)

-- whom this node reports: those of the nodes that it suspects
abbrev pub suspected : Health → Members → List Bool
suspected health members = map (λ node. nat_lt node (length members.masters) && suspects health members node) (range_with_len 0 16)

-- the report names the node, and is not too old
abbrev pub names : Option Report → ℕ → ℕ → Bool
names None timeout node = false
names (Some report) timeout node = nat_le report.age (2 * timeout) && slice_index_or report.suspects node false

-- the voter suspects the node: this node as it holds itself, another one by its last report
abbrev pub accuses : Health → Members → ℕ → ℕ → Bool
accuses health members node voter =
    if voter == members.me then suspects health members node else names (slice_index_or health.reports voter None) members.node_timeout node

-- FAIL: more than half of the voters do. No node holds it of itself
abbrev pub has_failed : Health → Members → ℕ → Bool
has_failed health members node = not (node == members.me) && most_voters members (accuses health members node)
