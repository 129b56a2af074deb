-- What a node holds of the others, its votes, and its own election (Redis Cluster specification, "Failure detection", "Replica
-- election and promotion"; rows for 16 nodes, and ages in ticks, are ours).
use Rattle.std.specs.Prelude.{ℕ, Bool, false, List, Option, None, replicate}
pub use Rattle.election.specs.declared.report.Report.{Report}

-- for each node the ticks since it was heard of, and its last report: whom that names, and how many ticks ago it came
pub record Health : Type 0 where
  pub silent : List ℕ
  pub reports : List (Option Report)

-- the last epoch in which the node voted
pub record Voter : Type 0 where
  pub last_vote : ℕ

-- a replica's election: its epoch, and for each node whether it granted it
pub record Election : Type 0 where
  pub epoch : ℕ
  pub granted : List Bool

-- how many ticks ago the node's own master came to be held failed, and how many ticks ago the node began an election since; the
-- election that runs, and whether it is one for which the master hands its slots over
pub record Candidate : Type 0 where
  pub failed : Option ℕ
  pub started : Option ℕ
  pub election : Option Election
  pub planned : Bool

-- ---- the start

-- a row for all nodes that there may be
abbrev pub row : {A : Type 0} → A → List A
row item = replicate 16 item

-- nothing was heard yet, and nobody is suspected
abbrev pub first_health : Health
first_health = record { silent = row 0; reports = row None }

abbrev pub first_voter : Voter
first_voter = record { last_vote = 0 }

abbrev pub no_candidate : Candidate
no_candidate = record { failed = None; started = None; election = None; planned = false }
