-- What a node holds of the others is what it heard.
use Rattle.std.proofs.Common.{◌≡◌, ◌<◌, ◌≤◌, ◌+◌, ◌*◌, ◌==◌, inl, inr, sym, ◌∙◌, ap, ap₂, refl, zero, suc, ℕ, Bool, true, false, not, List, [], ◌∷◌, length, All, Option, Some, None, arith, if◌then◌else◌, replicate}
use Rattle.std.proofs.lemmas.Bool.{cases_lt, false_from_ne_true, le-leb, leb-true}
use Rattle.std.proofs.lemmas.List.{get_or-map, length-map, length-set}
use Rattle.std.proofs.lemmas.List.Elements.{All-weaker}
use Rattle.std.proofs.Math.ListN.{get_or-eq_default}
use Rattle.std.proofs.Math.Bool.{and-false, and-true}
use Rattle.std.specs.Prelude.{◌&&◌, min, nat_le, nat_lt, map, option_map, slice_index_or, slice_set}
use Rattle.election.specs.Failing.{accuses, has_failed, heard, names, older, older_report, suspects, without}
use Rattle.election.specs.Health.{Report, row}
use Rattle.election.specs.History.{Heard, health_after, holds_suspected, is_within, named_since, ticks_since}
use Rattle.election.specs.History.Heard.{Tick, Message, Report as Told}
use Rattle.election.specs.Members.{Members, most_voters}
use Rattle.election.proofs.RowLemmas.{at_set, count_agree}

-- ---- rows

pub same_everywhere : {A : Type 0} (n i : ℕ) (x : A) → slice_index_or (replicate n x) i x ≡ x
same_everywhere zero i x = refl
same_everywhere (suc n) zero x = refl
same_everywhere (suc n) (suc i) x = same_everywhere n i x

silent_long : (past : List Heard) → length (health_after past).silent ≡ 16
silent_long [] = refl
silent_long (Tick ∷ past) = length-map (health_after past).silent older ∙ silent_long past
silent_long (Message from ∷ past) = length-set (health_after past).silent from 0 ∙ silent_long past
silent_long (Told from names ∷ past) = length-set (health_after past).silent from 0 ∙ silent_long past

reports_long : (past : List Heard) → length (health_after past).reports ≡ 16
reports_long [] = refl
reports_long (Tick ∷ past) = length-map (health_after past).reports (option_map older_report) ∙ reports_long past
reports_long (Message from ∷ past) = length-map (health_after past).reports (option_map (without from)) ∙ reports_long past
reports_long (Told from names ∷ past) =
    length-set (heard (health_after past) from).reports from (Some (record { suspects = names; age = 0 }))
    ∙ length-map (health_after past).reports (option_map (without from)) ∙ reports_long past

-- ---- ages

abbrev pub oldest : ℕ
oldest = 2000001

older_min : (ticks : ℕ) → older (min ticks oldest) ≡ min (ticks + 1) oldest
older_min ticks = omega arith

-- the greatest age is never told from a greater one by what is waited for
pub le_min : (bound ticks : ℕ) → bound ≤ oldest → nat_le bound (min ticks oldest) ≡ nat_le bound ticks
le_min bound ticks below =
    elim (cases_lt ticks oldest) [
      | inl before ↦ let same : min ticks oldest ≡ ticks = omega arith in ap (nat_le bound) same
      | inr past ↦
          let oldest_is : bound ≤ min ticks oldest = omega arith in
          let ticks_are : bound ≤ ticks = omega arith in
          le-leb bound (min ticks oldest) oldest_is ∙ sym (le-leb bound ticks ticks_are)
    ]

min_le : (ticks bound : ℕ) → bound < oldest → nat_le (min ticks oldest) bound ≡ nat_le ticks bound
min_le ticks bound below =
    elim (cases_lt ticks oldest) [
      | inl before ↦ let same : min ticks oldest ≡ ticks = omega arith in ap (λ age. nat_le age bound) same
      | inr past ↦
          let oldest_is : nat_le (min ticks oldest) bound ≡ false = false_from_ne_true _ (λ is. let le : min ticks oldest ≤ bound = leb-true _ _ is in omega arith) in
          let ticks_are : nat_le ticks bound ≡ false = false_from_ne_true _ (λ is. let le : ticks ≤ bound = leb-true _ _ is in omega arith) in
          oldest_is ∙ sym ticks_are
    ]

-- ---- silence

heard_at : (silent : List ℕ) (from node ticks : ℕ) (same : Bool) → (from == node) ≡ same → node < length silent
    → slice_index_or silent node 0 ≡ min ticks oldest
    → slice_index_or (slice_set silent from 0) node 0 ≡ min (if same then 0 else ticks) oldest
heard_at silent from node ticks true is below before = at_set silent from node 0 0 true is below
heard_at silent from node ticks false is below before = at_set silent from node 0 0 false is below ∙ before

silent_is : (past : List Heard) (node : ℕ) → node < 16 → slice_index_or (health_after past).silent node 0 ≡ min (ticks_since node past) oldest
silent_is [] node below = same_everywhere 16 node 0
silent_is (Tick ∷ past) node below =
    let within : node < length (health_after past).silent = rw (silent_long past) below in
    get_or-map older (health_after past).silent node 0 0 within ∙ ap older (silent_is past node below) ∙ older_min (ticks_since node past)
silent_is (Message from ∷ past) node below =
    let within : node < length (health_after past).silent = rw (silent_long past) below in
    heard_at (health_after past).silent from node (ticks_since node past) (from == node) refl within (silent_is past node below)
silent_is (Told from names ∷ past) node below =
    let within : node < length (health_after past).silent = rw (silent_long past) below in
    heard_at (health_after past).silent from node (ticks_since node past) (from == node) refl within (silent_is past node below)

pub suspects_the_silent : (past : List Heard) (members : Members) (node : ℕ) → node < 16 → members.node_timeout ≤ 1000000
    → suspects (health_after past) members node ≡ (not (node == members.me) && nat_le members.node_timeout (ticks_since node past))
suspects_the_silent past members node below timeout =
    let bound : members.node_timeout ≤ oldest = omega arith in
    ap (λ b. not (node == members.me) && b)
    (ap (nat_le members.node_timeout) (silent_is past node below) ∙ le_min members.node_timeout (ticks_since node past) bound)

-- ---- reports

-- the age of a report that names the node
abbrev naming : Option Report → ℕ → Option ℕ
naming None node = None
naming (Some report) node = if slice_index_or report.suspects node false then Some report.age else None

abbrev pub capped : Option ℕ → Option ℕ
capped ticks = option_map (λ it. min it oldest) ticks

naming_older_by : (age : ℕ) (named : Bool) → (if named then Some (older age) else None) ≡ option_map older (if named then Some age else None)
naming_older_by age true = refl
naming_older_by age false = refl

naming_older : (report : Option Report) (node : ℕ) → naming (option_map older_report report) node ≡ option_map older (naming report node)
naming_older None node = refl
naming_older (Some report) node = naming_older_by report.age (slice_index_or report.suspects node false)

pub older_capped : (ticks : Option ℕ) → option_map older (capped ticks) ≡ capped (option_map (λ it. it + 1) ticks)
older_capped None = refl
older_capped (Some ticks) = ap Some (older_min ticks)

-- a row without a name, by the test whether it is that one; past the end nobody is named
either_false : (same : Bool) → false ≡ (if same then false else false)
either_false true = refl
either_false false = refl

unnamed_at : (row : List Bool) (from node : ℕ) → slice_index_or (slice_set row from false) node false ≡ (if from == node then false else slice_index_or row node false)
unnamed_at row from node =
    elim (cases_lt node (length row)) [
      | inl within ↦ at_set row from node false false (from == node) refl within
      | inr past ↦
          let long : length (slice_set row from false) ≤ node = rw (length-set row from false) past in
          get_or-eq_default (slice_set row from false) false long
          ∙ (either_false (from == node) ∙ ap (λ named. if from == node then false else named) (sym (get_or-eq_default row false past)))
    ]

naming_without : (report : Option Report) (from node : ℕ) (same : Bool) → (from == node) ≡ same
    → naming (option_map (without from) report) node ≡ (if same then None else naming report node)
naming_without None from node true is = refl
naming_without None from node false is = refl
naming_without (Some report) from node true is = rw (unnamed_at report.suspects from node) (rw is refl)
naming_without (Some report) from node false is = rw (unnamed_at report.suspects from node) (rw is refl)

without_capped : (same : Bool) (named : Option ℕ) (ticks : Option ℕ) → named ≡ capped ticks → (if same then None else named) ≡ capped (if same then None else ticks)
without_capped true named ticks is = refl
without_capped false named ticks is = is

new_capped : (named : Bool) → (if named then Some 0 else None) ≡ capped (if named then Some 0 else None)
new_capped true = refl
new_capped false = refl

-- behind a message of a node
message_is : (reports : List (Option Report)) (from voter node : ℕ) (ticks : Option ℕ) → voter < length reports
    → naming (slice_index_or reports voter None) node ≡ capped ticks
    → naming (slice_index_or (map (option_map (without from)) reports) voter None) node ≡ capped (if from == node then None else ticks)
message_is reports from voter node ticks within before =
    ap (λ report. naming report node) (get_or-map (option_map (without from)) reports voter None None within)
    ∙ (naming_without (slice_index_or reports voter None) from node (from == node) refl ∙ without_capped (from == node) _ _ before)

-- and behind its report
told_by : (names : List Bool) (node : ℕ) (report : Option Report) (ticks : Option ℕ) (same : Bool) → naming report node ≡ capped ticks
    → naming (if same then Some (record { suspects = names; age = 0 }) else report) node
    ≡ capped (if same then (if slice_index_or names node false then Some 0 else None) else ticks)
told_by names node report ticks true before = new_capped (slice_index_or names node false)
told_by names node report ticks false before = before

naming_is : (past : List Heard) (voter node : ℕ) → voter < 16
    → naming (slice_index_or (health_after past).reports voter None) node ≡ capped (named_since voter node past)
naming_is [] voter node below = ap (λ report. naming report node) (same_everywhere 16 voter None)
naming_is (Tick ∷ past) voter node below =
    let within : voter < length (health_after past).reports = rw (reports_long past) below in
    ap (λ report. naming report node) (get_or-map (option_map older_report) (health_after past).reports voter None None within)
    ∙ (naming_older (slice_index_or (health_after past).reports voter None) node
    ∙ (ap (option_map older) (naming_is past voter node below) ∙ older_capped (named_since voter node past)))
naming_is (Message from ∷ past) voter node below =
    let within : voter < length (health_after past).reports = rw (reports_long past) below in
    message_is (health_after past).reports from voter node (named_since voter node past) within (naming_is past voter node below)
naming_is (Told from names ∷ past) voter node below =
    let within : voter < length (health_after past).reports = rw (reports_long past) below in
    let long : voter < length (heard (health_after past) from).reports = rw (reports_long (Message from ∷ past)) below in
    ap (λ report. naming report node)
    (at_set (heard (health_after past) from).reports from voter (Some (record { suspects = names; age = 0 })) None (from == voter) refl long)
    ∙ told_by names node (slice_index_or (heard (health_after past) from).reports voter None) (if from == node then None else named_since voter node past) (from == voter)
    (message_is (health_after past).reports from voter node (named_since voter node past) within (naming_is past voter node below))

-- a report counts for as long as it is young enough
names_by : (report : Report) (timeout node : ℕ) (named : Bool) → (nat_le report.age (2 * timeout) && named) ≡ is_within (2 * timeout) (if named then Some report.age else None)
names_by report timeout node true = and-true (nat_le report.age (2 * timeout))
names_by report timeout node false = and-false (nat_le report.age (2 * timeout))

names_is : (report : Option Report) (timeout node : ℕ) → names report timeout node ≡ is_within (2 * timeout) (naming report node)
names_is None timeout node = refl
names_is (Some report) timeout node = names_by report timeout node (slice_index_or report.suspects node false)

capped_within : (bound : ℕ) (ticks : Option ℕ) → bound < oldest → is_within bound (capped ticks) ≡ is_within bound ticks
capped_within bound None below = refl
capped_within bound (Some ticks) below = min_le ticks bound below

-- ---- what the voters hold

accuses_is : (past : List Heard) (members : Members) (node voter : ℕ) → node < 16 → members.node_timeout ≤ 1000000 → voter < 16
    → accuses (health_after past) members node voter ≡ holds_suspected past members node voter
accuses_is past members node voter below timeout votes =
    let bound : 2 * members.node_timeout < oldest = omega arith in
    ap₂ (λ (own other : Bool). if voter == members.me then own else other)
    (suspects_the_silent past members node below timeout)
    (names_is (slice_index_or (health_after past).reports voter None) members.node_timeout node
    ∙ (ap (is_within (2 * members.node_timeout)) (naming_is past voter node votes) ∙ capped_within (2 * members.node_timeout) (named_since voter node past) bound))

pub fails_by_most_voters : (past : List Heard) (members : Members) (node : ℕ) → node < 16 → members.node_timeout ≤ 1000000 → All (λ voter. voter < 16) members.voters
    → has_failed (health_after past) members node ≡ (not (node == members.me) && most_voters members (holds_suspected past members node))
fails_by_most_voters past members node below timeout voters =
    ap (λ (count : ℕ). not (node == members.me) && nat_lt (length members.voters) (2 * count))
    (count_agree (accuses (health_after past) members node) (holds_suspected past members node) members.voters
    (All-weaker (λ voter. voter < 16) (λ voter. accuses (health_after past) members node voter ≡ holds_suspected past members node voter)
    (λ voter votes. accuses_is past members node voter below timeout votes) members.voters voters))
