use Rattle.std.proofs.Common.{◌≡◌, ◌∙◌, ◌<◌, ap, sym, subst, length, Option, None, ℕ, IfOk, arith, rules, set}
use Rattle.std.proofs.lemmas.Bool.{eqb-true}
use Rattle.std.proofs.lemmas.List.{get_or_default}
use Rattle.std.proofs.lemmas.Result.{IfOk-weaker}
use Rattle.slot_table.specs.declared.entry.SlotEntry.{SlotEntry}
use Rattle.slot_table.specs.CutRuns.{AreRunsCutAt, with_value}
use Rattle.slot_table.specs.Runs.{runs_of}
use Rattle.slot_table.specs.Table.{claim_at, epoch_in, entry_at}
use Rattle.slot_table.proofs.ClaimLemmas.{claim_runs, changed_runs, same_runs}
use Rattle.slot_table.proofs.SameLemmas.{same_options}
use Rattle.slot_table.proofs.table.SlotTable.changed_claim.Goals as goal

-- the runs are those of the claim with the slot
made : (c : goal.In_ok-runs) → AreRunsCutAt 16384 (with_value (claim_at c.args.self.now c.args.node) c.args.slot (epoch_in c.args.node c.args.entry)) c.in_ok-runs.runs.items
made c =
    let table = c.args.self.now in
    let node = c.args.node in
    let whole : length table ≡ 16384 = ap (length {A = Option SlotEntry}) (sym c.self.view_is) ∙ c.self.invariant.slots in
    subst (λ (own : Option ℕ). AreRunsCutAt 16384 (with_value (claim_at table node) c.args.slot own) c.in_ok-runs.runs.items) c.value_in-epoch.ensures
    (c.in_ok-runs.ensures (claim_at table node) (claim_runs table node c.runs.result.now whole (c.runs.ensures.same ∙ c.requires)))

pub new-requires : goal.new-requires
new-requires c = (made c).rising

pub returns-then-eq : goal.returns-then-eq
returns-then-eq c =
    let table = c.args.self.now in
    let node = c.args.node in
    let slot : ℕ = c.args.slot in
    let claim = c.args.claim.now in
    let whole : length table ≡ 16384 = ap (length {A = Option SlotEntry}) (sym c.self.view_is) ∙ c.self.invariant.slots in
    let below : slot < 16384 = let index = c.index.ensures.same in let lt = c.index.ensures.below in omega arith in
    let entries = c.self.inside.entries.items in
    let within : c.index.result < length entries = let slots = c.self.invariant.slots in let lt = c.index.ensures.below in omega arith in
    let there : entry_at table slot ≡ c.index-2.result.now =
    ap (λ entries. entry_at entries slot) (sym c.self.view_is) ∙ ap (entry_at entries) (sym c.index.ensures.same) ∙ get_or_default entries c.index.result None c.index-2.result.now within ∙ sym c.index-2.ensures in
    let same : c.value_in-before.result ≡ c.value_in-epoch.result = same_options _ eqb-true _ _ (sym c.eq.ensures ∙ c.if-eq.true) in
    let has : claim_at table node slot ≡ epoch_in node c.args.entry = ap (epoch_in node) there ∙ sym c.value_in-before.ensures ∙ same ∙ c.value_in-epoch.ensures in
    let copied : IfOk c.clone.result (λ copy. copy ≡ claim) = search rules in
    IfOk-weaker c.clone.result (λ copy. copy ≡ claim) (λ changed. changed ≡ runs_of (claim_at (set table slot c.args.entry) node)) (λ copy is.
    is ∙ changed_runs table node slot c.args.entry claim whole below (same_runs table node slot c.args.entry claim has (claim_runs table node claim whole c.requires))) copied

pub returns : goal.returns
returns c =
    let table = c.args.self.now in
    let node = c.args.node in
    let runs = c.in_ok-runs.runs.items in
    let whole : length table ≡ 16384 = ap (length {A = Option SlotEntry}) (sym c.self.view_is) ∙ c.self.invariant.slots in
    let below : c.args.slot < 16384 = let index = c.index.ensures.same in let lt = c.index.ensures.below in omega arith in
    IfOk-weaker c.new.result (λ claim. claim ≡ runs) (λ changed. changed ≡ runs_of (claim_at (set table c.args.slot c.args.entry) node)) (λ claim is. is ∙ changed_runs table node c.args.slot c.args.entry runs whole below (made c.before)) c.new.ensures
