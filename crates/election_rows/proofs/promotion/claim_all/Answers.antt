use Rattle.std.proofs.Common.{◌≤◌, ◌<◌, ◌≡◌, ◌∙◌, length, None, ap, rules}
use Rattle.node_step.specs.Promotion.{entry_after}
use Rattle.election_rows.proofs.TableLemmas.{all_mapped, one_more}
use Rattle.election_rows.proofs.promotion.claim_all.Goals as goal

pub returns : goal.returns
returns c =
    let past : length c.args.table.now ≤ c.loop-place.place = search rules in
    c.loop-place.invariant ∙ all_mapped (entry_after c.args.master c.args.claim.now) c.args.table.now c.loop-place.place past

pub loop-place-preserved : goal.loop-place-preserved
loop-place-preserved c =
    let below : c.loop-place.place < length c.args.table.now = search rules in
    let at : c.unwrap-slot.result ≡ c.loop-place.place = search rules in
    one_more (entry_after c.args.master c.args.claim.now) c.args.table.now c.loop-place.table c.set.new.self c.loop-place.place c.unwrap-slot.result None c.entry_after-entry.result below at c.loop-place.invariant
    (c.entry_after-entry.ensures ∙ ap (entry_after c.args.master c.args.claim.now) c.entry.ensures) c.set.ensures
