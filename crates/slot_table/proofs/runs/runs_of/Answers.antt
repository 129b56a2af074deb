use Rattle.slot_table.proofs.RunLemmas.{up_to-run}
use Rattle.slot_table.proofs.runs.runs_of.Goals as goal

pub loop-at-preserved : goal.loop-at-preserved
loop-at-preserved g c =
    let end = c.end_of-end.ensures in
    record {
      within = end.within;
      runs = up_to-run _ _ _ _ _ c.push.new.self.items _ c.loop-at.invariant.runs c.slots_between-slots.ensures c.in_ok-push-in-Some.ensures.items end.behind end.has end.stops;
    }
