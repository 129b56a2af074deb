use Rattle.std.proofs.Common.{rules, ◌≡◌, ◌++◌, drop, length, take}
use Rattle.std.proofs.lemmas.List.{take_at}
use Rattle.link_ends.proofs.TogetherLemmas.{left_arrived, left_wired}
use Rattle.link_ends.proofs.comparing.compare_all.Goals as goal

pub loop-last-preserved : goal.loop-last-preserved
loop-last-preserved g c =
    let now = c.compare_last.new.others in
    let is_left : take c.pop.new.self.len (now ++ drop (length now) c.pop.new.self.items) ≡ now = take_at now _ _ (search (rules, c.compare_last.ensures.wired.nodes)) in
    let wired = left_wired c.as_mut_slice.result.now now _ is_left c.compare_last.ensures.wired in
    record {
      wired = wired;
      arrived = λ rest. c.loop-last.invariant.arrived (left_arrived c.as_mut_slice.result.now now _ c.loop-last.all.items c.in-Some.last is_left c.compare_last.ensures.wired.nodes (search rules) c.compare_last.ensures.arrived rest);
    }
