use Rattle.std.proofs.Common.{rules, [], length, take, sym, arith}
use Rattle.std.proofs.lemmas.List.{get_or_default, take_all}
use Rattle.link_ends.specs.Comparing.{BothArrived}
use Rattle.link_ends.proofs.ComparingLemmas.{next_arrived, next_face, next_shorter, some_end, still_taken}
use Rattle.link_ends.proofs.ChangingLemmas.{changed_none}
use Rattle.link_ends.proofs.comparing.compare_each.Goals as goal

pub loop-here-init : goal.loop-here-init
loop-here-init g c = record {
  within = omega (arith, c.requires.count);
  row = sym (take_all _ c.args.row.items (omega arith));
  others = sym (changed_none (take (length c.args.others.now)) _ c.args.others.now (omega (arith, c.requires.count)));
  arrived = λ node none nothing from within. absurd (omega (arith, from, within, c.requires.count));
}

pub take_last-there-requires : goal.take_last-there-requires
take_last-there-requires g c =
    let i = c.loop-here.invariant in
    some_end _ _ c.requires _ _ _ _ c.in-Some.ensures.items i.within i.row i.others c.len.result (search rules) _ (get_or_default c.loop-here.others _ _ [] (search rules))

pub compare_both-requires : goal.compare_both-requires
compare_both-requires g c =
    let i = c.loop-here.invariant in
    next_face _ _ c.requires _ _ _ _ c.in-Some.ensures.items i.within i.row i.others c.len.result (search rules) _ (get_or_default c.loop-here.others _ _ [] (search rules)) _ _ c.take_last-there.ensures

pub loop-here-preserved : goal.loop-here-preserved
loop-here-preserved g c =
    let i = c.loop-here.invariant in
    let ends = get_or_default c.loop-here.others c.len.result c.index-others-len.result [] (search rules) in
    let both : BothArrived c.in-Some.here c.take_last-there.result = record { sent = c.compare_both.ensures.sent; received = c.compare_both.ensures.received } in
    record {
      within = search rules;
      row = still_taken _ _ c.requires _ _ _ _ c.in-Some.ensures.items i.within i.row i.others c.len.result (search rules) _ ends;
      others = next_shorter _ _ c.requires _ _ _ _ c.in-Some.ensures.items i.within i.row i.others c.len.result (search rules) _ ends _ _ c.take_last-there.ensures;
      arrived = next_arrived _ _ c.requires _ _ _ _ c.in-Some.ensures.items i.within i.row i.others c.len.result (search rules) _ ends _ _ c.take_last-there.ensures both i.arrived;
    }

pub returns-clause-arrived : goal.returns-clause-arrived
returns-clause-arrived g c = λ node none nothing from within. c.loop-here.invariant.arrived node none nothing (search rules) within
