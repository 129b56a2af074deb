use Rattle.std.proofs.Common.{arith}
use Rattle.repl_stream.proofs.PageLemmas.{one_more_page}
use Rattle.repl_stream.proofs.pages.empty_pages.Goals as goal

pub loop-preserved : goal.loop-preserved
loop-preserved c =
    let so = one_more_page c.args.len c.loop.pages c.push_back.new.self c.in_ok-with_capacity.field-0 c.push_back.ensures.items
    (omega arith) c.loop.invariant.2 c.in_ok-with_capacity.ensures.items c.in_ok-with_capacity.ensures.capacity in
    (omega arith, omega arith, so.2)
