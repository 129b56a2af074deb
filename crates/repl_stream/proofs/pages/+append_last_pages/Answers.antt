use Rattle.std.proofs.Common.{sym, arith}
use Rattle.repl_stream.proofs.PageLemmas.{parted_more}
use Rattle.repl_stream.proofs.pages.+append_last_pages.Goals as goal

pub returns : goal.returns
returns t c = record {
  ok =
      parted_more c.args.most c.args.last c.saturating_sub.result c.args.count c.args.bytes.now.items c.append_last_pages.new.bytes.items
      c.append_last.new.bytes.items c.as_slice.result.now c.args.pages.now.items c.in-Some.page.now
      (omega arith) c.requires.there (sym c.in-Some.ensures) (omega arith) c.as_slice.ensures.value
      c.in_ok-append_last_pages.ensures.ok c.in_ok-append_last.ensures;
}
