use Rattle.resp2.proofs.Overlong.{fed_counted}
use Rattle.resp2.proofs.ReaderSteps.{fed}
use Rattle.resp2.proofs.reader.Reader.feed.Goals as goal

pub returns-clause-fed : goal.returns-clause-fed
returns-clause-fed c = fed c.self.inside.progress c.self.inside.input.items _ _ _ _ c.self.view_is c.in_ok-extend_from_slice.ensures.ok

pub invariant_of-self-2 : goal.invariant_of-self-2
invariant_of-self-2 c = (c.self.invariant.0, fed_counted _ _ _ _ _ c.in_ok-extend_from_slice.ensures.ok c.self.invariant.1)
