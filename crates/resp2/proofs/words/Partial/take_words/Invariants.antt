use Rattle.resp2.proofs.ReaderSteps.{GoesOn}
use Rattle.resp2.proofs.words.Partial.take_words.Given as goal

abbrev pub invariant-words : goal.invariant-words
invariant-words l = GoesOn l.fn.self l.fn.input.items l.self l.input.items

abbrev pub decreases-words : goal.decreases-words
decreases-words l = l.self.left
