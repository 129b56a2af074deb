use Rattle.std.proofs.Common.{◌≡◌, ◌-◌, ◌∙◌, ap, drop, take, rules}
use Rattle.resp2.proofs.Overlong.{front_kept_of}
use Rattle.resp2.proofs.reader.fault_within.Goals as goal

pub returns-in-Ok-taken-clause-kept : goal.returns-in-Ok-taken-clause-kept
returns-in-Ok-taken-clause-kept c =
    let front : c.in-Ok.front.items ≡ take c.args.len c.args.input.now.items = (search rules) in
    front_kept_of c.args.progress.now c.take_words-taken.new.self c.args.input.now.items c.in-Ok.front.items c.take_words-taken.new.input.items _ c.args.len front c.requires.within
    c.take_words-taken.ensures.shrinks c.take_words-taken.ensures.kept
    (c.advance.ensures.items ∙ ap (λ n. drop (c.args.len - n) c.args.input.now.items) c.len.ensures.value)

pub returns-clause-kept : goal.returns-clause-kept
returns-clause-kept c =
    let front : c.in-Ok.front.items ≡ take c.args.len c.args.input.now.items = (search rules) in
    front_kept_of c.args.progress.now c.take_words-taken.new.self c.args.input.now.items c.in-Ok.front.items c.take_words-taken.new.input.items _ c.args.len front c.requires.within
    c.take_words-taken.ensures.shrinks c.take_words-taken.ensures.kept
    (c.advance.ensures.items ∙ ap (λ n. drop (c.args.len - n) c.args.input.now.items) c.len.ensures.value)
