use Rattle.std.proofs.Common.{rules, ◌≡◌, ◌∙◌, ◌++◌, ◌∷◌, ◌-◌, [], List, drop, sym, ap, refl, arith}
use Rattle.std.proofs.lemmas.Result.{err_from_is_err_and}
use Rattle.resp2.specs.ReplyProgress.{element_front}
use Rattle.resp2.proofs.ArraySteps.{fresh, front_is, inner_fails, inner_taken, inner_waits, kept_after, none_in_front, reading_after, shrinks_after}
use Rattle.resp2.proofs.array_part.ArrayPart.begin_inner.Goals as goal

pub returns-in_err-header-clause-err : goal.returns-in_err-header-clause-err
returns-in_err-header-clause-err c =
    let none = none_in_front c.args.begun.now c.args.input.now.items c.requires.begins in
    let bytes : c.as_slice.result.now ≡ c.args.input.now.items = search rules in
    let deep = c.requires.reading.part.shallow in
    let fault = err_from_is_err_and c.from_residual-in_err-header.result c.from_residual-in_err-header.ensures.1 in
    rw (fault.1, fault.2)
    (λ _. inner_fails _ c.args.self.now.left c.args.self.now.outer.items c.as_slice.result.now (element_front c.args.begun.now c.args.input.now.items) c.requires.open
    (omega (arith, deep, c.len.ensures, c.if-len-eq-MOST_DEPTH.false)) c.requires.begins (bytes ∙ sym (front_is c.args.begun.now c.args.input.now.items none)) c.in_err-header.ensures)

pub returns-in_default-clause-unfinished : goal.returns-in_default-clause-unfinished
returns-in_default-clause-unfinished c =
    let none = none_in_front c.args.begun.now c.args.input.now.items c.requires.begins in
    let bytes : c.as_slice.result.now ≡ c.args.input.now.items = search rules in
    let deep = c.requires.reading.part.shallow in
    inner_waits c.args.self.now.left c.args.self.now.outer.items c.as_slice.result.now (element_front c.args.begun.now c.args.input.now.items) c.in_ok-header.field-0 c.requires.open
    (omega (arith, deep, c.len.ensures, c.if-len-eq-MOST_DEPTH.false)) c.requires.begins (bytes ∙ sym (front_is c.args.begun.now c.args.input.now.items none)) c.in_ok-header.ensures c.in_default.is

pub returns-clause-reading : goal.returns-clause-reading
returns-clause-reading c =
    let none = none_in_front c.args.begun.now c.args.input.now.items c.requires.begins in
    let bytes : c.as_slice.result.now ≡ c.args.input.now.items = search rules in
    let deep = c.requires.reading.part.shallow in
    let taken = inner_taken c.args.self.now.elements.items c.args.self.now.left c.args.self.now.outer.items c.as_slice.result.now (element_front c.args.begun.now c.args.input.now.items) c.in_ok-header.field-0 c.in-Some.header
    c.requires.reading.part c.requires.some c.requires.open (omega (arith, deep, c.len.ensures, c.if-len-eq-MOST_DEPTH.false)) (bytes ∙ sym (front_is c.args.begun.now c.args.input.now.items none)) c.in_ok-header.ensures c.in-Some.is in
    reading_after _ c.nothing.result c.advance.new.self.items _ _ _ taken.part c.push_reserved.ensures.items refl
    (c.push_reserved-2.ensures.items ∙ ap (λ (ns : List _). ns ++ (c.args.self.now.left - 1) ∷ []) c.reserve.ensures.items) c.nothing.ensures.len (fresh c.nothing.result _ c.nothing.ensures.len c.nothing.ensures.scanned)

pub returns-clause-kept : goal.returns-clause-kept
returns-clause-kept c =
    let none = none_in_front c.args.begun.now c.args.input.now.items c.requires.begins in
    let bytes : c.as_slice.result.now ≡ c.args.input.now.items = search rules in
    let deep = c.requires.reading.part.shallow in
    let front = front_is c.args.begun.now c.args.input.now.items none in
    let taken = inner_taken c.args.self.now.elements.items c.args.self.now.left c.args.self.now.outer.items c.as_slice.result.now (element_front c.args.begun.now c.args.input.now.items) c.in_ok-header.field-0 c.in-Some.header
    c.requires.reading.part c.requires.some c.requires.open (omega (arith, deep, c.len.ensures, c.if-len-eq-MOST_DEPTH.false)) (bytes ∙ sym front) c.in_ok-header.ensures c.in-Some.is in
    kept_after c.push_reserved.new.self.items _ c.args.self.now.elements.items c.nothing.result c.advance.new.self.items _ _ taken.kept c.push_reserved.ensures.items c.nothing.ensures.len
    (c.advance.ensures.items ∙ ap (drop c.in-Some.header.len) (sym front))

pub returns-clause-shrinks : goal.returns-clause-shrinks
returns-clause-shrinks c =
    let none = none_in_front c.args.begun.now c.args.input.now.items c.requires.begins in
    let bytes : c.as_slice.result.now ≡ c.args.input.now.items = search rules in
    let deep = c.requires.reading.part.shallow in
    let front = front_is c.args.begun.now c.args.input.now.items none in
    let taken = inner_taken c.args.self.now.elements.items c.args.self.now.left c.args.self.now.outer.items c.as_slice.result.now (element_front c.args.begun.now c.args.input.now.items) c.in_ok-header.field-0 c.in-Some.header
    c.requires.reading.part c.requires.some c.requires.open (omega (arith, deep, c.len.ensures, c.if-len-eq-MOST_DEPTH.false)) (bytes ∙ sym front) c.in_ok-header.ensures c.in-Some.is in
    shrinks_after c.nothing.result c.advance.new.self.items _ _ taken.shrinks c.nothing.ensures.len (c.advance.ensures.items ∙ ap (drop c.in-Some.header.len) (sym front))
