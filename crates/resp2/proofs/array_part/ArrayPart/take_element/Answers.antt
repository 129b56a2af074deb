use Rattle.std.proofs.Common.{◌∙◌, ◌++◌, ◌∷◌, [], List, sym, ap, refl}
use Rattle.std.proofs.lemmas.Result.{err_from_is_err_and}
use Rattle.resp2.specs.ReplyProgress.{element_front}
use Rattle.resp2.proofs.ArraySteps.{element_found, element_waits, kept_after, leaf_fails, leaf_taken, leaf_waits, next_none, reading_after, shrinks_after}
use Rattle.resp2.proofs.array_part.ArrayPart.take_element.Goals as goal

pub returns-in_err-element-clause-err : goal.returns-in_err-element-clause-err
returns-in_err-element-clause-err c =
    let fault = err_from_is_err_and c.from_residual-in_err-element.result c.from_residual-in_err-element.ensures.1 in
    rw (fault.1, fault.2)
    (leaf_fails _ c.args.self.now.left c.args.self.now.outer.items (element_front c.args.begun.now c.args.input.now.items) c.requires.open (sym c.begins_array.ensures ∙ c.if-begins_array.false) c.in_err-element.ensures.takes)

pub returns-in_default-clause-unfinished : goal.returns-in_default-clause-unfinished
returns-in_default-clause-unfinished c =
    leaf_waits c.args.self.now.left c.args.self.now.outer.items (element_front c.args.begun.now c.args.input.now.items) c.requires.open (sym c.begins_array.ensures ∙ c.if-begins_array.false)
    (element_waits c.in_ok-element.field-0 _ _ c.in_default.is c.in_ok-element.ensures.takes)

pub returns-clause-reading : goal.returns-clause-reading
returns-clause-reading c =
    let taken = leaf_taken c.args.self.now.elements.items c.args.self.now.left c.args.self.now.outer.items c.in-Some.element (element_front c.args.begun.now c.args.input.now.items) c.take_leaf.new.input.items
    c.requires.reading.part c.requires.some c.requires.open (element_found c.in_ok-element.field-0 c.in-Some.element _ _ c.in-Some.is c.in_ok-element.ensures.takes) in
    reading_after _ c.take_leaf.new.begun c.take_leaf.new.input.items _ _ _ taken.part
    (c.push_reserved.ensures.items ∙ ap (λ (es : List _). es ++ c.in-Some.element ∷ []) c.reserve.ensures.items) refl refl
    (next_none c.in_ok-element.field-0 c.in-Some.element _ c.in-Some.is c.in_ok-element.ensures.next) c.take_leaf.ensures.begun

pub returns-clause-kept : goal.returns-clause-kept
returns-clause-kept c =
    let taken = leaf_taken c.args.self.now.elements.items c.args.self.now.left c.args.self.now.outer.items c.in-Some.element (element_front c.args.begun.now c.args.input.now.items) c.take_leaf.new.input.items
    c.requires.reading.part c.requires.some c.requires.open (element_found c.in_ok-element.field-0 c.in-Some.element _ _ c.in-Some.is c.in_ok-element.ensures.takes) in
    kept_after c.push_reserved.new.self.items _ c.args.self.now.elements.items c.take_leaf.new.begun c.take_leaf.new.input.items _ _ taken.kept
    (c.push_reserved.ensures.items ∙ ap (λ (es : List _). es ++ c.in-Some.element ∷ []) c.reserve.ensures.items)
    (next_none c.in_ok-element.field-0 c.in-Some.element _ c.in-Some.is c.in_ok-element.ensures.next) refl

pub returns-clause-shrinks : goal.returns-clause-shrinks
returns-clause-shrinks c =
    let taken = leaf_taken c.args.self.now.elements.items c.args.self.now.left c.args.self.now.outer.items c.in-Some.element (element_front c.args.begun.now c.args.input.now.items) c.take_leaf.new.input.items
    c.requires.reading.part c.requires.some c.requires.open (element_found c.in_ok-element.field-0 c.in-Some.element _ _ c.in-Some.is c.in_ok-element.ensures.takes) in
    shrinks_after c.take_leaf.new.begun c.take_leaf.new.input.items _ _ taken.shrinks (next_none c.in_ok-element.field-0 c.in-Some.element _ c.in-Some.is c.in_ok-element.ensures.next) refl
