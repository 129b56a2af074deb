use Rattle.std.proofs.Common.{rules, ◌≡◌, ◌∙◌, ◌++◌, ◌∷◌, [], List, drop, sym, ap, refl}
use Rattle.resp2.specs.ReplyProgress.{array_front, element_front}
use Rattle.resp_values.specs.declared.array.Element.TheVariants.{Array}
use Rattle.resp2.proofs.ArraySteps.{first_taken, fresh, front_is, kept_after, none_in_front, reading_after}
use Rattle.resp2.proofs.array_part.ArrayPart.begin.Goals as goal

pub returns-clause-reading : goal.returns-clause-reading
returns-clause-reading c =
    let none = none_in_front c.args.begun.now c.args.input.now.items c.requires.begins in
    let bytes : c.as_slice.result.now ≡ c.args.input.now.items = search rules in
    let taken = first_taken c.args.self.now.outer.items c.as_slice.result.now (element_front c.args.begun.now c.args.input.now.items) c.in_ok-header.field-0 c.in-Some.header
    (c.requires.reading.part.idle c.requires.none) (bytes ∙ sym (front_is c.args.begun.now c.args.input.now.items none)) c.in_ok-header.ensures c.in-Some.is in
    reading_after _ c.nothing.result c.advance.new.self.items _ _ _ taken.0
    (c.push_reserved.ensures.items ∙ ap (λ (es : List _). es ++ Array c.in-Some.header.number ∷ []) (c.reserve.ensures.items ∙ c.requires.none)) refl refl
    c.nothing.ensures.len (fresh c.nothing.result _ c.nothing.ensures.len c.nothing.ensures.scanned)

pub returns-clause-kept : goal.returns-clause-kept
returns-clause-kept c =
    let none = none_in_front c.args.begun.now c.args.input.now.items c.requires.begins in
    let bytes : c.as_slice.result.now ≡ c.args.input.now.items = search rules in
    let front = front_is c.args.begun.now c.args.input.now.items none in
    let taken = first_taken c.args.self.now.outer.items c.as_slice.result.now (element_front c.args.begun.now c.args.input.now.items) c.in_ok-header.field-0 c.in-Some.header
    (c.requires.reading.part.idle c.requires.none) (bytes ∙ sym front) c.in_ok-header.ensures c.in-Some.is in
    kept_after c.push_reserved.new.self.items _ [] c.nothing.result c.advance.new.self.items _ (element_front c.args.begun.now c.args.input.now.items) taken.1
    (c.push_reserved.ensures.items ∙ ap (λ (es : List _). es ++ Array c.in-Some.header.number ∷ []) (c.reserve.ensures.items ∙ c.requires.none)) c.nothing.ensures.len
    (c.advance.ensures.items ∙ ap (drop c.in-Some.header.len) (sym front))
    ∙ ap (λ (es : List _). array_front es (element_front c.args.begun.now c.args.input.now.items)) (sym c.requires.none)
