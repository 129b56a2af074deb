use Rattle.std.proofs.Common.{rules, ◌≡◌, [], ◌∷◌, position, length-append, length, Some, None, sym, ap, ◌∙◌, arith}
use Rattle.hash.specs.Entries.{is_of}
use Rattle.hash.proofs.PlaceLemmas.{missing_from, stands_at}
use Rattle.hash.proofs.few.set.Goals as goal

pub append-requires : goal.append-requires
append-requires c =
    let none : position (is_of c.args.field) c.args.pairs.now.items ≡ None = search rules in
    let last = (missing_from c.args.pairs.now.items c.args.field none).put_last c.args.value in
    omega (arith, c.requires, ap length last, length-append c.args.pairs.now.items ((c.args.field, c.args.value) ∷ []))

pub returns-in-Some-clause-old : goal.returns-in-Some-clause-old
returns-in-Some-clause-old c =
    let there : position (is_of c.args.field) c.args.pairs.now.items ≡ Some c.in-Some.place = search rules in
    ap Some c.replace_at.ensures.old ∙ sym (stands_at c.args.pairs.now.items c.args.field c.in-Some.place ([], c.replace_at.result) there).value

pub returns-in-Some-clause-pairs : goal.returns-in-Some-clause-pairs
returns-in-Some-clause-pairs c =
    let there : position (is_of c.args.field) c.args.pairs.now.items ≡ Some c.in-Some.place = search rules in
    c.replace_at.ensures.pairs ∙ sym ((stands_at c.args.pairs.now.items c.args.field c.in-Some.place ([], c.args.value) there).set_there c.args.value)

pub returns-in-None-clause-old : goal.returns-in-None-clause-old
returns-in-None-clause-old c =
    let none : position (is_of c.args.field) c.args.pairs.now.items ≡ None = search rules in
    sym (missing_from c.args.pairs.now.items c.args.field none).value

pub returns-in-None-clause-pairs : goal.returns-in-None-clause-pairs
returns-in-None-clause-pairs c =
    let none : position (is_of c.args.field) c.args.pairs.now.items ≡ None = search rules in
    c.append.ensures.pairs ∙ sym ((missing_from c.args.pairs.now.items c.args.field none).put_last c.args.value)
