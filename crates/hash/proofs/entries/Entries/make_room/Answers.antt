use Rattle.std.proofs.Common.{◌≡◌, count_by, sym, ap, subst, ◌∙◌, vec_capacity, arith}
use Rattle.hash.specs.Entries.{pairs_of, is_new, FitsIn}
use Rattle.hash.specs.Pairs.{Pairs, HasDistinctFields}
use Rattle.hash.specs.declared.entries.Entries.{Entries}
use Rattle.hash.proofs.RoomLemmas.{fits_new}
use Rattle.hash.proofs.entries.Entries.make_room.Goals as goal

pub returns-then-saturating_add-le-MOST_FEW-clause-ready : goal.returns-then-saturating_add-le-MOST_FEW-clause-ready
returns-then-saturating_add-le-MOST_FEW-clause-ready c =
    let room = vec_capacity c.reserve_exact.new.self in
    let pairs = c.in-Few.pairs.items in
    let changes = c.args.changes.now in
    let count : c.count_new-new.result ≡ count_by (is_new pairs) changes = c.count_new-new.ensures ∙ ap (λ (p : Pairs). count_by (is_new p) changes) c.as_slice.ensures.value in
    let distinct : HasDistinctFields pairs = subst (λ (entries : Entries). HasDistinctFields (pairs_of entries)) c.in-Few.is c.requires in
    let long = c.in-Few.pairs.ok.0 in
    subst (λ (p : Pairs). FitsIn room p changes) (sym c.reserve_exact.ensures.items)
    (fits_new room pairs changes distinct (omega (arith, count, long, c.reserve_exact.ensures.len, c.in_ok-reserve_exact-in-Few.ensures.ok)))
