use Rattle.std.proofs.Common.{◌∷◌, Some, subst, vec_capacity}
use Rattle.hash.specs.Entries.{IsReadyFor}
use Rattle.hash.specs.declared.entries.Entries.{Entries}
use Rattle.hash.proofs.RoomLemmas.{fits_next}
use Rattle.hash.proofs.entries.Entries.set.Goals as goal

pub returns-in-Few-clause-ready : goal.returns-in-Few-clause-ready
returns-in-Few-clause-ready c = λ changes fits.
    fits_next (vec_capacity c.in-Few.pairs) _ c.in-Few.pairs.items _ c.args.field (Some c.args.value) changes c.set.ensures.capacity c.set.ensures.pairs
    (subst (λ (entries : Entries). IsReadyFor entries ((c.args.field, Some c.args.value) ∷ changes)) c.in-Few.is fits)
