-- What a run of calls of `next` gives, at an iterator that is seen as the pairs that are left to it.
use Rattle.std.proofs.Common.{ap, length}
use Rattle.std.proofs.iter.runs.Sources.{from_front, as_is}
use Rattle.std.specs.Map.{values_of}
use Rattle.std.specs.Map.Iter.{TakesFirst, ShowsInOrder, ShowsValuesInOrder, GivesInOrder}

shows_in_order : {A X : Type 0} (shows : A → X) → ShowsInOrder shows
shows_in_order shows = from_front (TakesFirst shows) shows (λ s. s) (λ s t h. ap length h.0) (λ s x t h. h)

pub gives_in_order : {X : Type 0} → GivesInOrder X
gives_in_order {X} p s = as_is p p.from (shows_in_order (λ (x : X). x) p s)

pub shows_values_in_order : {A K X : Type 0} (shows : A → K × X) → ShowsValuesInOrder shows
shows_values_in_order shows = from_front (TakesFirst shows) (λ x. (shows x).1) values_of (λ s t h. ap (λ l. length (values_of l)) h.0) (λ s x t h. ap values_of h)
