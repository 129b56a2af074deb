use Rattle.std.proofs.Common.{ℕ, List, subst, sym, take}
use Rattle.resp_values.specs.Request.{IsRequest}
use Rattle.resharder.specs.Orders.{migrate_words}
use Rattle.resharder.proofs.migration.Migration.new.Goals as goal

pub invariant_of-result : goal.invariant_of-result
invariant_of-result c =
    let count = c.count_at_once-count.result in
    let named : IsRequest (migrate_words c.args.to (take count c.args.keys)) =
    subst (λ (keys : List (List ℕ)). IsRequest (migrate_words c.args.to (take count keys))) c.as_slice.ensures c.count_at_once-count.ensures.request in
    subst (λ (keys : List (List ℕ)). IsRequest (migrate_words c.args.to keys)) (sym c.truncate.ensures) named
