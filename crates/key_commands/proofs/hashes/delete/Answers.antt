use Rattle.std.proofs.Common.{sym, ap, ◌∙◌}
use Rattle.std.specs.Option.{option_copied}
use Rattle.key_commands.proofs.Left.{hdel_left}
use Rattle.keyspace.specs.Changes.{applied}
use Rattle.keyspace.specs.Hashes.{fields_of, known}
use Rattle.key_commands.proofs.hashes.delete.Goals as goal

pub returns : goal.returns
returns g c =
    let keyspace = g.S.Store.contents c.args.store.now in
    let before = applied keyspace c.args.plan.now.values in
    let fields = known (option_copied c.in-Ok.hash) in
    let found = ap fields_of (sym c.look.ensures) ∙ c.in-Ok.ensures.ok in
    hdel_left before c.args.key.now c.args.fields.now fields c.in_ok-removals.removals _ _ _ found
    (c.in_ok-removals.ensures.same fields c.count_removed-count.ensures.distinct) c.count_removed-count.ensures.count (c.in_ok-change_fields.ensures keyspace) c.integer.ensures
