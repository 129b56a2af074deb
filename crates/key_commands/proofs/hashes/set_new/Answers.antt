use Rattle.std.proofs.Common.{◌≡◌, [], ◌∷◌, IfOk, false, rules, sym, ap, subst, ◌∙◌}
use Rattle.std.specs.FinMap as map
use Rattle.std.specs.Option.{option_copied}
use Rattle.std.specs.Prelude.{is_some}
use Rattle.hash.specs.Pairs.{value_of}
use Rattle.key_commands.proofs.Left.{hsetnx_left}
use Rattle.keyspace.specs.Changes.{applied}
use Rattle.keyspace.specs.Commands.{Execution, taken_at}
use Rattle.keyspace.specs.Hashes.{fields_of, hsetnx_of, known, on_fields}
use Rattle.keyspace.specs.Plan.{committed}
use Rattle.key_commands.proofs.hashes.set_new.Goals as goal

pub returns : goal.returns
returns g c =
    let keyspace = g.S.Store.contents c.args.store.now in
    let before = applied keyspace c.args.plan.now.values in
    let fields = known (option_copied c.in-Ok.hash) in
    let found = ap fields_of (sym c.look.ensures) ∙ c.in-Ok.ensures.ok in
    let missing : is_some (value_of fields c.args.field.now) ≡ false = search rules in
    let value : c.in_ok-clone.field-0 ≡ c.args.value.now = search rules in
    subst (λ (execution : Execution). IfOk c.leave.result (λ reply. record { reply = reply; after = committed keyspace c.leave.new.plan } ≡ execution))
    (hsetnx_left before c.args.key.now c.args.field.now c.in_ok-clone.field-0 fields found missing
    ∙ ap (λ v. taken_at before (c.args.key.now ∷ []) (on_fields (fields_of (map.get before c.args.key.now)) (hsetnx_of c.args.key.now c.args.field.now v))) value)
    (c.leave.ensures keyspace fields _ _ found c.in_ok-change.ensures)
