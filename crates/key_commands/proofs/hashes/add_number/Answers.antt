use Rattle.std.proofs.Common.{◌≡◌, [], ◌∷◌, IfOk, Some, Ok, Err, rules, to_z, of_z, w64, sym, ap, subst, ◌∙◌}
use Rattle.std.specs.Fmt.{signed_decimal}
use Rattle.std.specs.Option.{option_copied}
use Rattle.command_table.specs.declared.error_line.ErrorLine.TheVariants.{HashNotAnInteger}
use Rattle.hash.specs.Pairs.{fields_changed, value_of}
use Rattle.keyspace.proofs.Committed.{committed_values}
use Rattle.key_commands.proofs.Left.{sum_left, sum_refused}
use Rattle.keyspace.specs.Changes.{applied}
use Rattle.keyspace.specs.Commands.{Execution, taken_at}
use Rattle.keyspace.specs.Hashes.{fields_of, hash_left, known}
use Rattle.keyspace.specs.Plan.{committed}
use Rattle.keyspace.specs.Strings.{stored_number, sum_of}
use Rattle.resp_values.specs.declared.reply.Reply.TheVariants.{Integer}
use Rattle.key_commands.proofs.hashes.add_number.Goals as goal

pub returns-in-Err-sum_in : goal.returns-in-Err-sum_in
returns-in-Err-sum_in g c =
    let keyspace = g.S.Store.contents c.args.store.now in
    let fields = known (option_copied c.in-Ok.hash) in
    let found = ap fields_of (sym c.look.ensures) ∙ c.in-Ok.ensures.ok in
    let sum : sum_of (Some c.args.increment) (stored_number HashNotAnInteger (value_of fields c.args.field.now)) ≡ Err c.in-Err-sum_in.fault = search rules in
    (λ i. record { reply = c.reply-in-Err-sum_in.ensures i; after = committed_values keyspace c.args.plan.now c.requires i })
    ∙ sym (sum_refused (applied keyspace c.args.plan.now.values) c.args.key.now c.args.field.now c.args.increment fields found c.in-Err-sum_in.fault sum)

pub returns : goal.returns
returns g c =
    let keyspace = g.S.Store.contents c.args.store.now in
    let before = applied keyspace c.args.plan.now.values in
    let key = c.args.key.now in
    let field = c.args.field.now in
    let fields = known (option_copied c.in-Ok.hash) in
    let found = ap fields_of (sym c.look.ensures) ∙ c.in-Ok.ensures.ok in
    let sum : sum_of (Some c.args.increment) (stored_number HashNotAnInteger (value_of fields field)) ≡ Ok c.in-Ok-sum_in.sum = search rules in
    let text : c.in_ok-text_of.field-0 ≡ signed_decimal c.in-Ok-sum_in.sum = search rules in
    let back : to_z w64 (of_z w64 c.in-Ok-sum_in.sum) ≡ c.in-Ok-sum_in.sum = search rules in
    let same =
    ap (λ made. taken_at before (key ∷ []) (hash_left (Integer (to_z w64 (of_z w64 c.in-Ok-sum_in.sum))) key (fields_changed fields ((field, Some made) ∷ [])))) text
    ∙ ap (λ n. taken_at before (key ∷ []) (hash_left (Integer n) key (fields_changed fields ((field, Some (signed_decimal c.in-Ok-sum_in.sum)) ∷ [])))) back
    ∙ sym (sum_left before key field c.args.increment fields found c.in-Ok-sum_in.sum sum) in
    subst (λ (execution : Execution). IfOk c.leave.result (λ reply. record { reply = reply; after = committed keyspace c.leave.new.plan } ≡ execution)) same
    (c.leave.ensures keyspace fields _ _ found c.in_ok-change.ensures)
