use Rattle.std.proofs.Common.{◌<◌, ◌++◌, [], ◌∷◌, length, take, ap, sym, ◌∙◌, arith}
use Rattle.std.proofs.lemmas.List.{take_more}
use Rattle.hash.specs.Pairs.{fields_changed}
use Rattle.keyspace.specs.Hashes.{removals}
use Rattle.keyspace.proofs.RemovedFields.{each_of, once_more}
use Rattle.keyspace.proofs.planned_fields.removals_once.Goals as goal

pub loop-field-preserved : goal.loop-field-preserved
loop-field-preserved c =
    let fields = c.args.fields.now in
    let i = c.loop-field.field-index in
    let field = c.field-item.result in
    let within : i < length fields = omega arith in
    let one_more = take_more fields i field within ∙ ap (λ x. take i fields ++ x ∷ []) (sym c.field-item.is) in
    record {
      made = c.in_ok-name.ensures.removed;
      distinct = c.in_ok-name.ensures.distinct;
      same = λ pairs distinct.
          ap (λ names. fields_changed pairs (removals names)) c.in_ok-name.ensures.named
          ∙ once_more c.loop-field.named.keys (take i fields) field c.loop-field.invariant.same pairs distinct
          ∙ ap (λ names. fields_changed pairs (removals names)) (sym one_more);
    }

pub returns-clause-each : goal.returns-clause-each
returns-clause-each c = each_of _ _ c.loop-field.invariant.made c.loop-field.invariant.distinct
