use Rattle.std.proofs.Common.{refl, ap, sym, ◌∙◌}
use Rattle.std.specs.Prelude.{Some}
use Rattle.std.proofs.lemmas.Option.{slice_get-get_or}
use Rattle.world_nodes.proofs.Going.{made_at, skipped_at}
use Rattle.world_nodes.proofs.run.step_at.Goals as goal

pub returns-in-Ok-Some-clause-made : goal.returns-in-Ok-Some-clause-made
returns-in-Ok-Some-clause-made c =
    let steps = rw c.in-Ok-Some.field-0-is at c.in-Ok-Some.ensures.made in
    made_at c.args.entries.now c.args.nodes.now.items c.args.node c.args.event.now c.in-Ok-Some.outputs c.step.new.self _ c.index_mut.result.now c.step.new.core
    (slice_get-get_or c.args.nodes.now.items c.args.node c.index_mut.result.now c.requires.there ∙ ap Some (sym c.index_mut.ensures.value)) c.requires.may steps refl

pub returns-in-Ok-None-clause-skipped : goal.returns-in-Ok-None-clause-skipped
returns-in-Ok-None-clause-skipped c =
    let steps = rw c.in-Ok-None.field-0-is at c.in-Ok-None.ensures.skipped in
    let why = rw c.in-Ok-None.field-0-is at c.in-Ok-None.ensures.number in
    skipped_at c.args.entries.now c.args.nodes.now.items c.args.node c.args.event.now c.step.new.self _ c.index_mut.result.now c.step.new.core
    (slice_get-get_or c.args.nodes.now.items c.args.node c.index_mut.result.now c.requires.there ∙ ap Some (sym c.index_mut.ensures.value)) why steps refl
