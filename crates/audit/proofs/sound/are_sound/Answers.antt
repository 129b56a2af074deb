use Rattle.std.proofs.Common.{rules, ◌≡◌, ◌∙◌, [], subst, All}
use Rattle.std.proofs.lemmas.List.{get_or_default}
use Rattle.std.specs.Prelude.{slice_index_or}
use Rattle.audit.specs.Merge.{IsSound, journal_of}
use Rattle.audit.proofs.sound.are_sound.Goals as goal

pub returns-then-not-is_sound_in-clause-unsound : goal.returns-then-not-is_sound_in-clause-unsound
returns-then-not-is_sound_in-clause-unsound c _ all =
    let at : slice_index_or c.args.journals.now c.loop-node.node c.entries.result.now ≡ c.entries.result.now = search rules in
    let same : journal_of c.args.journals.now c.loop-node.node ≡ c.entries.result.now = get_or_default c.args.journals.now c.loop-node.node [] c.entries.result.now (search rules) ∙ at in
    c.is_sound_in.ensures.unsound (search rules) (subst (All (IsSound c.args.journals.now)) same (all c.loop-node.node (search rules)))
