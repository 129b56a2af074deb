use Rattle.std.proofs.Common.{◌∙◌, sym, subst, rules}
use Rattle.key_slot.specs.HashTag.{hash_tag, IsTagOf}
use Rattle.key_slot.proofs.TagLemmas.{IsTagOf-hash_tag, hash_tag-only}
use Rattle.key_slot.proofs.hash_slot.tag.Goals as goal

pub returns-clause-value : goal.returns-clause-value
unfolding hash_tag
returns-clause-value c = search rules

pub returns-clause-tag : goal.returns-clause-tag
returns-clause-tag c = subst (λ t. IsTagOf c.args.key.now t) (sym (returns-clause-value c)) (IsTagOf-hash_tag c.args.key.now)

pub returns-clause-only : goal.returns-clause-only
returns-clause-only c other is = hash_tag-only c.args.key.now other is ∙ sym (returns-clause-value c)
