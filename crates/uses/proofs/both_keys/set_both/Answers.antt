use Rattle.std.proofs.Common.{ap, ◌∙◌}
use Rattle.std.specs.FinMap as map
use Rattle.keyspace.specs.Keyspace.{Keyspace}
use Rattle.uses.proofs.KeyLemmas.{get_set, get_first, get_third, put_words}
use Rattle.uses.proofs.OutcomeLemmas.{on_ok}
use Rattle.uses.proofs.both_keys.set_both.Goals as goal

pub returns-clause-first : goal.returns-clause-first
returns-clause-first g c =
    on_ok c.commit.result c.commit.ensures.ok (λ made apart.
    ap (λ (m : Keyspace). map.get m c.args.first.now.0) (made ∙ c.in_ok-_replies.ensures.after ∙ put_words _ _ _ _ _ _ _ _ _ c.new.ensures c.new-2.ensures c.new-3.ensures c.new-4.ensures) ∙ get_first _ _ _ _ _ apart)

pub returns-clause-second : goal.returns-clause-second
returns-clause-second g c =
    on_ok c.commit.result c.commit.ensures.ok (λ made.
    ap (λ (m : Keyspace). map.get m c.args.second.now.0) (made ∙ c.in_ok-_replies.ensures.after ∙ put_words _ _ _ _ _ _ _ _ _ c.new.ensures c.new-2.ensures c.new-3.ensures c.new-4.ensures) ∙ get_set _ _ _)

pub returns-clause-others : goal.returns-clause-others
returns-clause-others g c =
    on_ok c.commit.result c.commit.ensures.ok (λ made key one two.
    ap (λ (m : Keyspace). map.get m key) (made ∙ c.in_ok-_replies.ensures.after ∙ put_words _ _ _ _ _ _ _ _ _ c.new.ensures c.new-2.ensures c.new-3.ensures c.new-4.ensures) ∙ get_third _ _ _ _ _ key one two)
