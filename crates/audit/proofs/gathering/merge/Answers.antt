use Rattle.std.proofs.Common.{◌≡◌, refl, sym, subst}
use Rattle.cluster_config.specs.Config.{ClusterConfig}
use Rattle.audit.specs.Merge.{AllAreSound, AreJournals, merged}
use Rattle.audit.proofs.TakenApart.{are_journals, gathered, unsound}
use Rattle.audit.proofs.gathering.merge.Goals as goal

pub new-requires : goal.new-requires
new-requires g c =
    let taken = c.requires.taken.1 in
    subst (λ (config : ClusterConfig). AreJournals config c.in-Some.tickets c.args.taken.journals.items) (sym c.requires.config)
    (are_journals _ _ _ _ _ _ _ taken refl c.in-Some.tickets c.in-Some.ensures.each_once (subst AllAreSound c.as_slice.ensures.value (c.are_sound.ensures.sound c.if-are_sound.true)))

pub returns-then-are_sound-clause-run : goal.returns-then-are_sound-clause-run
returns-then-are_sound-clause-run g c parts taken =
    gathered _ _ _ _ _ _ _ taken refl c.in-Some.tickets
    (are_journals _ _ _ _ _ _ _ taken refl c.in-Some.tickets c.in-Some.ensures.each_once (subst AllAreSound c.as_slice.ensures.value (c.are_sound.ensures.sound c.if-are_sound.true)))
    c.new.result (subst (λ (config : ClusterConfig). c.new.result ≡ record { config = config; entries = merged c.in-Some.tickets c.args.taken.journals.items }) c.requires.config c.new.ensures)

pub returns-else-are_sound-clause-stranger : goal.returns-else-are_sound-clause-stranger
returns-else-are_sound-clause-stranger g c _ parts taken =
    unsound _ _ _ _ _ _ _ taken refl (subst (λ journals. AllAreSound journals → ⊥) c.as_slice.ensures.value (c.are_sound.ensures.unsound c.if-are_sound.false))
