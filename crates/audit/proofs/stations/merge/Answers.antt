use Rattle.std.proofs.Common.{◌≡◌, refl, sym, subst}
use Rattle.cluster_config.specs.Config.{ClusterConfig}
use Rattle.audit.specs.Merge.{AreJournals, merged}
use Rattle.audit.proofs.TakenApart.{are_journals, gathered}
use Rattle.audit.proofs.stations.merge.Goals as goal

pub new-requires : goal.new-requires
new-requires g c =
    let taken = c.requires.taken.1 in
    subst (λ (config : ClusterConfig). AreJournals config c.in-Some.tickets c.args.taken.journals.items) (sym c.requires.config)
    (are_journals _ _ _ _ _ _ _ taken refl c.in-Some.tickets c.in-Some.ensures.each_once c.requires.sound)

pub returns : goal.returns
returns g c parts taken =
    gathered _ _ _ _ _ _ _ taken refl c.in-Some.tickets (are_journals _ _ _ _ _ _ _ taken refl c.in-Some.tickets c.in-Some.ensures.each_once c.requires.sound)
    c.new.result (subst (λ (config : ClusterConfig). c.new.result ≡ record { config = config; entries = merged c.in-Some.tickets c.args.taken.journals.items }) c.requires.config c.new.ensures)
