use Rattle.one_master.proofs.Worlds as worlds
use Rattle.one_master.proofs.law.no_epoch_has_two_masters.Goals as goal

pub returns : goal.returns
returns c = worlds.law
