use Rattle.std.specs.Prelude.{length}
use Rattle.tickets.specs.Tickets.{id_of}
use Rattle.serving.proofs.serving.serve.Given as goal

-- the cluster that runs is the one of the configuration and of the seats
abbrev pub ghosts-run_for_ever : goal.ghosts-run_for_ever
ghosts-run_for_ever g a = record { config = a.config.now; table = id_of a._table.now; seats = length a.config.now.nodes }

abbrev pub ghosts-run_behind_for_ever : goal.ghosts-run_behind_for_ever
ghosts-run_behind_for_ever g a = record { config = a.config.now; table = id_of a._table.now; seats = length a.config.now.nodes }
