use Rattle.std.specs.Prelude.{length}
use Rattle.tickets.specs.Tickets.{id_of}
use Rattle.serving.proofs.serving.serve_for.Given as goal

-- the cluster that runs is the one of the configuration and of the seats
abbrev pub ghosts-run_for : goal.ghosts-run_for
ghosts-run_for g a = record { config = a.config.now; table = id_of a.table.now; seats = length a.config.now.nodes }

abbrev pub ghosts-run_behind : goal.ghosts-run_behind
ghosts-run_behind g a = record { config = a.config.now; table = id_of a.table.now; seats = length a.config.now.nodes }
