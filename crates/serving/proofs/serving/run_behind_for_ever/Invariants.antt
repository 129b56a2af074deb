use Rattle.link_ends.specs.Ends.{links_by}
use Rattle.serving.proofs.serving.run_behind_for_ever.Given as goal

-- the links that are used are those of these ends
abbrev pub ghosts-run_linked : goal.ghosts-run_linked
ghosts-run_linked g a = record { links = links_by a.ends.items }
