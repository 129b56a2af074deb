use Rattle.link_ends.specs.Ends.{links_by}
use Rattle.serving.proofs.serving.run_behind.Given as goal

-- the links that are used are those of these ends
abbrev pub ghosts-audit_for : goal.ghosts-audit_for
ghosts-audit_for g a = record { links = links_by a.ends.items }
