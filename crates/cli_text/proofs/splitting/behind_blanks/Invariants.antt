use Rattle.std.proofs.Common.{◌≤◌, length}
use Rattle.cli_text.proofs.splitting.behind_blanks.Given as goal

abbrev pub invariant-blanks : goal.invariant-blanks
invariant-blanks l = length l.rest ≤ length l.text

abbrev pub decreases-blanks : goal.decreases-blanks
decreases-blanks l = length l.rest
