use Rattle.std.proofs.Common.{vec_len}
use Rattle.cli_text.proofs.reply_text.pass.Given as goal

abbrev pub decreases-levels : goal.decreases-levels
decreases-levels l = vec_len l.levels
