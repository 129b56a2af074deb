use Rattle.std.proofs.Common.{rules}
use Rattle.key_commands.proofs.Counting.{sum_is_left}
use Rattle.key_commands.proofs.strings.add.Goals as goal

pub returns-in-Ok : goal.returns-in-Ok
returns-in-Ok g c = sum_is_left _ _ _ _ _ _ _ _ c.look.ensures (search rules) c.put_number.ensures.reply c.put_number.ensures.after
