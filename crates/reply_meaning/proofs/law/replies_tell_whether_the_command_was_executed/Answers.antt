use Rattle.reply_meaning.proofs.Laws.{tell}
use Rattle.reply_meaning.proofs.law.replies_tell_whether_the_command_was_executed.Goals as goal

pub returns : goal.returns
returns c = tell
