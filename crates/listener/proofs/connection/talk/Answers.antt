use Rattle.std.proofs.Common.{[], refl}
use Rattle.listener.specs.Conversation.IsUnopened.{no_room}
use Rattle.listener.proofs.HistoryLemmas.{adds_nothing}
use Rattle.listener.proofs.TalkLemmas.{leaves_unopened, leaves_opened}
use Rattle.listener.proofs.connection.talk.Goals as goal

pub returns-in_default : goal.returns-in_default
returns-in_default g c =
    rw (c.refused.ensures.ended, c.refused.ensures.waits)
    (leaves_unopened _ _ _ _ _ (record { asks = []; history = adds_nothing _ _; why = no_room refl refl }))

pub returns-in-Err : goal.returns-in-Err
returns-in-Err g c =
    rw (c.refused-in-Err.ensures.ended, c.refused-in-Err.ensures.waits) (leaves_unopened _ _ _ _ _ c.in-Err.ensures.refused)

pub returns : goal.returns
returns g c =
    leaves_opened _ _ _ _ _ _ _ _ _ _ _ _ _ c.in-Ok-begin.ensures.opened
    (rw (c.in-Ok-begin.ensures.unread.0, c.in-Ok-begin.ensures.empty) at c.converse-ended.ensures.stops)
    (rw c.converse-ended.ensures.same at c.end.ensures.closed) c.end.ensures.waits
