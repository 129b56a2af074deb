-- Replies to connections that waited, as long as they are kept (ours).
use Rattle.std.specs.Prelude.{◌∷◌, ◌&&◌, ◌==◌, Bool, not, List, [], Option, Some, None, if◌then◌else◌}
use Rattle.std.specs.List.{filter}
use Rattle.resp_values.specs.declared.reply.Reply.{Reply}
use Rattle.connections.specs.declared.conn.Conn.{Conn}
use Rattle.node_step.specs.declared.outputs.Release.{Release}

-- the reply is for the connection
abbrev pub is_for : Conn → Release → Bool
is_for conn release = release.conn.key == conn.key && release.conn.generation == conn.generation

-- the first reply to the connection
abbrev pub reply_to : Conn → List Release → Option Reply
reply_to conn [] = None
reply_to conn (release ∷ releases) = if is_for conn release then Some release.reply else reply_to conn releases

-- what is left once it is taken
abbrev pub without_reply_to : Conn → List Release → List Release
without_reply_to conn [] = []
without_reply_to conn (release ∷ releases) = if is_for conn release then releases else release ∷ without_reply_to conn releases

-- what is left once the connection is closed
abbrev pub of_others : Conn → List Release → List Release
of_others conn releases = filter (λ release. not (is_for conn release)) releases
