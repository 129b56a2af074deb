-- What a cell keeps until somebody takes it: replies to connections that waited, and messages.
use Rattle.std.specs.Prelude.{List, Bool, ◌++◌}
use Rattle.std.specs.List.{flat_map, list_any}
use Rattle.connections.specs.declared.conn.Conn.{Conn}
use Rattle.node_step.specs.Released.{is_for, of_others}
use Rattle.node_step.specs.declared.event.Event.{Event}
use Rattle.node_step.specs.declared.event.Event.TheVariants.{Close}
use Rattle.node_step.specs.declared.outputs.Release.{Release}

-- those of all steps, one step after another
abbrev pub joined : {A : Type 0} → List (List A) → List A
joined parts = flat_map (λ part. part) parts

-- one of the replies is for the connection
abbrev pub has_for : Conn → List Release → Bool
has_for conn releases = list_any (is_for conn) releases

-- the replies that wait after a step: a connection that is closed gets nothing any more
abbrev pub undelivered_after : Event → List Release → List Release → List Release
undelivered_after (Close conn) undelivered released = of_others conn undelivered ++ released
undelivered_after _ undelivered released = undelivered ++ released
