use Rattle.std.proofs.Common.{All, subst, sym}
use Rattle.world.specs.Clients.{IsSettled}
use Rattle.world.specs.View.{SceneView}
use Rattle.world.proofs.Scenes.{on_both}
use Rattle.world.proofs.scene.Scene.play.Goals as goal

pub returns-in-Tick-clause-whole : goal.returns-in-Tick-clause-whole
returns-in-Tick-clause-whole c =
    let settled : All IsSettled c.self-in-Tick.inside.clients.items = subst (λ (scene : SceneView). All IsSettled scene.clients) (sym c.self-in-Tick.view_is) c.requires.whole.settled in
    on_both c.tick.result (λ remembers again. record { remembers = remembers; settled = settled }) c.tick.ensures.remembers c.tick.ensures.remembers
