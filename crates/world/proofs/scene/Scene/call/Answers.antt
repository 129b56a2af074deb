use Rattle.std.proofs.Common.{◌≡◌, ◌<◌, length, Some, All, sym, subst, refl, set}
use Rattle.std.specs.Prelude.{slice_get}
use Rattle.std.proofs.lemmas.List.Elements.{All-set}
use Rattle.std.proofs.lemmas.Option.{slice_get_read}
use Rattle.world.specs.Clients.{IsSettled}
use Rattle.world.specs.View.{SceneView}
use Rattle.world.proofs.Scenes.{begun_is, if_more, on_both}
use Rattle.world.proofs.scene.Scene.call.Goals as goal

pub returns-clause-whole : goal.returns-clause-whole
returns-clause-whole c =
    let old : All IsSettled c.self.inside.clients.items = subst (λ (scene : SceneView). All IsSettled scene.clients) (sym c.self.view_is) c.in_ok-place.ensures.settled in
    on_both c.call.result
    (λ remembers settled. record { remembers = remembers; settled = All-set IsSettled c.self.inside.clients.items c.in_ok-place.place c.call.new.self settled old }) c.call.ensures.remembers
    c.call.ensures.settled

pub returns-clause-plays : goal.returns-clause-plays
returns-clause-plays c =
    let inside : SceneView = record { config = c.self.inside.config; run = c.self.inside.run; clients = c.self.inside.clients.items } in
    let new : SceneView = record inside { run = c.call.new.run; clients = set c.self.inside.clients.items c.in_ok-place.place c.call.new.self } in
    let within : c.in_ok-place.place < length c.self.inside.clients.items = subst (λ (scene : SceneView). c.in_ok-place.place < length scene.clients) (sym c.self.view_is) c.in_ok-place.ensures.place.1 in
    let was : slice_get c.self.inside.clients.items c.in_ok-place.place ≡ Some c.index_mut.result.now =
    slice_get_read c.self.inside.clients.items (length c.self.inside.clients.items) c.in_ok-place.place c.index_mut.result.now refl within c.index_mut.ensures.value in
    if_more c.call.result
    (λ outputs begins. begun_is c.args.words.now inside c.begin.new.self c.args.self.now new c.args.number c.in_ok-place.place c.index_mut.result.now c.call.new.self c.call.new.run outputs.items c.self.view_is
    c.in_ok-place.ensures.run c.in_ok-place.ensures.clients (c.in_ok-place.ensures.place.0) was begins refl)
    c.call.ensures.begins
