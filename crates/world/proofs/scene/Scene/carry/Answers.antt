use Rattle.std.proofs.Common.{◌≡◌, ◌<◌, Some, length, refl, subst, sym}
use Rattle.std.specs.Prelude.{slice_get}
use Rattle.std.proofs.lemmas.Option.{slice_get_read}
use Rattle.world.specs.Asking.{KeepsRule}
use Rattle.world.specs.View.{SceneView}
use Rattle.world.proofs.Rule.{may_carry}
use Rattle.world.proofs.scene.Scene.carry.Goals as goal

pub carry-requires-clause-asks : goal.carry-requires-clause-asks
carry-requires-clause-asks c =
    let inside : SceneView = record { config = c.self.inside.config; run = c.self.inside.run; clients = c.self.inside.clients.items } in
    let within : c.in-Some.place < length c.self.inside.clients.items = subst (λ (scene : SceneView). c.in-Some.place < length scene.clients) (sym c.self.view_is) c.in-Some.ensures.place.1 in
    let was : slice_get c.self.inside.clients.items c.in-Some.place ≡ Some c.index_mut.result.now =
    slice_get_read c.self.inside.clients.items (length c.self.inside.clients.items) c.in-Some.place c.index_mut.result.now refl within c.index_mut.ensures.value in
    may_carry inside (subst KeepsRule (sym c.self.view_is) c.requires.rule) c.in-Some.place c.index_mut.result.now was
