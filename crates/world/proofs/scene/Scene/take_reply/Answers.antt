use Rattle.std.proofs.Common.{rules, ◌≡◌, ◌<◌, length, Some, All, sym, subst, refl, set}
use Rattle.std.specs.Prelude.{IfOk, slice_get}
use Rattle.std.proofs.lemmas.List.Elements.{All-set}
use Rattle.std.proofs.lemmas.Option.{slice_get_read}
use Rattle.world.specs.Calls.{Returns}
use Rattle.world.specs.Clients.{IsSettled, client_at, place_of}
use Rattle.world.specs.Plays.{Plays}
use Rattle.world.specs.View.{SceneView}
use Rattle.world.specs.declared.step.Step.TheVariants as step
use Rattle.world.proofs.Scenes.{if_more, is_of, on_both}
use Rattle.world.proofs.scene.Scene.take_reply.Goals as goal

pub returns-clause-whole : goal.returns-clause-whole
returns-clause-whole c =
    let old : All IsSettled c.self.inside.clients.items = subst (λ (scene : SceneView). All IsSettled scene.clients) (sym c.self.view_is) c.requires.settled in
    on_both c.take_reply.result
    (λ remembers settled. record { remembers = remembers; settled = All-set IsSettled c.self.inside.clients.items c.in-Some.place c.take_reply.new.self settled old }) c.take_reply.ensures.remembers
    c.take_reply.ensures.settled

pub returns-clause-plays : goal.returns-clause-plays
returns-clause-plays c =
    let inside : SceneView = record { config = c.self.inside.config; run = c.self.inside.run; clients = c.self.inside.clients.items } in
    let new : SceneView = record inside { run = c.take_reply.new.run; clients = set c.self.inside.clients.items c.in-Some.place c.take_reply.new.self } in
    let within : c.in-Some.place < length c.self.inside.clients.items = subst (λ (scene : SceneView). c.in-Some.place < length scene.clients) (sym c.self.view_is) c.in-Some.ensures.place.1 in
    let was : slice_get c.self.inside.clients.items c.in-Some.place ≡ Some c.index_mut.result.now =
    slice_get_read c.self.inside.clients.items (length c.self.inside.clients.items) c.in-Some.place c.index_mut.result.now refl within c.index_mut.ensures.value in
    let at : c.in-Some.place ≡ place_of c.args.number inside.clients = search rules in
    let found : client_at c.args.number inside.clients ≡ slice_get inside.clients c.in-Some.place = search rules in
    subst (λ (scene : SceneView). IfOk c.take_reply.result (λ outputs. Plays scene (step.Return c.args.number) outputs.items new)) c.self.view_is
    (if_more c.take_reply.result
    (λ outputs returns. is_of (Returns c.self.inside.config.nodes) inside new c.args.number c.in-Some.place c.index_mut.result.now c.take_reply.new.self c.take_reply.new.run outputs.items at found was returns refl)
    c.take_reply.ensures.returns)
