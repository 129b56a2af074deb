use Rattle.std.proofs.Common.{rules, arith, ◌≡◌, ◌<◌, ◌≤◌, ◌∙◌, ap, sym, subst, refl, List, Option, None, All, ℕ, length}
use Rattle.std.specs.Prelude.{insert}
use Rattle.std.proofs.lemmas.List.Edits.{length-insert}
use Rattle.world.specs.Clients.{ClientView, IsSettled, begun_at, client_at, new_client, place_of}
use Rattle.world.specs.View.{SceneView}
use Rattle.world.proofs.Scenes.{All-insert}
use Rattle.world.proofs.scene.Scene.begin.Goals as goal

pub returns-in_err-insert-clause-run : goal.returns-in_err-insert-clause-run
returns-in_err-insert-clause-run c = ap (λ (scene : SceneView). record scene { clients = c.insert.new.self.items }) c.self.view_is

pub returns-clause-run : goal.returns-clause-run
returns-clause-run c = ap (λ (scene : SceneView). record scene { clients = c.insert.new.self.items }) c.self.view_is

pub returns-clause-clients : goal.returns-clause-clients
returns-clause-clients c =
    let was = c.self.inside.clients.items in
    let number = c.args.number in
    let none : client_at number c.args.self.now.clients ≡ None = search rules in
    let items : c.insert.new.self.items ≡ insert was c.place_for-place.result c.in_ok-client.client = search rules in
    let place : c.place_for-place.result ≡ place_of number was = search rules in
    items ∙ ap (λ (place : ℕ). insert was place c.in_ok-client.client) place
    ∙ ap (λ (client : ClientView). insert was (place_of number was) client) c.in_ok-client.ensures
    ∙ ap (λ (scene : SceneView). insert scene.clients (place_of number scene.clients) (new_client scene.config number)) c.self.view_is
    ∙ sym (ap (λ (found : Option ClientView). begun_at c.args.self.now.config number c.args.self.now.clients found) none)

pub returns-clause-settled : goal.returns-clause-settled
returns-clause-settled c =
    let items : c.insert.new.self.items ≡ insert c.self.inside.clients.items c.place_for-place.result c.in_ok-client.client = search rules in
    let new : IsSettled c.in_ok-client.client = subst IsSettled (sym c.in_ok-client.ensures) refl in
    let old : All IsSettled c.self.inside.clients.items = subst (λ (scene : SceneView). All IsSettled scene.clients) (sym c.self.view_is) c.requires in
    subst (λ (clients : List ClientView). All IsSettled clients) (sym items) (All-insert IsSettled c.self.inside.clients.items c.place_for-place.result c.in_ok-client.client new old)

pub returns-clause-place : goal.returns-clause-place
returns-clause-place c =
    let items : c.insert.new.self.items ≡ insert c.self.inside.clients.items c.place_for-place.result c.in_ok-client.client = search rules in
    let place : c.place_for-place.result ≡ place_of c.args.number c.self.inside.clients.items = search rules in
    let within : c.place_for-place.result ≤ length c.self.inside.clients.items = search rules in
    let more = length-insert c.self.inside.clients.items c.place_for-place.result c.in_ok-client.client within in (
      place ∙ ap (λ (scene : SceneView). place_of c.args.number scene.clients) c.self.view_is,
      subst (λ (clients : List ClientView). c.place_for-place.result < length clients) (sym items) (omega (arith, more, within)),
    )
