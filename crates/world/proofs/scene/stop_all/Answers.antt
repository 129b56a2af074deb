use Rattle.std.proofs.Common.{rules, ◌≡◌, ◌<◌, ◌+◌, ◌∙◌, ◌∷◌, ◌++◌, [], List, append-nil, append_assoc, ap, sym, get_or, length, set, take}
use Rattle.std.specs.List.{flat_map}
use Rattle.std.proofs.lemmas.Grind.{flat_map-append}
use Rattle.std.proofs.lemmas.List.{length-set, take_more}
use Rattle.std.proofs.lemmas.List.Elements.{All-set}
use Rattle.world_nodes.specs.declared.output.Output.{Output}
use Rattle.world.specs.Clients.{ClientView, IsSettled, lost_at, stopped_at}
use Rattle.world.proofs.Stopping.{one_more, untouched}
use Rattle.world.proofs.scene.stop_all.Goals as goal

pub loop-at-preserved : goal.loop-at-preserved
loop-at-preserved c =
    let f = stopped_at c.args.node in
    let lost = lost_at c.args.node in
    let old = c.args.clients.now.items in
    let at = c.loop-at.at in
    let now = c.index_mut.result.now in
    let so_far = c.loop-at.invariant in
    let within : at < length old = search rules in
    let is : now ≡ get_or c.loop-at.clients.items at now = search rules in
    let was : now ≡ get_or old at now = is ∙ ap (λ (xs : List ClientView). get_or xs at now) so_far.clients ∙ untouched f old at now within in
    let more : flat_map lost (take (at + 1) old) ≡ flat_map lost (take at old) ++ lost (get_or old at now) =
    ap (flat_map lost) (take_more old at now within) ∙ flat_map-append lost (take at old) (get_or old at now ∷ [])
    ∙ ap (λ (xs : List Output). flat_map lost (take at old) ++ xs) (append-nil (lost (get_or old at now))) in
    record {
      clients = ap (λ (client : ClientView). set c.loop-at.clients.items at client) (c.stop.ensures.stopped ∙ ap f was)
          ∙ ap (λ (xs : List ClientView). set xs at (f (get_or old at now))) so_far.clients ∙ one_more f old at now within;
      len = length-set c.loop-at.clients.items at c.stop.new.self ∙ so_far.len;
      settled = All-set IsSettled c.loop-at.clients.items at c.stop.new.self c.stop.ensures.settled so_far.settled;
      outputs = c.in_ok-stop.ensures.outputs ∙ ap (λ (xs : List Output). xs ++ lost now) so_far.outputs
          ∙ append_assoc c.args.outputs.now.items (flat_map lost (take at old)) (lost now)
          ∙ ap (λ (xs : List Output). c.args.outputs.now.items ++ xs) (ap (λ (client : ClientView). flat_map lost (take at old) ++ lost client) was ∙ sym more);
    }
