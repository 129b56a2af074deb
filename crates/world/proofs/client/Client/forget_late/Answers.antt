use Rattle.std.proofs.Common.{rules, ◌≡◌}
use Rattle.std.specs.List.{filter}
use Rattle.std.proofs.lemmas.Fn.{filter_same}
use Rattle.world.specs.Clients.{is_elsewhere}
use Rattle.world.proofs.client.Client.forget_late.Goals as goal

pub returns : goal.returns
returns c =
    let filtered : c.retain.new.self.items ≡ filter (is_elsewhere c.args.node) c.self.inside.late.items =
    filter_same _ _ _ (λ late b f called. search rules) _ _ c.retain.ensures.filtered in
    search (rules, filtered)
