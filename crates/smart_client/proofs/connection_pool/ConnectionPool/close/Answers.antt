use Rattle.std.proofs.Common.{◌∙◌, ◌++◌, ap, arith, Option, ℕ, rules}
use Rattle.smart_client.specs.Pool.{closed, without_place}
use Rattle.smart_client.specs.Wires.{Lines, at_place, channel_at}
use Rattle.smart_client.proofs.PoolLemmas.{is_closed, is_gone, is_without, pool_as}
use Rattle.smart_client.proofs.connection_pool.ConnectionPool.close.Goals as goal

pub returns-in-Some-clause-pool : goal.returns-in-Some-clause-pool
returns-in-Some-clause-pool g c =
    ap (λ (used : Option ℕ). pool_as (λ connection. connection.address) c.remove-closed.new.self.items used) (search rules)
    ∙ is_closed (λ connection. connection.address) c.self.inside.items.items c.remove-closed.new.self.items c.in-Some.place c.self.inside.used (search rules) c.remove-closed.ensures.items
    ∙ ap (λ (lines : Lines). closed lines.pool) c.self.view_is

pub returns-in-Some-clause-channels : goal.returns-in-Some-clause-channels
returns-in-Some-clause-channels g c =
    is_without (channel_at g.R.Read.remaining g.W.Write.contents g.R.Reaches.place g.W.Reaches.place) c.self.inside.items.items c.remove-closed.new.self.items c.in-Some.place c.self.inside.used (search rules) c.remove-closed.ensures.items
    ∙ ap (λ (lines : Lines). without_place lines.channels lines.pool.used) c.self.view_is

pub returns-in-Some-clause-closed : goal.returns-in-Some-clause-closed
returns-in-Some-clause-closed g c =
    is_gone (channel_at g.R.Read.remaining g.W.Write.contents g.R.Reaches.place g.W.Reaches.place) c.self.inside.items.items c.remove-closed.result c.in-Some.place c.self.inside.used c.self.inside.closed c.push.new.self
    (search rules) (search (rules, arith)) c.remove-closed.ensures.value c.push.ensures
    ∙ ap (λ (lines : Lines). lines.closed ++ at_place lines.channels lines.pool.used) c.self.view_is
