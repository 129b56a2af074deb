use Rattle.std.proofs.Common.{◌∙◌, Bool, ap, sym, subst, map, set, arith, rules, cond}
use Rattle.smart_client.specs.Pool.{Pool, closed}
use Rattle.smart_client.specs.Wires.{Lines, Uses, channel_at, wires_of}
use Rattle.smart_client.proofs.PoolLemmas.{leaves, same_pool, stays}
use Rattle.smart_client.proofs.connection_pool.ConnectionPool.exchange.Goals as goal

pub returns-else-is_lost-clause-pool : goal.returns-else-is_lost-clause-pool
returns-else-is_lost-clause-pool g c =
    same_pool (λ connection. connection.address) c.self.inside.items.items c.in-Some.place c.exchange-event.new.self c.index_mut.result.now c.self.inside.used (search rules)
    ∙ ap (λ (lines : Lines). lines.pool) c.self.view_is
    ∙ ap (λ (lost : Bool). cond lost (closed c.args.self.now.pool) c.args.self.now.pool) (sym c.if-is_lost.false ∙ c.is_lost.ensures)

pub returns-else-is_lost-clause-wires : goal.returns-else-is_lost-clause-wires
returns-else-is_lost-clause-wires g c failures =
    let at = channel_at g.R.Read.remaining g.W.Write.contents g.R.Reaches.place g.W.Reaches.place in
    subst (λ (lines : Lines). Uses c.args.words.now c.exchange-event.result lines.pool.used (wires_of lines failures) (record { channels = map at (set c.self.inside.items.items c.in-Some.place c.exchange-event.new.self); closed = map at c.self.inside.closed; failures = failures })) c.self.view_is
    (stays at c.self.inside.items.items c.in-Some.place c.exchange-event.new.self c.index_mut.result.now c.self.inside.used c.args.words.now c.exchange-event.result (map at c.self.inside.closed) failures
    (search rules) (search (rules, arith)) (search rules) c.exchange-event.ensures.brings (sym c.if-is_lost.false ∙ c.is_lost.ensures))

pub returns-then-is_lost-clause-pool : goal.returns-then-is_lost-clause-pool
returns-then-is_lost-clause-pool g c =
    c.close.ensures.pool
    ∙ ap (λ (pool : Pool). closed pool)
    (same_pool (λ connection. connection.address) c.self.inside.items.items c.in-Some.place c.exchange-event.new.self c.index_mut.result.now c.self.inside.used (search rules)
    ∙ ap (λ (lines : Lines). lines.pool) c.self.view_is)
    ∙ ap (λ (lost : Bool). cond lost (closed c.args.self.now.pool) c.args.self.now.pool) (sym c.if-is_lost.true ∙ c.is_lost.ensures)

pub returns-then-is_lost-clause-wires : goal.returns-then-is_lost-clause-wires
returns-then-is_lost-clause-wires g c failures =
    let at = channel_at g.R.Read.remaining g.W.Write.contents g.R.Reaches.place g.W.Reaches.place in
    subst (λ (lines : Lines). Uses c.args.words.now c.exchange-event.result lines.pool.used (wires_of lines failures) (wires_of c.close.new.self failures)) c.self.view_is
    (leaves at c.self.inside.items.items c.in-Some.place c.exchange-event.new.self c.index_mut.result.now c.self.inside.used c.args.words.now c.exchange-event.result (map at c.self.inside.closed) failures
    c.close.new.self.channels c.close.new.self.closed
    (search rules) (search (rules, arith)) (search rules) c.exchange-event.ensures.brings c.close.ensures.channels c.close.ensures.closed (sym c.if-is_lost.true ∙ c.is_lost.ensures))
