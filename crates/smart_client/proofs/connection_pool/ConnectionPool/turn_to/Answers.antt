use Rattle.std.proofs.Common.{rules, tests, length, ◌≡◌, ◌==◌, false, ◌∙◌, IsTrue, IsFalse, ap, subst}
use Rattle.std.proofs.lemmas.Iterator.{YieldsList-from_slice}
use Rattle.std.proofs.lemmas.Iterator.Search.{position_from_yields_List}
use Rattle.smart_client.specs.Pool.{is_same, place_in, turned_to, unused}
use Rattle.smart_client.specs.Wires.{Lines}
use Rattle.smart_client.proofs.PoolLemmas.{turns_apart, turns_to, turns_to_none}
use Rattle.smart_client.proofs.connection_pool.ConnectionPool.turn_to.Goals as goal

pub returns-clause-there : goal.returns-clause-there
returns-clause-there g c is =
    let found = position_from_yields_List (λ connection. is_same c.args.address.now connection.address) _ _ c.position-self-inside.result c.position-self-inside.ensures.ran (YieldsList-from_slice c.self.inside.items.items cc) (λ x b q k. search (rules, tests)) in
    turns_to (λ connection. connection.address) c.self.inside.items.items c.args.address.now c.self.inside.used c.position-self-inside.result found (subst IsTrue c.is_some.ensures is)
    ∙ ap (λ (lines : Lines). turned_to c.args.address.now lines.pool) c.self.view_is

pub returns-clause-none : goal.returns-clause-none
returns-clause-none g c is =
    let found = position_from_yields_List (λ connection. is_same c.args.address.now connection.address) _ _ c.position-self-inside.result c.position-self-inside.ensures.ran (YieldsList-from_slice c.self.inside.items.items cc) (λ x b q k. search (rules, tests)) in
    let none = turns_to_none (λ connection. connection.address) c.self.inside.items.items c.args.address.now c.self.inside.used c.position-self-inside.result found (subst IsFalse c.is_some.ensures is) in
    (none.0 ∙ ap (λ (lines : Lines). unused lines.pool) c.self.view_is, subst (λ (lines : Lines). place_in lines.pool.addresses c.args.address.now ≡ length lines.pool.addresses) c.self.view_is none.1)

pub returns-clause-known : goal.returns-clause-known
returns-clause-known g c is =
    let found = position_from_yields_List (λ connection. is_same c.args.address.now connection.address) _ _ c.position-self-inside.result c.position-self-inside.ensures.ran (YieldsList-from_slice c.self.inside.items.items cc) (λ x b q k. search (rules, tests)) in
    subst (λ (lines : Lines). (place_in lines.pool.addresses c.args.address.now == length lines.pool.addresses) ≡ false) c.self.view_is
    (turns_apart (λ connection. connection.address) c.self.inside.items.items c.args.address.now c.self.inside.used c.position-self-inside.result found (subst IsTrue c.is_some.ensures is))
