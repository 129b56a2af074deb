use Rattle.std.proofs.Common.{rules, ◌≡◌, ◌∙◌, ap, List, [], Option, None, length, replicate}
use Rattle.std.specs.Prelude.{slice_get}
use Rattle.cluster_config.specs.declared.config.NodeConfig.{NodeConfig}
use Rattle.connections.specs.declared.conn.Conn.{Conn}
use Rattle.redirection.specs.Address.{Place}
use Rattle.smart_client.specs.State.{ClientState, first_client}
use Rattle.world.specs.Clients.{ClientView, place_at}
use Rattle.world.specs.declared.client.Late.{Late}
use Rattle.world.specs.declared.client.TheConstants.{MOST_REPEATS}
use Rattle.world.specs.declared.client.Traffic.TheVariants.{Quiet}
use Rattle.world.proofs.client.Client.new.Goals as goal

pub returns : goal.returns
returns c =
    let core : c.in_ok-new.field-0 ≡ first_client (place_at (slice_get c.args.config.now.nodes 0)) MOST_REPEATS =
    c.in_ok-new.ensures ∙ ap (λ (place : Place). first_client place MOST_REPEATS) c.in_ok-start.ensures in
    let pool : c.in_ok-empty_pool.field-0.items ≡ replicate (length c.args.config.now.nodes) None =
    c.in_ok-empty_pool.ensures.pool ∙ ap (λ (nodes : List NodeConfig). replicate (length nodes) None) c.nodes.ensures.nodes in
    let late : c.new-2.result.items ≡ [] = search rules in
    let made : ClientState → List (Option Conn) → List Late → ClientView =
    λ core pool late. record { number = c.args.number; core = core; pool = pool; traffic = Quiet; late = late } in
    ap (λ (core : ClientState). made core c.in_ok-empty_pool.field-0.items c.new-2.result.items) core
    ∙ ap (λ (pool : List (Option Conn)). made (first_client (place_at (slice_get c.args.config.now.nodes 0)) MOST_REPEATS) pool c.new-2.result.items) pool
    ∙ ap (λ (late : List Late). made (first_client (place_at (slice_get c.args.config.now.nodes 0)) MOST_REPEATS) (replicate (length c.args.config.now.nodes) None) late) late
