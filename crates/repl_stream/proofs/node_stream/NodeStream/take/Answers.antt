use Rattle.std.proofs.Common.{◌≤◌, ap, sym, subst, arith}
use Rattle.bus.specs.Stream.{StreamView, received}
use Rattle.repl_stream.proofs.TakingLemmas.{ends, planned_of, puts, takes_so}
use Rattle.repl_stream.proofs.node_stream.NodeStream.take.Goals as goal

pub overflow_sub-self : goal.overflow_sub-self
overflow_sub-self g c =
    let old : StreamView = record { held = g.T.Stream.held c.self.inside.stream; offset = c.self.inside.offset; partial = c.self.inside.partial.items; former = c.self.inside.former } in
    let within = subst (λ v. (v.stream.offset ≤ c.args.place) × (c.args.place ≤ received v.stream)) (sym c.self.view_is) c.requires.within in
    let planned = planned_of _ _ _ _ _ _ _ _ c.front-stayed.ensures c.as_slice.ensures.value c.in_ok-received.ensures in
    let put = puts _ _ _ _ _ _ _ _ c.reserve.ensures.held c.cut_at.ensures.cut c.append.ensures.appended (omega (arith, c.append.ensures.within)) in
    omega (arith, c.len.ensures, c.in_ok-received.received.rest.ok.0, c.end.ensures, ends _ _ old _ _ _ _ _ c.self.invariant within planned put)

pub invariant_of-self-2 : goal.invariant_of-self-2
invariant_of-self-2 g c =
    let old : StreamView = record { held = g.T.Stream.held c.self.inside.stream; offset = c.self.inside.offset; partial = c.self.inside.partial.items; former = c.self.inside.former } in
    let within = subst (λ v. (v.stream.offset ≤ c.args.place) × (c.args.place ≤ received v.stream)) (sym c.self.view_is) c.requires.within in
    let planned = planned_of _ _ _ _ _ _ _ _ c.front-stayed.ensures c.as_slice.ensures.value c.in_ok-received.ensures in
    let put = puts _ _ _ _ _ _ _ _ c.reserve.ensures.held c.cut_at.ensures.cut c.append.ensures.appended (omega (arith, c.append.ensures.within)) in
    omega (arith, c.len.ensures, c.in_ok-received.received.rest.ok.0, c.end.ensures, ends _ _ old _ _ _ _ _ c.self.invariant within planned put)

pub returns-clause-taken : goal.returns-clause-taken
returns-clause-taken g c =
    let old : StreamView = record { held = g.T.Stream.held c.self.inside.stream; offset = c.self.inside.offset; partial = c.self.inside.partial.items; former = c.self.inside.former } in
    let within = subst (λ v. (v.stream.offset ≤ c.args.place) × (c.args.place ≤ received v.stream)) (sym c.self.view_is) c.requires.within in
    let planned = planned_of _ _ _ _ _ _ _ _ c.front-stayed.ensures c.as_slice.ensures.value c.in_ok-received.ensures in
    let put = puts _ _ _ _ _ _ _ _ c.reserve.ensures.held c.cut_at.ensures.cut c.append.ensures.appended (omega (arith, c.append.ensures.within)) in
    takes_so _ _ _ old _ _ _ _ _ _ _ _ (ap (λ v. v.stream) c.self.view_is) c.in_ok-commit.ensures.ok c.stream.ensures c.news_of-news.ensures.news c.self.invariant within planned put
    (omega (arith, c.len.ensures, c.in_ok-received.received.rest.ok.0, c.end.ensures))
