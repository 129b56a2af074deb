use Rattle.std.proofs.Common.{◌≤◌, sym, subst}
use Rattle.bus.specs.Stream.{end_of}
use Rattle.repl_stream.proofs.BlockLemmas.{part_ends, some_where_so}
use Rattle.repl_stream.proofs.node_stream.NodeStream.piece_from.Goals as goal

pub unwrap-requires : goal.unwrap-requires
unwrap-requires g c =
    let inside = subst (λ v. (v.stream.held.first ≤ c.args.from) × (c.args.from ≤ end_of v.stream.held)) (sym c.self.view_is) c.requires in
    let fits = part_ends (g.T.Stream.held c.self.inside.stream) c.args.from 65536 c.end-end.result c.in-Ok.bytes c.in-Ok.ensures.bytes inside c.end-end.ensures c.end-end.type_inv in
    some_where_so c.new.result _ _ c.new.ensures fits
