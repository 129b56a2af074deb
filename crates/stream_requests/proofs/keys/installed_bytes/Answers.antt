use Rattle.std.proofs.Common.{rules, ◌≡◌, ◌<◌, ◌+◌, ◌++◌, ◌∷◌, [], ℕ, List, length, get_or, take, ap, sym, ◌∙◌, arith}
use Rattle.std.proofs.lemmas.List.{take_more}
use Rattle.keyspace.specs.declared.value.Value.{Value}
use Rattle.stream_requests.proofs.SpellingLemmas.{one_more_written}
use Rattle.stream_requests.proofs.keys.installed_bytes.Goals as goal

pub loop-place-preserved : goal.loop-place-preserved
loop-place-preserved g c =
    let pairs = c.args.pairs.now in
    let place = c.loop-place.place in
    let pair = c.index-pairs-place.result in
    let within : place < length pairs = omega (arith, c.loop-place-test.true) in
    let is : pair ≡ get_or pairs place pair = search rules in
    one_more_written (g.S.Store.contents c.args.store.now) (take place pairs) (take (place + 1) pairs) pair c.key.result.now c.key-in-loop-place.result.now c.value.result.now c.is_there_behind-is_there.result
    c.loop-place.bytes.items _ (take_more pairs place pair within ∙ ap (λ (last : List ℕ × Value). take place pairs ++ last ∷ []) (sym is))
    c.key.ensures c.is_there_behind-is_there.ensures c.key-in-loop-place.ensures c.value.ensures c.in_ok-append_rebuilding.ensures c.loop-place.invariant
