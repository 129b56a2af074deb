use Rattle.std.proofs.Common.{ap, ◌∙◌}
use Rattle.std.proofs.lemmas.Cmp.{nat_list_cmp_total}
use Rattle.std.proofs.lemmas.Map.Lookups.{exact_bytes}
use Rattle.keyspace.proofs.Maps.{get_seen, seen_remove}
use Rattle.keyspace.proofs.Parted.{applied_all, put_pass, removed_pass}
use Rattle.keyspace.specs.Commit.{without}
use Rattle.keyspace.specs.Keyspace.{Keyspace}
use Rattle.keyspace.specs.Putting.{with_pairs}
use Rattle.keyspace.proofs.changes.parted.Goals as goal

pub loop-key-preserved-in-Continue-branch-2 : goal.loop-key-preserved-in-Continue-branch-2
loop-key-preserved-in-Continue-branch-2 c keyspace =
    let left = seen_remove nat_list_cmp_total exact_bytes c.loop-key.changes.entries c.pop_first.new.self.entries c.in-Some.key c.in-Some.ensures.updates.0 in
    let has = get_seen nat_list_cmp_total c.loop-key.changes.entries c.in-Some.key ∙ c.in-Some.ensures.value in
    ap (λ (n : Keyspace). without n c.loop-key.removed.items)
    (put_pass _ _ _ _ left has keyspace _ _ _ c.in-Some-change.is c.in_ok-push-in-Some-change.ensures.items)
    ∙ c.loop-key.invariant keyspace

pub loop-key-preserved : goal.loop-key-preserved
loop-key-preserved c keyspace =
    let left = seen_remove nat_list_cmp_total exact_bytes c.loop-key.changes.entries c.pop_first.new.self.entries c.in-Some.key c.in-Some.ensures.updates.0 in
    let has = get_seen nat_list_cmp_total c.loop-key.changes.entries c.in-Some.key ∙ c.in-Some.ensures.value in
    removed_pass _ _ _ _ left has (with_pairs keyspace c.loop-key.pairs.items) _ _ c.in-None.is c.in_ok-push-in-None.ensures.items ∙ c.loop-key.invariant keyspace

pub returns : goal.returns
returns c keyspace =
    ap (λ (n : Keyspace). without n c.loop-key.removed.items) (applied_all (with_pairs keyspace c.loop-key.pairs.items) c.loop-key.changes.entries c.in_default.ensures.variant.1)
    ∙ c.loop-key.invariant keyspace
