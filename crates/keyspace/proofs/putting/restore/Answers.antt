use Rattle.std.proofs.Common.{sym, ◌∙◌, true≢false}
use Rattle.keyspace.proofs.Parted.{on_ok}
use Rattle.keyspace.proofs.Restored.{last_over, over_pass, restored_pass}
use Rattle.keyspace.proofs.putting.restore.Goals as goal

pub prove-unreachable-requires : goal.prove-unreachable-requires
prove-unreachable-requires g c =
    true≢false (sym (c.change_key-restored.ensures.over (last_over _ _ _ _ _ c.in-Some.ensures.items c.loop-key.invariant.over)) ∙ sym c.if-prove.ensures.value)

pub loop-key-preserved : goal.loop-key-preserved
loop-key-preserved g c =
    let made = on_ok _ _ c.change_key-restored.ensures.ok c.if-prove.ensures.value in
    record {
      same = restored_pass _ _ _ _ _ c.in-Some.ensures.items _ made ∙ c.loop-key.invariant.same;
      over = over_pass _ _ _ _ _ c.in-Some.ensures.items _ made c.loop-key.invariant.over;
    }
