use Rattle.std.proofs.Common.{◌<◌, length, arith, ◌∙◌}
use Rattle.key_commands.proofs.Deleting.{counted_pass, removed_pass, small_so_far}
use Rattle.key_commands.proofs.strings.delete.Goals as goal

pub loop-key-preserved : goal.loop-key-preserved
loop-key-preserved g c =
    let within : c.loop-key.key-index < length c.args.keys.now = omega arith in
    let is = c.in_ok-count.ensures in
    record {
      counted = counted_pass _ _ _ _ _ within c.key-item.is is.after _ _ _ is.there c.loop-key.invariant.counted;
      removed = removed_pass _ _ _ _ _ within c.key-item.is is.after ∙ c.loop-key.invariant.removed;
      small = small_so_far _ _ _ _ is.there c.loop-key.invariant.small;
    }
