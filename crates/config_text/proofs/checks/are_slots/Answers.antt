use Rattle.std.proofs.Common.{◌∙◌, ap, sym, rules, refl, arith, List, Option, false}
use Rattle.std.specs.Option.{option_map_or}
use Rattle.cluster_config.specs.Config.{all_pairs, are_apart}
use Rattle.config_text.specs.Faults.{pairs_in, ranges_from}
use Rattle.key_slot.specs.declared.slots.SlotRange.{SlotRange}
use Rattle.config_text.specs.declared.form.NodeDraft.{NodeDraft}
use Rattle.config_text.proofs.FormLemmas.{all_read}
use Rattle.config_text.proofs.checks.are_slots.Goals as goal

pub returns : goal.returns
returns c =
    let ranges = c.loop-node.invariant ∙ all_read (λ (nodes : List NodeDraft). ranges_from (pairs_in nodes)) c.loop-node.ranges.items c.args.nodes.now c.loop-node.node-index (omega arith) refl in
    c.all_pairs.ensures are_apart (λ x y b k. search rules) ∙ ap (all_pairs are_apart) c.as_slice.ensures.value
    ∙ sym (ap (λ (o : Option (List SlotRange)). option_map_or (all_pairs are_apart) o false) ranges)
