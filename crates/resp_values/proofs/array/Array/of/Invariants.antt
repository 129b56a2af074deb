use Rattle.std.proofs.Common.{◌≡◌, ◌∷◌, length, true}
use Rattle.std.specs.List.{flat_map}
use Rattle.resp_values.specs.Array.{has_replies}
use Rattle.resp_values.specs.Reply.{elements_of}
use Rattle.resp_values.specs.declared.array.Element.TheVariants.{Array}
use Rattle.resp_values.proofs.array.Array.of.Given as goal

-- the replies so far stand behind the header
abbrev pub invariant-loop-reply : goal.invariant-loop-reply
invariant-loop-reply l =
    (l.elements.items ≡ Array (length l.fn.replies.items) ∷ flat_map elements_of l.yielded)
    × (has_replies (length l.yielded) (flat_map elements_of l.yielded) ≡ true)
