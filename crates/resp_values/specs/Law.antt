-- What holds of arrays, whoever reads or writes them (RESP protocol, "Arrays").
use Rattle.std.specs.Prelude.{◌≡◌, ◌+◌, ◌↔◌, List, IsTrue}
use Rattle.std.specs.List.{AllPass}
use Rattle.resp_values.specs.declared.array.Element.{Element}
use Rattle.resp_values.specs.declared.reply.Reply.{Reply}
use Rattle.resp_values.specs.Array.{is_array, depth_of}
use Rattle.resp_values.specs.Reply.{array_of, is_reply, greatest_depth}

-- elements are an array exactly if they are the array of some replies
abbrev pub ArraysAreOfReplies : Type 0
ArraysAreOfReplies =
    (elements : List Element) → IsTrue (is_array elements) ↔ ((replies : List Reply) × AllPass is_reply replies × (elements ≡ array_of replies))

-- and of no others
abbrev pub ArrayDeterminesReplies : Type 0
ArrayDeterminesReplies =
    (replies others : List Reply) → AllPass is_reply replies → AllPass is_reply others
    → array_of replies ≡ array_of others → replies ≡ others

-- an array nests by one deeper than the deepest of its replies
abbrev pub ArrayIsOneDeeper : Type 0
ArrayIsOneDeeper = (replies : List Reply) → AllPass is_reply replies → depth_of (array_of replies) ≡ greatest_depth replies + 1
