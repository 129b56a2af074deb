-- The pieces that replies are written from (ours). No public clause needs them.
use Rattle.std.specs.Prelude.{ℕ, List, ◌++◌}
use Rattle.std.specs.List.{flat_map}
use Rattle.std.specs.Borrow.{Bor}
use Rattle.resp_values.specs.declared.array.Element.{Element}
use Rattle.resp_values.specs.Reply.{element_spelling, line_spelling}
use Rattle.resp_values.specs.Request.{crlf}
use Rattle.resp2.specs.declared.parts.Parts.{Parts}
use Rattle.resp2.specs.declared.parts.Parts.TheVariants.{Line, Bulk}
use Rattle.resp2.specs.declared.parts.Pieces.{Pieces}
use Rattle.resp2.specs.declared.parts.Pieces.TheVariants.{One, Many}

-- the bytes that the parts spell
abbrev pub parts_spelling : Parts → List ℕ
parts_spelling (Line mark text) = line_spelling mark text.now
parts_spelling (Bulk len bytes) = line_spelling 36 len.now ++ (bytes.now ++ crlf)

-- those of slices, one after another
abbrev pub joined : List (Bor (List ℕ)) → List ℕ
joined slices = flat_map (λ (slice : Bor (List ℕ)). slice.now) slices

-- those of elements
abbrev pub elements_spelling : List Element → List ℕ
elements_spelling elements = flat_map element_spelling elements

-- and those of the pieces
abbrev pub spelled_by : Pieces → List ℕ
spelled_by (One parts) = parts_spelling parts
spelled_by (Many elements) = elements_spelling elements.now
