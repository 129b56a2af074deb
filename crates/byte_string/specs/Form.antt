-- The bytes of a string in each of its forms. No public clause needs it: clauses see the bytes.
use Rattle.std.specs.Prelude.{ℕ, List, take, ⊤}
use Rattle.byte_string.specs.Block.{IsBlock}
use Rattle.byte_string.specs.Short.{IsShort}
use Rattle.byte_string.specs.declared.block.Block.{Block}
use Rattle.byte_string.specs.declared.form.Form.{Form}
use Rattle.byte_string.specs.declared.form.Form.TheVariants.{Short, In40, In56, In72, In104, In136, In184, In248, Buffer}

-- those of a block
abbrev pub bytes_in : {size : ℕ} → Block size → List ℕ
bytes_in block = take block.len block.bytes.value

abbrev pub bytes_of : Form → List ℕ
bytes_of (Short short) = take short.len short.bytes
bytes_of (In40 block) = bytes_in block
bytes_of (In56 block) = bytes_in block
bytes_of (In72 block) = bytes_in block
bytes_of (In104 block) = bytes_in block
bytes_of (In136 block) = bytes_in block
bytes_of (In184 block) = bytes_in block
bytes_of (In248 block) = bytes_in block
bytes_of (Buffer buffer) = buffer.value.items

abbrev pub IsForm : Form → Type 0
IsForm (Short short) = IsShort short
IsForm (In40 block) = IsBlock block
IsForm (In56 block) = IsBlock block
IsForm (In72 block) = IsBlock block
IsForm (In104 block) = IsBlock block
IsForm (In136 block) = IsBlock block
IsForm (In184 block) = IsBlock block
IsForm (In248 block) = IsBlock block
IsForm (Buffer _) = ⊤
