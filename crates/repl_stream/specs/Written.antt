-- What is put behind a stream.
use Rattle.std.specs.Prelude.{◌≡◌, ℕ, Bool, true, false, List, [], length}
use Rattle.resp_values.specs.Request.{request_spelling}
use Rattle.repl_stream.specs.declared.written.Form.{Form}
use Rattle.repl_stream.specs.declared.written.Form.TheVariants.{Spelled, Shared, Counted}

-- the bytes of writes, and whether they are only counted
pub record WrittenView : Type 0 where
  pub bytes : List ℕ
  pub is_counted : Bool

abbrev pub no_writes : WrittenView
no_writes = record { bytes = []; is_counted = false }

-- ---- No public clause needs these.

abbrev pub bytes_of : Form → List ℕ
bytes_of (Spelled bytes) = bytes.items
bytes_of (Shared bytes) = bytes
bytes_of (Counted count request) = request_spelling request.value

abbrev pub is_counted : Form → Bool
is_counted (Spelled bytes) = false
is_counted (Shared bytes) = false
is_counted (Counted count request) = true

abbrev pub IsCount : Form → Type 0
IsCount (Spelled bytes) = Unit {0}
IsCount (Shared bytes) = Unit {0}
IsCount (Counted count request) = count ≡ length (request_spelling request.value)
