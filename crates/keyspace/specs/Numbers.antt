-- Sums of numbers (Redis command reference, INCR: an increment that leads past 64 bits with a sign is an error).
use Rattle.std.specs.Prelude.{ℤ, if◌then◌else◌, Option, Some, None}
use Rattle.command_table.specs.Numbers.{fits}

-- the number, or None where it does not fit
unfoldable pub fitting_number : ℤ → Option ℤ
fitting_number n = if fits n then Some n else None
