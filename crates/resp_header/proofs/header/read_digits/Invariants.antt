use Rattle.std.proofs.Common.{length, ◌-◌, ◌≡◌, ◌≤◌, drop}
use Rattle.resp_header.specs.Reading.{digits_at}
use Rattle.resp_header.proofs.header.read_digits.Given as goal

abbrev pub invariant-digits : goal.invariant-digits
invariant-digits l =
    (l.at ≤ length l.bytes) × (l.number ≤ l.most)
    × (digits_at l.above l.most l.number (drop l.at l.bytes) ≡ digits_at l.above l.most l.first (drop 2 l.bytes))

abbrev pub decreases-digits : goal.decreases-digits
decreases-digits l = length l.bytes - l.at
