-- How a count of failures goes (ours).
use Rattle.std.specs.Prelude.{◌≡◌, ◌+◌, ◌-◌, ◌^◌, min, ℕ}
use Rattle.resp2.specs.declared.counting.Counting.{Counting}

-- the reader or writer whose calls are counted
abbrev pub inner_of : {D : Type 0} → Counting D → D
inner_of counting = counting.inner

-- how many of its calls failed
abbrev pub failures_of : {D : Type 0} → Counting D → ℕ
failures_of counting = counting.failures

-- the reader or writer as the call that failed last left it
abbrev pub failed_of : {D : Type 0} → Counting D → D
failed_of counting = counting.failed.value

-- the same count with another reader or writer
abbrev pub with_inner : {D : Type 0} → Counting D → D → Counting D
with_inner counting inner = record counting { inner = inner }

-- one more was counted, up to the most that 64 bits hold
abbrev pub HasRisen : ℕ → ℕ → Type 0
HasRisen old new = new ≡ min (old + 1) (2 ^ 64 - 1)
